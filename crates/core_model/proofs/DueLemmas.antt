-- A round that nothing disturbs commands what is due.
use Rattle.std.proofs.Common.{◌≡◌, ℕ, suc, Bool, true, false, refl, cond, List}
use Rattle.std.specs.Prelude.{◌&&◌, not}
use Rattle.lift_base.specs.Ruling.{Ruling}
use Rattle.lift_base.specs.declared.Kind.{Kind}
use Rattle.lift_base.specs.declared.Kind.TheVariants.{Off}
use Rattle.lift_model.specs.Grant.{grant}
use Rattle.lift_model.specs.Records.{Settings, InputData}
use Rattle.core_model.proofs.MachineLemmas.{off_kind}
use Rattle.core_model.specs.Decision.{Kept, Told, decided}
use Rattle.core_model.specs.Due.{due_after, due, due_command}
use Rattle.core_model.specs.Words.{CommandData, is_off, is_same, matches}

-- nothing was missed, and nothing is locked
abbrev pub calm : Kind → Kept
calm last = record { last = last; misses = 0; locked = false; on_open = 0; off_closed = 0 }

abbrev pub command_for : ℕ → Kind → Ruling → CommandData
command_for stamp k v = record {
  stamp = stamp;
  kind = k;
  reason = cond (is_off v.kind) v.clause (cond (is_off k) 16 0);
  detail = cond (is_off v.kind) v.detail 0;
  alarm = not (is_off k) && v.bypass;
}

decided_on : (last : Kind) (t : Told) (off_own off_last same : Bool) → is_off t.own.kind ≡ off_own → is_off last ≡ off_last
    → is_same last t.own.kind ≡ same → matches t.stamp t.own t.before t.seen ≡ true
    → t.closed_a ≡ not (is_off last) → t.closed_b ≡ not (is_off last)
    → decided (calm last) t ≡ record {
      command = command_for t.stamp (due_after last t.own.kind) t.own;
      kept = calm (due_after last t.own.kind);
    }
decided_on last t true true same o l s m a b = let k : t.own.kind ≡ Off = off_kind t.own.kind o in rw (m, a, b, l, k) refl
decided_on last t true false same o l s m a b = let k : t.own.kind ≡ Off = off_kind t.own.kind o in rw (m, a, b, l, k) (rw l refl)
decided_on last t false true same o l s m a b = rw (m, a, b, l, o) refl
decided_on last t false false true o l s m a b = rw (m, a, b, l, o, s) (rw o refl)
decided_on last t false false false o l s m a b = rw (m, a, b, l, o, s) refl

-- a supervisor that nothing disturbs commands what is due, and stays calm
pub decided-calm : (last : Kind) (t : Told) → matches t.stamp t.own t.before t.seen ≡ true → t.closed_a ≡ not (is_off last)
    → t.closed_b ≡ not (is_off last)
    → decided (calm last) t ≡ record {
      command = command_for t.stamp (due_after last t.own.kind) t.own;
      kept = calm (due_after last t.own.kind);
    }
decided-calm last t m a b = decided_on last t (is_off t.own.kind) (is_off last) (is_same last t.own.kind) refl refl refl m a b

pub due_command-suc : (config : Settings) (trace : List InputData) (n : ℕ)
    → due_command (grant config trace) (suc n) ≡ command_for (suc n) (due_after (due (grant config trace) n)
    (grant config trace (suc n)).kind) (grant config trace (suc n))
unfolding due
due_command-suc config trace n = refl
