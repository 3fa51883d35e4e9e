-- What a side saw is the other side's.
use Rattle.std.proofs.Common.{◌≡◌, ℕ, ◌+◌, ◌^◌, ◌<◌, true, false, refl, sym, ap, ◌∙◌, subst, arith, inl, inr, List, [], ◌∷◌, ◌++◌, length}
use Rattle.std.specs.Prelude.{◌⊎◌, not}
use Rattle.std.proofs.lemmas.Bool.{true≢false, and_parts, not-true}
use Rattle.std.proofs.lemmas.List.{append_assoc}
use Rattle.lift_base.specs.declared.Side.{Side}
use Rattle.lift_base.specs.declared.Side.TheVariants.{A, B}
use Rattle.lift_model.specs.Records.{Settings}
use Rattle.core_model.proofs.DecideLemmas.{decided-says}
use Rattle.core_model.proofs.EachTick.{at_each_tick}
use Rattle.core_model.proofs.LockLemmas.{run_on}
use Rattle.core_model.proofs.RunLemmas.{Holds, run_holds}
use Rattle.core_model.proofs.WordLemmas.{stamp_of-command}
use Rattle.core_model.specs.Backed.{LookedAt, SeenIsOthers}
use Rattle.core_model.specs.Decision.{decided}
use Rattle.core_model.specs.Machine.{Channel, State, Event, Tick, Step, Exchange, side_of, other, is_looked, may, enabled, does, next, start, settled_by, told_at}
use Rattle.core_model.specs.Runs.{CoreRun, no_events, then_event, after_all, failed_over}
use Rattle.core_model.specs.Settling.{out_at}
use Rattle.core_model.specs.Words.{stamp_of, command_word}
use Rattle.core_model.specs.declared.SideStep.{SideStep}
use Rattle.core_model.specs.declared.SideStep.TheVariants.{Fail, Sample, Publish, Look, Command, RoguePublish, RogueCommand, RogueContactor}

-- where it is healthy, the word that it looked at last, and the one that it saw for its command
pub record Saw (config : Settings) (events : List Event) (side : Side) (c : Channel) : Type 0 where
  pub looked : c.failed ≡ false → is_looked c.phase ≡ true → LookedAt config events side c.stamp c.looked
  pub seen : c.failed ≡ false → (c.seen ≡ 0) ⊎ LookedAt config events side (stamp_of c.command) c.seen

module _ {config : Settings} {events : List Event} {side : Side} (e : Event) where
  looked-later : {ticks seen : ℕ} → LookedAt config events side ticks seen → LookedAt config (events ++ e ∷ []) side ticks seen
  looked-later l = record {
    before = l.before;
    rest = l.rest ++ e ∷ [];
    look = ap (λ es. es ++ e ∷ []) l.look ∙ append_assoc l.before (Step side Look ∷ l.rest) (e ∷ []);
    recent = l.recent;
    stood = l.stood;
  }

  seen-later : {c : Channel} → Saw config events side c → c.failed ≡ false
      → (c.seen ≡ 0) ⊎ LookedAt config (events ++ e ∷ []) side (stamp_of c.command) c.seen
  seen-later s well = elim (s.seen well) [ inl none ↦ inl none | inr l ↦ inr (looked-later l) ]

  saw-later : {c : Channel} → Saw config events side c → Saw config (events ++ e ∷ []) side c
  saw-later s = record { looked = λ well now. looked-later (s.looked well now); seen = seen-later s }

-- of a side that has failed nothing is said
saw_failed : (config : Settings) (events : List Event) (side : Side) (c : Channel) → c.failed ≡ true → Saw config events side c
saw_failed config events side c f =
    record { looked = λ well. absurd (true≢false (sym f ∙ well)); seen = λ well. absurd (true≢false (sym f ∙ well)) }

-- a step of the side, after these events
does_see : (config : Settings) (events : List Event) (s : State) → after_all config start events ≡ s → Holds config events s
    → config.ticks < 2 ^ 24 → (side : Side) (step : SideStep) → may (side_of side s) (length s.trace) step ≡ true
    → Saw config events side (side_of side s)
    → Saw config (events ++ Step side step ∷ []) side
    (does config s.trace s.path (side_of (other side) s).publish step (side_of side s))
does_see config events s at h small side Fail on w = saw_failed config _ side _ refl
does_see config events s at h small side Sample on w =
    record { looked = λ _ now. absurd (true≢false (sym now)); seen = seen-later (Step side Sample) w }
does_see config events s at h small side Publish on w =
    record { looked = λ _ now. absurd (true≢false (sym now)); seen = seen-later (Step side Publish) w }
does_see config events s at h small side Look on w = record {
  looked = λ _ _. record {
    before = events;
    rest = [];
    look = refl;
    recent = omega (arith, (h.sound side).stamp, h.ticks);
    stood = ap (λ (t : State). (side_of (other side) t).publish) (sym at);
  };
  seen = seen-later (Step side Look) w;
}
does_see config events s at h small side Command on w =
    let c = side_of side s in
    let d = decided c.kept (told_at config s.trace s.path c.stamp c.looked) in
    let says = decided-says c.kept (told_at config s.trace s.path c.stamp c.looked) in
    let stamped : stamp_of (command_word d.command) ≡ c.stamp = stamp_of-command d.command
    (omega (arith, says.stamp, (h.sound side).stamp, h.few)) ∙ says.stamp in
    record {
      looked = λ _ now. absurd (true≢false (sym now));
      seen = λ well. inr (subst (λ n. LookedAt config (events ++ Step side Command ∷ []) side n c.looked) (sym stamped)
          (looked-later (Step side Command) (w.looked well (and_parts _ _ on).1)));
    }
does_see config events s at h small side (RoguePublish word) on w = saw_failed config _ side _ on
does_see config events s at h small side (RogueCommand word) on w = saw_failed config _ side _ on
does_see config events s at h small side (RogueContactor order) on w = saw_failed config _ side _ on

-- a new side looked at nothing, and saw none
module _ (config : Settings) (events : List Event) (side : Side) (c : Channel) (rest : is_looked c.phase ≡ false) (none : c.seen ≡ 0) where
  saw_none : Saw config events side c
  saw_none = record { looked = λ _ now. absurd (true≢false (sym now ∙ rest)); seen = λ _. inl none }

-- one event more
event_sees : (config : Settings) (events : List Event) (s : State) → config.ticks < 2 ^ 24 → CoreRun config events s
    → ((side : Side) → Saw config events side (side_of side s)) → (e : Event) → enabled config s e ≡ true
    → (side : Side) → Saw config (events ++ e ∷ []) side (side_of side (next config s e))
event_sees config events s small run w (Tick input) on A = saw-later (Tick input) (w A)
event_sees config events s small run w (Tick input) on B = saw-later (Tick input) (w B)
event_sees config events s small run w (Step A step) on A =
    does_see config events s (run_on run).1 (run_holds config events s small run) small A step on (w A)
event_sees config events s small run w (Step A step) on B = saw-later (Step A step) (w B)
event_sees config events s small run w (Step B step) on A = saw-later (Step B step) (w A)
event_sees config events s small run w (Step B step) on B =
    does_see config events s (run_on run).1 (run_holds config events s small run) small B step on (w B)
event_sees config events s small run w (Exchange A) on A = saw_none config _ A _ refl refl
event_sees config events s small run w (Exchange A) on B = saw-later (Exchange A) (w B)
event_sees config events s small run w (Exchange B) on A = saw-later (Exchange B) (w A)
event_sees config events s small run w (Exchange B) on B = saw_none config _ B _ refl refl

run_sees : (config : Settings) (events : List Event) (s : State) → config.ticks < 2 ^ 24 → CoreRun config events s
    → (side : Side) → Saw config events side (side_of side s)
run_sees config _ _ small no_events A = saw_none config [] A _ refl refl
run_sees config _ _ small no_events B = saw_none config [] B _ refl refl
run_sees config _ _ small (then_event {events} {s} run e on) side =
    event_sees config events s small run (λ x. run_sees config events s small run x) e on side

-- In every run the words that healthy sides saw are the other side's.
pub run_sees_others : (config : Settings) (events : List Event) (s : State) → config.ticks < 2 ^ 24 → CoreRun config events s
    → SeenIsOthers config events s.path
run_sees_others config events s small run t some old side healthy =
    at_each_tick config small
    (λ es st. (x : Side) → not (failed_over x false es) ≡ true
    → ((out_at x st).seen ≡ 0) ⊎ LookedAt config es x (stamp_of (out_at x st).word) (out_at x st).seen)
    (λ es u r x well. each es u r x (not-true _ well)) events s run t some old side healthy
  where
    each : (es : List Event) (u : State) → CoreRun config es u → (x : Side) → failed_over x false es ≡ false
        → let out = out_at x (settled_by u.a u.b (length u.trace + 1)) in (out.seen ≡ 0) ⊎ LookedAt config es x (stamp_of out.word) out.seen
    each es u r A well = (run_sees config es u small r A).seen ((run_holds config es u small r).fails A ∙ well)
    each es u r B well = (run_sees config es u small r B).seen ((run_holds config es u small r).fails B ∙ well)
