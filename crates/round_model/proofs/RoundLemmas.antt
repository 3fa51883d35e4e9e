-- A legal round's events are enabled one after another, and leave what the turns tell.
use Rattle.std.proofs.Common.{◌≡◌, ℕ, ◌<◌, Bool, true, false, refl, sym, ap, ◌∙◌, subst, inl, inr, eqb, List, [], ◌∷◌, ◌++◌, length, Option, Some, None}
use Rattle.std.specs.Prelude.{◌⊎◌, ◌&&◌, not}
use Rattle.std.proofs.lemmas.Bool.{lt-ltb, true≢false, eqb-true, eq-eqb}
use Rattle.std.proofs.lemmas.List.{append-nil, append_assoc}
use Rattle.lift_base.specs.declared.Override.{Override}
use Rattle.lift_base.specs.declared.Override.TheVariants.{Keep, Follow, Force}
use Rattle.lift_base.specs.declared.Phase.TheVariants.{Rest}
use Rattle.lift_base.specs.declared.Side.{Side}
use Rattle.lift_base.specs.declared.Side.TheVariants.{A, B}
use Rattle.lift_model.specs.Grant.{grant}
use Rattle.lift_model.specs.Records.{Settings, InputData}
use Rattle.core_model.specs.Decision.{decided}
use Rattle.core_model.specs.Due.{four_steps}
use Rattle.core_model.specs.Machine.{Channel, State, Event, Step, Exchange, exchanged, side_of, with_side, enabled, told_at, next}
use Rattle.core_model.specs.Runs.{CoreRun, then_event, after_all}
use Rattle.core_model.specs.Settling.{Settled, ordered}
use Rattle.core_model.specs.Words.{publish_word, command_word}
use Rattle.round_model.specs.Events.{publish_act, command_act, contactor_act, acts, one_looks_first, side_by_side, moves}
use Rattle.round_model.specs.Parts.{Part, Acting, Held, Failed, Exchanged}
use Rattle.round_model.specs.Records.{TurnData, RoundData}
use Rattle.round_model.specs.Turns.{after}
use Rattle.core_model.specs.declared.SideStep.TheVariants.{Sample, Publish, Look, Command, RoguePublish, RogueCommand, RogueContactor}

-- ---- several events

pub data Steps (config : Settings) : State → List Event → State → Type 0 where
  done : {s : State} → Steps config s [] s
  step : {s t : State} {events : List Event} (event : Event) → enabled config s event ≡ true → Steps config (next config s event) events t
      → Steps config s (event ∷ events) t

pub steps_join : {config : Settings} {s t u : State} {events more : List Event} → Steps config s events t → Steps config t more u
    → Steps config s (events ++ more) u
steps_join done k = k
steps_join (step event on rest) k = step event on (steps_join rest k)

pub steps_after : {config : Settings} {s t : State} {events : List Event} → Steps config s events t → t ≡ after_all config s events
steps_after done = refl
steps_after (step event on rest) = steps_after rest

pub run_steps : {config : Settings} {s t : State} (events more : List Event) → CoreRun config events s → Steps config s more t
    → CoreRun config (events ++ more) t
run_steps {config} {s} events more run done = subst (λ es. CoreRun config es s) (sym (append-nil events)) run
run_steps {config} {s} {t} events more run (step {events = rest} event on steps) =
    subst (λ es. CoreRun config es t) (append_assoc events (event ∷ []) rest)
    (run_steps (events ++ event ∷ []) rest (then_event run event on) steps)

-- ---- one side

unfoldable pub own_word : Settings → List InputData → ℕ
own_word config trace = publish_word (length trace) (grant config trace (length trace))

-- a healthy side after its four steps
unfoldable pub acted : Settings → List InputData → List Settled → Channel → ℕ → Channel
acted config trace path c seen =
    let d = decided c.kept (told_at config trace path (length trace) seen) in
    record {
      failed = c.failed;
      phase = Rest;
      stamp = length trace;
      kept = d.kept;
      forced = c.forced;
      publish = publish_word (length trace) (grant config trace (length trace));
      command = command_word d.command;
      looked = seen;
      seen = seen;
    }

abbrev pub rogued : Channel → TurnData → Channel
rogued c u = record {
  failed = c.failed;
  phase = c.phase;
  stamp = c.stamp;
  kept = c.kept;
  forced =
      ordered c.forced u.contactor;
  publish = after c.publish u.publish;
  command = after c.command u.command;
  looked = c.looked;
  seen =
      c.seen;
}

abbrev pub turned : Settings → State → Part → Channel → TurnData → Channel
turned config s Acting c u = acted config s.trace s.path c u.seen
turned config s Held c u = c
turned config s Failed c u = rogued c u
turned config s Exchanged c u = exchanged

abbrev pub both : State → Channel → Channel → State
both s a b = record { trace = s.trace; path = s.path; a = a; b = b }

-- a healthy side at rest, before its stamp
pub record Fresh (n : ℕ) (c : Channel) : Type 0 where
  pub well : c.failed ≡ false
  pub rest : c.phase ≡ Rest
  pub late : c.stamp < n

module _ (config : Settings) (s : State) where
  can_sample : (c : Channel) → Fresh (length s.trace) c → enabled config (with_side A s c) (Step A Sample) ≡ true
  can_sample c f = let l = lt-ltb _ _ f.late in rw (f.well, f.rest, l) refl

  can : (c : Channel) → Fresh (length s.trace) c → (not c.failed && true) ≡ true
  can c f = rw f.well refl

  -- the four steps of one side
  pub steps_a : Fresh (length s.trace) s.a → Steps config s (four_steps A) (both s (acted config s.trace s.path s.a s.b.publish) s.b)
  unfolding acted
  steps_a f = let go = can s.a f in step (Step A Sample) (can_sample s.a f)
      (step (Step A Publish) go (step (Step A Look) go (step (Step A Command) go done)))

  pub steps_b : Fresh (length s.trace) s.b → Steps config s (four_steps B) (both s s.a (acted config s.trace s.path s.b s.a.publish))
  unfolding acted
  steps_b f = let go = can s.b f in step (Step B Sample) (can_sample s.b f)
      (step (Step B Publish) go (step (Step B Look) go (step (Step B Command) go done)))

  -- both
  pub steps_ab : Fresh (length s.trace) s.a → Fresh (length s.trace) s.b
      → Steps config s (one_looks_first A B) (both s (acted config s.trace s.path s.a s.b.publish)
      (acted config s.trace s.path s.b (own_word config s.trace)))
  unfolding own_word acted
  steps_ab f g = let go = can s.a f in let og = can s.b g in
      step (Step A Sample) (can_sample s.a f) (step (Step A Publish) go (step (Step A Look) go
      (step (Step B Sample) (can_sample s.b g) (step (Step B Publish) og (step (Step B Look) og
      (step (Step A Command) go (step (Step B Command) og done)))))))

  pub steps_ba : Fresh (length s.trace) s.a → Fresh (length s.trace) s.b
      → Steps config s (one_looks_first B A) (both s (acted config s.trace s.path s.a (own_word config s.trace))
      (acted config s.trace s.path s.b s.a.publish))
  unfolding own_word acted
  steps_ba f g = let go = can s.a f in let og = can s.b g in
      step (Step B Sample) (can_sample s.b g) (step (Step B Publish) og (step (Step B Look) og
      (step (Step A Sample) (can_sample s.a f) (step (Step A Publish) go (step (Step A Look) go
      (step (Step B Command) og (step (Step A Command) go done)))))))

  pub steps_together : Fresh (length s.trace) s.a → Fresh (length s.trace) s.b
      → Steps config s side_by_side (both s (acted config s.trace s.path s.a (own_word config s.trace))
      (acted config s.trace s.path s.b (own_word config s.trace)))
  unfolding own_word acted
  steps_together f g = let go = can s.a f in let og = can s.b g in
      step (Step A Sample) (can_sample s.a f) (step (Step B Sample) (can_sample s.b g)
      (step (Step A Publish) go (step (Step B Publish) og (step (Step A Look) go (step (Step B Look) og
      (step (Step A Command) go (step (Step B Command) og done)))))))

-- ---- a failed side

publish_by : (config : Settings) (side : Side) (s : State) → (side_of side s).failed ≡ true → (p : Option ℕ)
    → Steps config s (publish_act side p) (with_side side s (record (side_of side s) { publish = after (side_of side s).publish p }))
publish_by config A s f None = done
publish_by config A s f (Some w) = step (Step A (RoguePublish w)) f done
publish_by config B s f None = done
publish_by config B s f (Some w) = step (Step B (RoguePublish w)) f done

command_by : (config : Settings) (side : Side) (s : State) → (side_of side s).failed ≡ true → (m : Option ℕ)
    → Steps config s (command_act side m) (with_side side s (record (side_of side s) { command = after (side_of side s).command m }))
command_by config A s f None = done
command_by config A s f (Some w) = step (Step A (RogueCommand w)) f done
command_by config B s f None = done
command_by config B s f (Some w) = step (Step B (RogueCommand w)) f done

contactor_by : (config : Settings) (side : Side) (s : State) → (side_of side s).failed ≡ true → (o : Override)
    → Steps config s (contactor_act side o) (with_side side s (record (side_of side s) { forced = ordered (side_of side s).forced o }))
contactor_by config A s f Keep = done
contactor_by config A s f Follow = step (Step A (RogueContactor Follow)) f done
contactor_by config A s f (Force k) = step (Step A (RogueContactor (Force k))) f done
contactor_by config B s f Keep = done
contactor_by config B s f Follow = step (Step B (RogueContactor Follow)) f done
contactor_by config B s f (Force k) = step (Step B (RogueContactor (Force k))) f done

acts_run : (config : Settings) (side : Side) (s : State) → (side_of side s).failed ≡ true → (u : TurnData)
    → Steps config s (acts Failed side u) (with_side side s (rogued (side_of side s) u))
acts_run config A s f u =
    steps_join (publish_by config A s f u.publish)
    (steps_join (command_by config A (both s (record s.a { publish = after s.a.publish u.publish }) s.b) f u.command)
    (contactor_by config A (both s (record s.a {
      publish = after s.a.publish u.publish;
      command =
          after s.a.command u.command;
    }) s.b) f u.contactor))
acts_run config B s f u =
    steps_join (publish_by config B s f u.publish)
    (steps_join (command_by config B (both s s.a (record s.b { publish = after s.b.publish u.publish })) f u.command)
    (contactor_by config B (both s s.a (record s.b {
      publish = after s.b.publish u.publish;
      command =
          after s.b.command u.command;
    })) f u.contactor))

-- ---- the rows of the table

-- what the turn of a side has of its part
abbrev pub Fit : Settings → State → Part → Channel → TurnData → Type 0
Fit config s Acting c u = Fresh (length s.trace) c × (u.publish ≡ Some (own_word config s.trace))
Fit config s Held c u = u.publish ≡ None
Fit config s Failed c u = c.failed ≡ true
Fit config s Exchanged c u = (c.failed ≡ true) × (u.publish ≡ Some 0)

abbrev pub is_acting : Part → Bool
is_acting Acting = true
is_acting Held = false
is_acting Failed = false
is_acting Exchanged = false

old_of : {w new old : ℕ} → eqb w new ≡ false → (w ≡ new) ⊎ (w ≡ old) → w ≡ old
old_of {w} {new} ne (inl e) = absurd (true≢false (sym (eq-eqb w new e) ∙ ne))
old_of ne (inr e) = e

new_of : {w new v now : ℕ} → eqb w new ≡ false → (w ≡ new) ⊎ (v ≡ now) → v ≡ now
new_of {w} {new} ne (inl e) = absurd (true≢false (sym (eq-eqb w new e) ∙ ne))
new_of ne (inr e) = e

same : {w new old : ℕ} → new ≡ old → (w ≡ new) ⊎ (w ≡ old) → w ≡ old
same e (inl k) = k ∙ e
same e (inr k) = k

-- the four steps of one side, which looked at this word
module _ {config : Settings} (t : State) where
  at_a : Fresh (length t.trace) t.a → (w : ℕ) → t.b.publish ≡ w
      → Steps config t (four_steps A) (both t (acted config t.trace t.path t.a w) t.b)
  at_a f w e = subst (λ v. Steps config t (four_steps A) (both t (acted config t.trace t.path t.a v) t.b)) e (steps_a config t f)

  at_b : Fresh (length t.trace) t.b → (w : ℕ) → t.a.publish ≡ w
      → Steps config t (four_steps B) (both t t.a (acted config t.trace t.path t.b w))
  at_b f w e = subst (λ v. Steps config t (four_steps B) (both t t.a (acted config t.trace t.path t.b v))) e (steps_b config t f)

-- a side that is not acting
passive_run : (config : Settings) (p : Part) (side : Side) (s : State) (u : TurnData) → is_acting p ≡ false
    → Fit config s p (side_of side s) u → Steps config s (acts p side u) (with_side side s (turned config s p (side_of side s) u))
passive_run config Acting side s u n f = absurd (true≢false n)
passive_run config Held A s u n f = done
passive_run config Held B s u n f = done
passive_run config Failed side s u n f = acts_run config side s f u
passive_run config Exchanged A s u n f = step (Exchange A) f.0 done
passive_run config Exchanged B s u n f = step (Exchange B) f.0 done

end_word : (config : Settings) (p : Part) (s : State) (c : Channel) (u : TurnData) → is_acting p ≡ false → Fit config s p c u
    → (turned config s p c u).publish ≡ after c.publish u.publish
end_word config Acting s c u n f = absurd (true≢false n)
end_word config Held s c u n f = sym (ap (after c.publish) f)
end_word config Failed s c u n f = refl
end_word config Exchanged s c u n f = sym (ap (after c.publish) f.1)

module _ (config : Settings) (s : State) (r : RoundData) where
  -- the words after the round
  end_a : ℕ
  end_a = after s.a.publish r.a.publish

  end_b : ℕ
  end_b = after s.b.publish r.b.publish

  abbrev Goal : Part → Part → Bool → Bool → Type 0
  Goal p q x y = Steps config s (moves p q x y r) (both s (turned config s p s.a r.a) (turned config s q s.b r.b))

  see : (es : List Event) (w x w' x' : ℕ) → w ≡ w' → x ≡ x'
      → Steps config s es (both s (acted config s.trace s.path s.a w) (acted config s.trace s.path s.b x))
      → Steps config s es (both s (acted config s.trace s.path s.a w') (acted config s.trace s.path s.b x'))
  see es w x w' x' e k h = subst (λ v. Steps config s es (both s (acted config s.trace s.path s.a w')
      (acted config s.trace s.path s.b v))) k (subst (λ v. Steps config s es
      (both s (acted config s.trace s.path s.a v) (acted config s.trace s.path s.b x))) e h)

  pub row : (p q : Part) → Fit config s p s.a r.a → Fit config s q s.b r.b
      → (is_acting p ≡ true → (r.a.seen ≡ after s.b.publish r.b.publish) ⊎ (r.a.seen ≡ s.b.publish))
      → (is_acting q ≡ true → (r.b.seen ≡ after s.a.publish r.a.publish) ⊎ (r.b.seen ≡ s.a.publish))
      → (is_acting p ≡ true → is_acting q ≡ true → (r.a.seen ≡ after s.b.publish r.b.publish) ⊎ (r.b.seen ≡ after s.a.publish r.a.publish))
      → (x y : Bool) → eqb r.a.seen (after s.b.publish r.b.publish) ≡ x → eqb r.b.seen (after s.a.publish r.a.publish) ≡ y
      → Goal p q x y
  row Acting Acting f g sa sb cross false y ex ey =
      see (one_looks_first A B) _ _ _ _ (sym (old_of ex (sa refl))) (sym (new_of ex (cross refl refl) ∙ ap (after s.a.publish) f.1))
      (steps_ab config s f.0 g.0)
  row Acting Acting f g sa sb cross true false ex ey =
      see (one_looks_first B A) _ _ _ _ (sym (eqb-true _ _ ex ∙ ap (after s.b.publish) g.1)) (sym (old_of ey (sb refl)))
      (steps_ba config s f.0 g.0)
  row Acting Acting f g sa sb cross true true ex ey =
      see side_by_side _ _ _ _ (sym (eqb-true _ _ ex ∙ ap (after s.b.publish) g.1)) (sym (eqb-true _ _ ey ∙ ap (after s.a.publish) f.1))
      (steps_together config s f.0 g.0)
  row Acting q f g sa sb cross true y ex ey = steps_join (passive_run config q B s r.b refl g)
      (at_a (both s s.a (turned config s q s.b r.b)) f.0 _ (end_word config q s s.b r.b refl g ∙ sym (eqb-true _ _ ex)))
  row Acting q f g sa sb cross false y ex ey = steps_join (at_a s f.0 _ (sym (old_of ex (sa refl))))
      (passive_run config q B (both s (acted config s.trace s.path s.a r.a.seen) s.b) r.b refl g)
  row p Acting f g sa sb cross x true ex ey = steps_join (passive_run config p A s r.a refl f)
      (at_b (both s (turned config s p s.a r.a) s.b) g.0 _ (end_word config p s s.a r.a refl f ∙ sym (eqb-true _ _ ey)))
  row p Acting f g sa sb cross x false ex ey = steps_join (at_b s g.0 _ (sym (old_of ey (sb refl))))
      (passive_run config p A (both s s.a (acted config s.trace s.path s.b r.b.seen)) r.a refl f)
  row p q f g sa sb cross x y ex ey = steps_join (passive_run config p A s r.a refl f)
      (passive_run config q B (both s (turned config s p s.a r.a) s.b) r.b refl g)
