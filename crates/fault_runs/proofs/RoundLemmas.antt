-- The events of a round on the core: how they join, what they leave, and the parts of both sides.
use Rattle.std.proofs.Common.{◌≡◌, ◌∙◌, refl, sym, ap, subst, append_assoc, Bool, true, false, cond, List, [], ◌∷◌, ◌++◌, Result, Ok, Err, IfOk, OnOk}
use Rattle.std.specs.Prelude.{◌||◌, ◌&&◌, not}
use Rattle.std.proofs.lemmas.List.{append-nil}
use Rattle.lift_base.specs.declared.Side.{Side}
use Rattle.lift_base.specs.declared.Side.TheVariants.{A, B}
use Rattle.lift_model.specs.Records.{Settings, InputData}
use Rattle.core_model.proofs.LockLemmas.{run_on, run_split}
use Rattle.core_model.specs.Machine.{State, Event, Tick, Step, side_of, next}
use Rattle.core_model.specs.Runs.{after_all}
use Rattle.core_model.specs.declared.SideStep.TheVariants.{Fail}
use Rattle.lift_core.specs.Parts.{CoreData, state_of}
use Rattle.lift_core.specs.StandsFor.{StandsFor}
use Rattle.round_model.specs.Parts.{Part, faults_of, part_by, failed_by}
use Rattle.core_model.specs.Settling.{Settled}
use Rattle.fault_plan.specs.declared.words.TickWords.{TickWords}
use Rattle.fault_runs.specs.declared.looks.Looks.{Looks}
use Rattle.fault_runs.specs.Rounds.{Leads, RunsIn, no_rounds, then_round, IsCoreRun, begins, events_in, part_at, words_at}

-- ---- events one after the other

module _ {CA CB : Type 0} {stands_a : CA → Settings → List InputData → Type 0} {stands_b : CB → Settings → List InputData → Type 0} where
  pub leads_nowhere : (core : CoreData CA CB) → Leads stands_a stands_b core core []
  leads_nowhere core config events h = subst (λ es. StandsFor stands_a stands_b core config es) (sym (append-nil events)) h

  pub leads_on : (core mid later : CoreData CA CB) (xs ys : List Event) → Leads stands_a stands_b core mid xs
      → Leads stands_a stands_b mid later ys → Leads stands_a stands_b core later (xs ++ ys)
  leads_on core mid later xs ys first second config events h =
      subst (λ es. StandsFor stands_a stands_b later config es) (append_assoc events xs ys)
      (second config (events ++ xs) (first config events h))

  -- the state that they leave
  pub leads_state : (core later : CoreData CA CB) (config : Settings) (events more : List Event)
      → StandsFor stands_a stands_b core config events → StandsFor stands_a stands_b later config (events ++ more)
      → state_of later ≡ after_all config (state_of core) more
  leads_state core later config events more h k =
      (run_split events more k.run).2 ∙ ap (λ s. after_all config s more) (run_on h.run).1

-- what follows from the value of a result
pub on_ok : {T E P Q : Type 0} (r : Result T E) → (P → Q) → OnOk r P → OnOk r Q
on_ok (Ok x) f p = f p
on_ok (Err e) f p = tt

pub if_ok : {T E : Type 0} {P Q : T → Type 0} (r : Result T E) → ((x : T) → P x → Q x) → IfOk r P → IfOk r Q
if_ok (Ok x) f p = f x p
if_ok (Err e) f p = tt

pub if_ok_at_all : {T E P : Type 0} (r : Result T E) → P → IfOk r (λ _. P)
if_ok_at_all (Ok x) p = p
if_ok_at_all (Err e) p = tt

-- ---- the part of a side, where the tick has begun

or_true : (b : Bool) → true ≡ (b || true)
or_true true = refl
or_true false = refl

or_false : (b : Bool) → b ≡ (b || false)
or_false true = refl
or_false false = refl

abbrev fails : Side → Bool → List Event
fails side b = cond b (Step side Fail ∷ []) []

abbrev of_both : Side → Bool → Bool → Bool
of_both A a b = a
of_both B a b = b

fails_by : (config : Settings) (s : State) (a b : Bool) (side : Side)
    → (side_of side (after_all config s (fails A a ++ fails B b))).failed ≡ ((side_of side s).failed || of_both side a b)
fails_by config s true true A = or_true s.a.failed
fails_by config s true true B = or_true s.b.failed
fails_by config s true false A = or_true s.a.failed
fails_by config s true false B = or_false s.b.failed
fails_by config s false true A = or_false s.a.failed
fails_by config s false true B = or_true s.b.failed
fails_by config s false false A = or_false s.a.failed
fails_by config s false false B = or_false s.b.failed

-- it had failed, or fails by its line
failed_begun : (config : Settings) (s : State) (input : InputData) (side : Side)
    → (side_of side (after_all config s (begins input))).failed ≡ ((side_of side s).failed || (faults_of side input).fail)
failed_begun config s input A = fails_by config (next config s (Tick input)) input.faults.a.fail input.faults.b.fail A
failed_begun config s input B = fails_by config (next config s (Tick input)) input.faults.a.fail input.faults.b.fail B

same_part : (exchange failed hold : Bool) → part_by exchange failed hold ≡ part_by exchange (not exchange && failed) hold
same_part true failed hold = refl
same_part false failed hold = refl

-- so the part that is read off the state there is that of the round
pub part_begun : (config : Settings) (s t : State) (input : InputData) (side : Side) → t ≡ after_all config s (begins input)
    → part_by (faults_of side input).exchange (side_of side t).failed (faults_of side input).hold ≡ part_at side s input
part_begun config s t input side left =
    let f = faults_of side input in
    ap (λ b. part_by f.exchange b f.hold) (ap (λ u. (side_of side u).failed) left ∙ failed_begun config s input side)
    ∙ same_part f.exchange ((side_of side s).failed || f.fail) f.hold

-- ---- a run so far

-- these inputs, in this order of the looks, lead to the core
pub record IsSoFar {CA CB : Type 0} (stands_a : CA → Settings → List InputData → Type 0)
    (stands_b : CB → Settings → List InputData → Type 0) (config : Settings) (looks : Looks) (inputs : List InputData)
    (words : List TickWords) (core : CoreData CA CB) : Type 0 where
  pub events : List Event
  pub rounds : RunsIn config looks inputs events words (state_of core)
  pub stands : StandsFor stands_a stands_b core config events

module _ {CA CB : Type 0} {stands_a : CA → Settings → List InputData → Type 0} {stands_b : CB → Settings → List InputData → Type 0} where
  pub begun : (config : Settings) (looks : Looks) (core : CoreData CA CB) → StandsFor stands_a stands_b core config []
      → IsSoFar stands_a stands_b config looks [] [] core
  begun config looks core h = record {
    events = [];
    rounds = subst (RunsIn config looks [] [] []) (run_on h.run).1 no_rounds;
    stands = h;
  }

  pub gone_on : (config : Settings) (looks : Looks) (inputs : List InputData) (words : List TickWords) (core later : CoreData CA CB)
      (input : InputData) → IsSoFar stands_a stands_b config looks inputs words core
      → Leads stands_a stands_b core later (events_in looks (state_of core) input)
      → IsSoFar stands_a stands_b config looks (inputs ++ input ∷ []) (words ++ words_at (state_of later) ∷ []) later
  gone_on config looks inputs words core later input h leads =
      let more = events_in looks (state_of core) input in
      let stands : StandsFor stands_a stands_b later config (h.events ++ more) = leads config h.events h.stands in
      let left : state_of later ≡ after_all config (state_of core) more = leads_state core later config h.events more h.stands stands in
      record {
        events = h.events ++ more;
        rounds = subst (λ s. RunsIn config looks (inputs ++ input ∷ []) (h.events ++ more) (words ++ words_at s ∷ []) s) (sym left)
            (then_round h.rounds input);
        stands = stands;
      }

  pub ended : (config : Settings) (looks : Looks) (inputs : List InputData) (words : List TickWords) (core : CoreData CA CB)
      (path : List Settled) → path ≡ (state_of core).path → IsSoFar stands_a stands_b config looks inputs words core
      → IsCoreRun config looks inputs path words
  ended config looks inputs words core path same h = record {
    events = h.events;
    state = state_of core;
    rounds = h.rounds;
    run = h.stands.run;
    same_path = same;
  }
