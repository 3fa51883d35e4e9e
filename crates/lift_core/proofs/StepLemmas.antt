-- A step of a core is a step of the machine.
use Rattle.std.proofs.Common.{◌≡◌, ℕ, ◌+◌, ◌<◌, ◌≤◌, ◌^◌, List, [], ◌∷◌, ◌++◌, length, take, Bool, true, false, refl, sym, ap, ◌∙◌, subst, arith, rules}
use Rattle.std.specs.Prelude.{nat_lt, not}
use Rattle.std.proofs.lemmas.Bool.{true≢false, ltb-true}
use Rattle.std.proofs.lemmas.List.{take-append-le}
use Rattle.lift_model.specs.Records.{Settings, InputData, TraceData}
use Rattle.lift_model.specs.Enums.{Side, A, B, Rest}
use Rattle.contactor_pair.specs.Settles.{PathData}
use Rattle.core_model.proofs.LockLemmas.{run_locks_out, run_starts_open}
use Rattle.core_model.proofs.PlainLemmas.{run_plain}
use Rattle.core_model.proofs.RunLemmas.{run_holds, Holds, run_backed}
use Rattle.core_model.proofs.TruthLemmas.{values_true}
use Rattle.core_model.specs.History.{IsLockedOut, StartsAreOpen}
use Rattle.core_model.specs.Machine.{Channel, Event, Tick, Step, Exchange, next, with_side, side_of, settled_by, may, does, new_channel, exchanged, start, commanded}
use Rattle.core_model.specs.Decision.{Kept, Told, decided}
use Rattle.core_model.specs.Words.{command_word}
use Rattle.core_model.specs.Runs.{CoreRun, no_events, then_event}
use Rattle.core_model.specs.Settling.{Settled}
use Rattle.lift_core.specs.Parts.{HalfData, CoreData, state_of}
use Rattle.lift_core.specs.StandsFor.{StandsFor, Promised}
use Rattle.core_model.specs.declared.SideStep.{SideStep}

not_false : (b : Bool) → not b ≡ false → b ≡ true
not_false true e = refl
not_false false e = absurd (true≢false e)

-- a tick may come
pub has_room : {CA CB : Type 0} (core now : CoreData CA CB) → core ≡ now → not (nat_lt (length now.trace.inputs) now.config.ticks) ≡ false
    → length core.trace.inputs < core.config.ticks
has_room {CA} {CB} core now is e =
    ltb-true _ _ (not_false _ (subst (λ (x : CoreData CA CB). not (nat_lt (length x.trace.inputs) x.config.ticks) ≡ false) (sym is) e))

-- what a side is after its Command
pub commanded_is : (c : Channel) (t t' : Told) (word : ℕ) (kept : Kept) → word ≡ command_word (decided c.kept t).command
    → kept ≡ (decided c.kept t).kept → t ≡ t'
    → record c { phase = Rest; kept = kept; command = word; seen = c.looked } ≡ commanded c t'
commanded_is c t t' word kept w k is =
    subst (λ (x : Told). record c { phase = Rest; kept = kept; command = word; seen = c.looked } ≡ commanded c x) is (rw (w, k) refl)

-- before the first event
pub starts : {CA CB : Type 0} (sa : CA → Settings → List InputData → Type 0) (sb : CB → Settings → List InputData → Type 0)
    (config : Settings) (trace : TraceData) (path : PathData)
    (a : HalfData CA) (b : HalfData CB) {ca : CA} {cb : CB} → config.ticks < 2 ^ 24 → trace ≡ record { inputs = []; room = config.ticks }
    → path ≡ record { settled = []; room = config.ticks }
    → a ≡ record { side = new_channel; channel = ca } → b ≡ record { side = new_channel; channel = cb } → sa ca config [] → sb cb config []
    → StandsFor sa sb (record { config = config; trace = trace; path = path; a = a; b = b }) config []
starts {CA} {CB} sa sb config trace path a b {ca} {cb} few t p ha hb new_a new_b =
    let core : CoreData CA CB = record { config = config; trace = trace; path = path; a = a; b = b } in
    let is : state_of core ≡ start = rw (t, p, ha, hb) refl in
    record {
      settings = refl;
      few = few;
      inputs_room = ap (λ (x : TraceData). x.room) t;
      path_room = ap (λ (x : PathData). x.room) p;
      run = subst (CoreRun config []) (sym is) no_events;
      channel_a = rw (t, ha) new_a;
      channel_b = rw (t, hb) new_b;
    }

module _ {CA CB : Type 0} (sa : CA → Settings → List InputData → Type 0) (sb : CB → Settings → List InputData → Type 0)
    (core : CoreData CA CB) (config : Settings) (events : List Event) (h : StandsFor sa sb core config events) where
  holds : Holds config events (state_of core)
  holds = run_holds config events (state_of core) h.few h.run

  pub few : length core.trace.inputs ≤ config.ticks
  few = holds.few

  pub settled : length core.path.settled ≡ length core.trace.inputs
  settled = holds.settled

  pub past : (side : Side) → (side_of side (state_of core)).stamp ≤ length core.trace.inputs
  past side = (holds.sound side).stamp

  -- what a side makes of a step, where this is the other's publish word
  pub a_steps : (step : SideStep) (peer : ℕ) (half : HalfData CA) → peer ≡ core.b.side.publish
      → may core.a.side (length core.trace.inputs) step ≡ true
      → half.side ≡ does config core.trace.inputs core.path.settled peer step core.a.side
      → sa half.channel config (take half.side.stamp core.trace.inputs)
      → StandsFor sa sb (record core { a = half }) config (events ++ Step A step ∷ [])
  a_steps step peer half other_is on made stands = record {
    settings = h.settings;
    few = h.few;
    inputs_room = h.inputs_room;
    path_room = h.path_room;
    run = subst (CoreRun config (events ++ Step A step ∷ []))
        (ap (with_side A (state_of core)) (ap (λ (p : ℕ). does config core.trace.inputs core.path.settled p step core.a.side)
        (sym other_is) ∙ sym made))
        (then_event h.run (Step A step) on);
    channel_a = stands;
    channel_b = h.channel_b;
  }

  pub b_steps : (step : SideStep) (peer : ℕ) (half : HalfData CB) → peer ≡ core.a.side.publish
      → may core.b.side (length core.trace.inputs) step ≡ true
      → half.side ≡ does config core.trace.inputs core.path.settled peer step core.b.side
      → sb half.channel config (take half.side.stamp core.trace.inputs)
      → StandsFor sa sb (record core { b = half }) config (events ++ Step B step ∷ [])
  b_steps step peer half other_is on made stands = record {
    settings = h.settings;
    few = h.few;
    inputs_room = h.inputs_room;
    path_room = h.path_room;
    run = subst (CoreRun config (events ++ Step B step ∷ []))
        (ap (with_side B (state_of core)) (ap (λ (p : ℕ). does config core.trace.inputs core.path.settled p step core.b.side)
        (sym other_is) ∙ sym made))
        (then_event h.run (Step B step) on);
    channel_b = stands;
    channel_a = h.channel_a;
  }

  -- a new side in the place of a failed one
  pub a_exchanged : (half : HalfData CA) (fresh : CA) → core.a.side.failed ≡ true → half ≡ record { side = exchanged; channel = fresh }
      → sa fresh config [] → StandsFor sa sb (record core { a = half }) config (events ++ Exchange A ∷ [])
  a_exchanged half fresh failed is new = record {
    settings = h.settings;
    few = h.few;
    inputs_room = h.inputs_room;
    path_room = h.path_room;
    run = subst (CoreRun config (events ++ Exchange A ∷ []))
        (ap (with_side A (state_of core)) (sym (ap (λ (x : HalfData CA). x.side) is))) (then_event h.run (Exchange A) failed);
    channel_a = rw is new;
    channel_b = h.channel_b;
  }

  pub b_exchanged : (half : HalfData CB) (fresh : CB) → core.b.side.failed ≡ true → half ≡ record { side = exchanged; channel = fresh }
      → sb fresh config [] → StandsFor sa sb (record core { b = half }) config (events ++ Exchange B ∷ [])
  b_exchanged half fresh failed is new = record {
    settings = h.settings;
    few = h.few;
    inputs_room = h.inputs_room;
    path_room = h.path_room;
    run = subst (CoreRun config (events ++ Exchange B ∷ []))
        (ap (with_side B (state_of core)) (sym (ap (λ (x : HalfData CB). x.side) is))) (then_event h.run (Exchange B) failed);
    channel_b = rw is new;
    channel_a = h.channel_a;
  }

  -- the laws over its run
  pub promised : Promised config events (state_of core)
  promised = record {
    backed = run_backed config events (state_of core) h.few h.run;
    values = values_true config events (state_of core) h.few h.run;
    plain = run_plain config events (state_of core) h.few h.run;
  }

  pub locked_out : IsLockedOut config events (state_of core).path
  locked_out = run_locks_out config events (state_of core) h.few h.run

  pub open_starts : StartsAreOpen config events
  open_starts = run_starts_open config events (state_of core) h.few h.run

  pub path_has_room : length core.trace.inputs < core.config.ticks → length core.path.settled < core.path.room
  path_has_room room = let same = ap (λ (c : Settings). c.ticks) h.settings in omega (arith, settled, h.path_room, same, room)

  pub inputs_have_room : length core.trace.inputs < core.config.ticks → length core.trace.inputs < core.trace.room
  inputs_have_room room = let same = ap (λ (c : Settings). c.ticks) h.settings in omega (arith, h.inputs_room, same, room)

  pub settles : (input : InputData) (s : Settled) (trace : TraceData) (path : PathData) (ticks : ℕ)
      → length core.trace.inputs < core.config.ticks
      → trace ≡ record { inputs = core.trace.inputs ++ input ∷ []; room = core.trace.room }
      → ticks ≡ length core.trace.inputs → s ≡ settled_by core.a.side core.b.side (ticks + 1)
      → path ≡ record { settled = core.path.settled ++ s ∷ []; room = core.path.room }
      → StandsFor sa sb (record core { trace = trace; path = path }) config (events ++ Tick input ∷ [])
  settles input s trace path ticks room t at by p =
      let same = ap (λ (c : Settings). c.ticks) h.settings in
      let below : length core.trace.inputs < config.ticks = omega (arith, same, room) in
      let on : nat_lt (length core.trace.inputs) config.ticks ≡ true = search rules in
      let core' : CoreData CA CB = record core { trace = trace; path = path } in
      let is : next config (state_of core) (Tick input) ≡ state_of core' = rw (t, p, by, at) refl in
      record {
        settings = h.settings;
        few = h.few;
        inputs_room = ap (λ (x : TraceData). x.room) t ∙ h.inputs_room;
        path_room = ap (λ (x : PathData). x.room) p ∙ h.path_room;
        run = subst (CoreRun config (events ++ Tick input ∷ [])) is (then_event h.run (Tick input) on);
        channel_a = rw t (rw (take-append-le core.a.side.stamp core.trace.inputs (input ∷ []) (past A)) h.channel_a);
        channel_b = rw t (rw (take-append-le core.b.side.stamp core.trace.inputs (input ∷ []) (past B)) h.channel_b);
      }
