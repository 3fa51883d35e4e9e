-- Runs that nothing disturbs, and what is due in them. All own.
use Rattle.std.specs.Prelude.{◌≡◌, ℕ, suc, zero, ◌-◌, ◌<◌, ◌≤◌, Bool, true, false, not, ◌&&◌, ◌||◌, if◌then◌else◌, List, [], ◌∷◌, ◌++◌}
use Rattle.lift_base.specs.Ruling.{Ruling}
use Rattle.lift_model.specs.Enums.{Kind, Off, Side, A, B}
use Rattle.lift_model.specs.Grant.{grant}
use Rattle.lift_model.specs.Records.{Settings, InputData}
use Rattle.core_model.specs.Machine.{Event, Tick, Step}
use Rattle.core_model.specs.Runs.{is_tick, tick_count, ever_failed}
use Rattle.core_model.specs.Settling.{Settled, out_at}
use Rattle.core_model.specs.Words.{CommandData, is_off, is_same, command_word}
use Rattle.core_model.specs.declared.SideStep.{SideStep}
use Rattle.core_model.specs.declared.SideStep.TheVariants.{Sample, Publish, Look, Command}
use Rattle.core_model.specs.declared.numbers.TheConstants.{CHANGEOVER}

-- the kind that is granted, where the one due before it was Off or the same; else Off for one tick
abbrev pub due_after : Kind → Kind → Kind
due_after before granted = if is_off before || is_same before granted then granted else Off

-- the kind that is due at a tick, where these are the verdicts of the ticks
unfoldable pub due : (ℕ → Ruling) → ℕ → Kind
due verdicts zero = Off
due verdicts (suc n) = due_after (due verdicts n) (verdicts (suc n)).kind

-- the command that is due at a tick: its reason is the clause's where nothing is granted, and the changeover at a change of kinds
abbrev pub due_command : (ℕ → Ruling) → ℕ → CommandData
due_command verdicts zero = record { stamp = 0; kind = Off; reason = 0; detail = 0; alarm = false }
due_command verdicts (suc n) =
    let v = verdicts (suc n) in
    let k = due verdicts (suc n) in
    record {
      stamp = suc n;
      kind = k;
      reason = if is_off v.kind then v.clause else if is_off k then CHANGEOVER else 0;
      detail = if is_off v.kind then v.detail else 0;
      alarm = not (is_off k) && v.bypass;
    }

-- the step is one of the four of a round
abbrev pub is_of_round : SideStep → Bool
is_of_round Sample = true
is_of_round Publish = true
is_of_round Look = true
is_of_round Command = true
is_of_round step = false

-- the event is one of the four steps of this side
abbrev pub is_step_of : Side → Event → Bool
is_step_of A (Step A step) = is_of_round step
is_step_of B (Step B step) = is_of_round step
is_step_of side event = false

-- there is a Tick
abbrev pub has_tick : List Event → Bool
has_tick [] = false
has_tick (event ∷ events) = is_tick event || has_tick events

-- the steps that a side made since the last Tick, in order
abbrev pub turn : Side → List Event → List Event
turn side [] = []
turn side (event ∷ events) =
    if is_step_of side event && not (has_tick events) then event ∷ turn side events else turn side events

-- a whole round of a side
abbrev pub four_steps : Side → List Event
four_steps side = Step side Sample ∷ Step side Publish ∷ Step side Look ∷ Step side Command ∷ []

-- undisturbed up to t: of t Ticks, as each comes, no side has failed, and each made its four steps once since the Tick before
pub record IsUndisturbed (events : List Event) (t : ℕ) : Type 0 where
  pub ticks : t ≤ tick_count events
  pub whole : (before after : List Event) (input : InputData) → events ≡ before ++ Tick input ∷ after → tick_count before < t
      → (side : Side) → ever_failed side before ≡ false
  pub turns : (before after : List Event) (input : InputData) → events ≡ before ++ Tick input ∷ after → 0 < tick_count before
      → tick_count before < t
      → (side : Side) → turn side before ≡ four_steps side

-- tick t settled what the plain path has there: what is due at the tick before, and no contactor is forced; seen words are left open
pub record IsPlain (config : Settings) (trace : List InputData) (t : ℕ) (s : Settled) : Type 0 where
  pub power : s.power ≡ due (grant config trace) (t - 1)
  pub alarm : s.alarm ≡ (due_command (grant config trace) (t - 1)).alarm
  pub kinds : (side : Side) → (out_at side s).kind ≡ due (grant config trace) (t - 1)
  pub free : (side : Side) → (out_at side s).forced ≡ false
  pub words : (side : Side) → (out_at side s).word ≡ command_word (due_command (grant config trace) (t - 1))
