-- The ticks of a ride, as a picture shows them.
use Rattle.std.specs.Prelude.{ℕ, ◌≡◌, ◌+◌, ◌-◌, List, length, take, slice_get, Some}
use Rattle.lift_base.specs.declared.Side.{Side}
use Rattle.lift_base.specs.declared.Side.TheVariants.{A, B}
use Rattle.lift_model.specs.Records.{Settings, InputData, SideFaultData}
use Rattle.lift_model.specs.Grant.{facts_of, verdict_at_end}
use Rattle.round_model.specs.Records.{TurnData}
use Rattle.lift_run.specs.Records.{RunData}
use Rattle.report.specs.Ticks.{settled_at}
use Rattle.script_model.specs.Judging.{ScriptData}
use Rattle.ride_lanes.specs.declared.watcher.Sight.{Sight}
use Rattle.ride_lanes.specs.declared.moments.Moment.{Moment}

-- what the clauses see after these inputs, what they say, and what they said one tick before
abbrev pub sight_after : Settings → List InputData → Sight
sight_after config inputs = record {
  facts = facts_of config inputs;
  verdict = verdict_at_end config inputs;
  before = verdict_at_end config (take (length inputs - 1) inputs);
}

-- what a side did in the round of a tick
abbrev pub turn_at : Side → Moment → TurnData
turn_at A moment = moment.a
turn_at B moment = moment.b

-- what the lines of the script do to a side in it
abbrev pub lines_at : Side → Moment → SideFaultData
lines_at A moment = moment.faults.a
lines_at B moment = moment.faults.b

-- tick t of the run of a script: what it settled, what both sides did, what the clauses see and say, and what the lines do to the sides
pub record IsMoment (script : ScriptData) (run : RunData) (t : ℕ) (moment : Moment) : Type 0 where
  pub tick : moment.tick ≡ t
  pub settled : moment.settled ≡ settled_at run.path.settled t
  pub round : slice_get run.rounds (t - 1) ≡ Some (record { a = moment.a; b = moment.b })
  pub faults : (input : InputData) × (slice_get script.inputs (t - 1) ≡ Some input) × (moment.faults ≡ input.faults)
  pub sight : moment.sight ≡ sight_after script.config (take t script.inputs)

-- the moments are those of tick 1 on, in order; of a run that came to its end there is one for each tick
pub record AreMoments (script : ScriptData) (run : RunData) (moments : List Moment) : Type 0 where
  pub each : (i : ℕ) (moment : Moment) → slice_get moments i ≡ Some moment → IsMoment script run (i + 1) moment
  pub whole : length run.path.settled ≡ length script.inputs → length run.rounds ≡ length script.inputs
      → length moments ≡ length script.inputs
