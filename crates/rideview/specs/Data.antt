-- What the data says of a run.
use Rattle.std.specs.Prelude.{ℕ, ◌≡◌, ◌-◌, ◌==◌, nat_lt, if◌then◌else◌, List, [], ◌∷◌, length, map, sum, slice_get, Option, Some, None}
use Rattle.lift_model.specs.Grant.{Facts}
use Rattle.core_model.specs.Settling.{Settled}
use Rattle.lift_run.specs.Records.{RunData}
use Rattle.script_model.specs.Judging.{ScriptData}
use Rattle.ride_lanes.specs.Cells.{cell_at}
use Rattle.ride_lanes.specs.Losses.{losses_of}
use Rattle.ride_lanes.specs.Moments.{AreMoments}
use Rattle.ride_lanes.specs.Runs.{AreRuns, ticks_of}
use Rattle.ride_lanes.specs.Takers.{takers_of}
use Rattle.ride_lanes.specs.declared.bars.Bar.{Bar}
use Rattle.ride_lanes.specs.declared.cells.Cell.{Cell}
use Rattle.ride_lanes.specs.declared.cells.Cell.TheVariants as cell
use Rattle.ride_lanes.specs.declared.lanes.Lane.{Lane}
use Rattle.ride_lanes.specs.declared.losses.Loss.{Loss}
use Rattle.ride_lanes.specs.declared.moments.Moment.{Moment}
use Rattle.rideview.specs.declared.lane_data.LaneData.{LaneData}
use Rattle.rideview.specs.declared.lane_data.Shown.{Shown}
use Rattle.rideview.specs.declared.lane_data.Shown.TheVariants.{Values, Words}
use Rattle.rideview.specs.declared.lane_data.Value.{Value}
use Rattle.rideview.specs.declared.loss_data.LossData.{LossData}
use Rattle.rideview.specs.declared.ride.Ride.{Ride}

-- the value at place n shows this cell
abbrev pub IsAt : List Value → ℕ → Cell → Type 0
IsAt values n x = (value : Value) × (slice_get values n ≡ Some value) × (value.cell ≡ x)

-- two lists go together, one of each at a time
abbrev pub Together : {X Y : Type 0} → (X → Y → Type 0) → List X → List Y → Type 0
Together P [] ys = ys ≡ []
Together P (x ∷ xs) ys = (y : _) × (rest : List _) × (ys ≡ y ∷ rest) × P x y × Together P xs rest

abbrev pub cell_of : Bar → Cell
cell_of bar = bar.cell

-- the word of a source's cell
abbrev pub word_of : Cell → Option ℕ
word_of (cell.Value word) = word
word_of _ = None

abbrev pub word_of_bar : Bar → Option ℕ
word_of_bar bar = word_of bar.cell

-- what the bars show: each its value, or of a source its word
abbrev pub IsShownOf : List Bar → Shown → Type 0
IsShownOf bars (Values values places) = Together (IsAt values.items) places.items (map cell_of bars)
IsShownOf bars (Words bits words) = words.items ≡ map word_of_bar bars

-- the data of a lane over these ticks: its bars are the runs of what its row says of each tick, and their lengths sum up to all ticks
pub record IsLaneOf (row : Lane) (moments : List Moment) (it : LaneData) : Type 0 where
  pub bars : List Bar
  pub runs : AreRuns 1 (map (cell_at row) moments) bars
  pub lane : it.lane ≡ row
  pub ticks : it.ticks.items ≡ map ticks_of bars
  pub whole : sum it.ticks.items ≡ length moments
  pub shown : IsShownOf bars it.shown

abbrev pub AreLanesOf : List Lane → List Moment → List LaneData → Type 0
AreLanesOf rows moments = Together (λ row it. IsLaneOf row moments it) rows

-- the lanes that took the power, with the image of the tick that did
abbrev pub lanes_from : Option Moment → Loss → List Lane
lanes_from None loss = []
lanes_from (Some moment) loss = takers_of loss.taker moment.sight.facts.image

abbrev pub lanes_at : List Moment → Loss → List Lane
lanes_at moments loss = if loss.cause == 0 then [] else lanes_from (slice_get moments (loss.cause - 1)) loss

pub record IsLossOf (from : Loss) (moments : List Moment) (it : LossData) : Type 0 where
  pub loss : it.loss ≡ from
  pub lanes : it.lanes.items ≡ lanes_at moments from

abbrev pub AreLossesOf : List Loss → List Moment → List LossData → Type 0
AreLossesOf losses moments = Together (λ loss it. IsLossOf loss moments it) losses

-- the data of the run of a script: some lanes, over the ticks of the run, and the losses of its path, each and no other
pub record IsRideOf (script : ScriptData) (run : RunData) (it : Ride) : Type 0 where
  pub moments : List Moment
  pub are : AreMoments script run moments
  pub ticks : it.ticks ≡ length moments
  pub rows : List Lane
  pub lanes : AreLanesOf rows moments it.lanes.items
  pub losses : AreLossesOf (losses_of run.path.settled) moments it.losses.items
