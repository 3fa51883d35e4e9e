-- What a line of one side does: a fault in a replay, a step in a schedule. A simulation has none.
use Rattle.std.specs.Prelude.{ℕ, Bool, true, false, not, ◌&&◌, List, get_or, set, if◌then◌else◌, Option, Some, None, is_some, is_none}
use Rattle.lift_base.specs.declared.Side.{Side}
use Rattle.lift_base.specs.declared.Side.TheVariants.{A, B}
use Rattle.lift_base.specs.declared.Override.TheVariants.{Keep}
use Rattle.lift_model.specs.Records.{FaultData, SideFaultData}
use Rattle.round_model.specs.Giving.{is_place}
use Rattle.round_model.specs.Turns.{is_keep}
use Rattle.script_model.specs.declared.acts.Act.{Act}
use Rattle.script_model.specs.declared.acts.Act.TheVariants as act
use Rattle.script_model.specs.declared.sides.Standing.{Standing}
use Rattle.script_model.specs.declared.sides.SideLine.{SideLine}
use Rattle.script_model.specs.declared.sides.SideLine.TheVariants.{Exchange, Fail, Hold, Word, Value, Contactor, Give, Dismiss, Sample, Publish, Look, Command}

-- the faults of a side in a tick that has none, those of a side that is exchanged, and those of both sides
abbrev pub no_fault : SideFaultData
no_fault = record {
  fail = false;
  hold = false;
  exchange = false;
  publish = None;
  command = None;
  contactor = Keep;
  dismiss = false;
  give
      = None;
}

abbrev pub only_exchanged : SideFaultData
only_exchanged = record no_fault { exchange = true }

abbrev pub no_faults : FaultData
no_faults = record { a = no_fault; b = no_fault }

-- as a tick begins: of each place of the crew whether its object is left there, and how the two sides stand
pub record Standings : Type 0 where
  pub left : List Bool
  pub a : Standing
  pub b : Standing

-- before the first tick both sides are healthy
abbrev pub all_stand : List Bool → Standings
all_stand places = record { left = places; a = record { failed = false; holds = false }; b = record { failed = false; holds = false } }

-- ---- one side: how it stood before the tick, and its faults by the tick's lines so far

-- it has failed, and no line of this tick exchanged it
abbrev pub is_failed : Standing → SideFaultData → Bool
is_failed s f = if f.exchange then false else if f.fail then true else s.failed

-- it holds an object: one that it was given in this tick, or one that this tick did not dismiss; a new side holds none
abbrev pub is_holding : Standing → SideFaultData → Bool
is_holding s f = if f.exchange then false else if is_some f.give then true else if f.dismiss then false else s.holds

-- it is neither failed nor held, and no line of this tick exchanged it
abbrev pub is_acting : Standing → SideFaultData → Bool
is_acting s f = not (is_failed s f) && (not f.hold && not f.exchange)

-- no line of this tick gave it a fault
abbrev pub is_untouched : SideFaultData → Bool
is_untouched f = not f.fail && (not f.hold && (not f.exchange && (is_none f.publish && (is_none f.command && (is_keep f.contactor
    && (not f.dismiss && is_none f.give))))))

-- the place still has its object, where the other side was given this one in the tick
abbrev pub is_left : List Bool → Option ℕ → ℕ → Bool
is_left left other i = get_or left i false && not (is_place i other)

-- ---- a replay

-- The line may stand behind those. What the lines of a side ask of it: `x` and `h` that it acts, the others that it has failed; `g` that
-- it holds nothing, `d` that it holds an object from an earlier tick; `r` that it is the side's first in the tick. None of them says a
-- thing twice, and none comes behind `r` in the same tick.
abbrev pub may_stand : List Bool → Option ℕ → Standing → SideFaultData → SideLine → Bool
may_stand left other s f Exchange = s.failed && is_untouched f
may_stand left other s f Fail = is_acting s f
may_stand left other s f Hold = is_acting s f
may_stand left other s f (Word w) = is_failed s f && is_none f.publish
may_stand left other s f (Value w) = is_failed s f && is_none f.command
may_stand left other s f (Contactor order) = is_failed s f && is_keep f.contactor
may_stand left other s f (Give i) = is_failed s f && (not (is_holding s f) && is_left left other i)
may_stand left other s f Dismiss = is_failed s f && (is_holding s f && is_none f.give)
may_stand left other s f Sample = false
may_stand left other s f Publish = false
may_stand left other s f Look = false
may_stand left other s f Command = false

-- the faults of the side with those of the line
abbrev pub with_line : SideFaultData → SideLine → SideFaultData
with_line f Exchange = record f { exchange = true }
with_line f Fail = record f { fail = true }
with_line f Hold = record f { hold = true }
with_line f (Word w) = record f { publish = Some w }
with_line f (Value w) = record f { command = Some w }
with_line f (Contactor order) = record f { contactor = order }
with_line f (Give i) = record f { give = Some i }
with_line f Dismiss = record f { dismiss = true }
with_line f Sample = f
with_line f Publish = f
with_line f Look = f
with_line f Command = f

-- the same of both sides: the line may come after the tick's lines so far, and what they give with it
abbrev pub may_come : Standings → FaultData → Side → SideLine → Bool
may_come s f A l = may_stand s.left f.b.give s.a f.a l
may_come s f B l = may_stand s.left f.a.give s.b f.b l

abbrev pub faults_with : FaultData → Side → SideLine → FaultData
faults_with f A l = record f { a = with_line f.a l }
faults_with f B l = record f { b = with_line f.b l }

-- the places that are left where a side was given this one
abbrev pub left_by : List Bool → Option ℕ → List Bool
left_by left None = left
left_by left (Some i) = set left i false

-- how a side stands after a tick with these faults, and both
abbrev pub stands_after : Standing → SideFaultData → Standing
stands_after s f = record { failed = is_failed s f; holds = is_holding s f }

abbrev pub standings_after : Standings → FaultData → Standings
standings_after s f = record {
  left = left_by (left_by s.left f.a.give) f.b.give;
  a = stands_after s.a f.a;
  b = stands_after s.b f.b;
}

-- ---- a schedule

-- the act of a step; `h`, `g` and `d` are none
abbrev pub act_of : Side → SideLine → Option Act
act_of side Exchange = Some (act.Exchange side)
act_of side Fail = Some (act.Fail side)
act_of side Hold = None
act_of side (Word w) = Some (act.Word side w)
act_of side (Value w) = Some (act.Value side w)
act_of side (Contactor order) = Some (act.Contactor side order)
act_of side (Give i) = None
act_of side Dismiss = None
act_of side Sample = Some (act.Sample side)
act_of side Publish = Some (act.Publish side)
act_of side Look = Some (act.Look side)
act_of side Command = Some (act.Command side)
