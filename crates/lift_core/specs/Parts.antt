-- What the parts of a core are seen as.
use Rattle.lift_model.specs.Records.{Settings, TraceData}
use Rattle.contactor_pair.specs.Settles.{PathData}
use Rattle.core_model.specs.Machine.{State, Channel}
use Rattle.lift_core.specs.declared.stepping.Words.{Words}

-- a side of the machine, and its channel
pub record HalfData (C : Type 0) : Type 0 where
  pub side : Channel
  pub channel : C

-- the settings, the inputs and what was settled so far, and both sides
pub record CoreData (CA CB : Type 0) : Type 0 where
  pub config : Settings
  pub trace : TraceData
  pub path : PathData
  pub a : HalfData CA
  pub b : HalfData CB

-- the state of the machine that it is
abbrev pub state_of : {CA CB : Type 0} → CoreData CA CB → State
state_of core = record { trace = core.trace.inputs; path = core.path.settled; a = core.a.side; b = core.b.side }

-- the words that the sides stored last
abbrev pub words_of : State → Words
words_of s = record { publish_a = s.a.publish; publish_b = s.b.publish; command_a = s.a.command; command_b = s.b.command }
