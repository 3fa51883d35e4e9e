-- What every word and every fault of the program keeps. All own.
use Rattle.std.specs.Prelude.{◌<◌, ◌≤◌, ◌^◌}
use Rattle.fault_plan.specs.declared.single.SingleFault.{SingleFault}
use Rattle.fault_plan.specs.declared.single.What.{What}
use Rattle.fault_plan.specs.declared.single.What.TheVariants.{Silent, Wrong, Fresh, Others, Last, Right, Forced, Held, Exchanged, ExchangedAndReset}
use Rattle.fault_plan.specs.declared.words.SideWords.{SideWords}
use Rattle.fault_plan.specs.declared.words.TickWords.{TickWords}

-- words of 64 bits
pub record AreSideWords (w : SideWords) : Type 0 where
  pub publish : w.publish < 2 ^ 64
  pub command : w.command < 2 ^ 64

abbrev pub AreTickWords : TickWords → Type 0
AreTickWords w = AreSideWords w.a × AreSideWords w.b

-- a wrong word has 64 bits
abbrev pub IsWhat : What → Type 0
IsWhat (Wrong word) = word < 2 ^ 64
IsWhat Silent = Unit {0}
IsWhat (Fresh kind) = Unit {0}
IsWhat Others = Unit {0}
IsWhat Last = Unit {0}
IsWhat Right = Unit {0}
IsWhat (Forced kind) = Unit {0}
IsWhat (Held ticks) = Unit {0}
IsWhat (Exchanged after) = Unit {0}
IsWhat (ExchangedAndReset after) = Unit {0}

-- a fault of a tick from 1 on
pub record IsFault (f : SingleFault) : Type 0 where
  pub from : 1 ≤ f.tick
  pub what : IsWhat f.what
