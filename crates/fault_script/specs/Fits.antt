-- The ranges that every line keeps.
use Rattle.std.specs.Prelude.{◌≤◌, Option, Some, None}
use Rattle.lift_base.specs.declared.TheConstants.{SOURCES}
use Rattle.lift_base.specs.declared.limits.TheConstants.{MOST_TICKS}
use Rattle.script_model.specs.declared.Line.{Line}
use Rattle.script_model.specs.declared.Line.TheVariants.{Tick, End, Entry as EntryLine}
use Rattle.script_model.specs.declared.Entry.{Entry}
use Rattle.script_model.specs.declared.Entry.TheVariants.{Blank, Frame, Wires, Truth, OfSide}

-- a source is one of those that there are
abbrev pub EntryFits : Entry → Type 0
EntryFits Blank = Unit {0}
EntryFits (Frame f) = Unit {0}
EntryFits (Wires a b) = Unit {0}
EntryFits (Truth j w) = (1 ≤ j) × (j ≤ SOURCES)
EntryFits (OfSide side l) = Unit {0}

-- ticks are from 1 to the most of a run
abbrev pub Fits : Line → Type 0
Fits (Tick n) = (1 ≤ n) × (n ≤ MOST_TICKS)
Fits End = Unit {0}
Fits (EntryLine entry) = EntryFits entry

abbrev pub IfFits : Option Line → Type 0
IfFits None = Unit {0}
IfFits (Some line) = Fits line
