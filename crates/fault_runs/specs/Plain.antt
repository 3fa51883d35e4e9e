-- A script without a fault, its usual run, and the script of a single fault over it. All own.
use Rattle.std.specs.Prelude.{◌≡◌, ℕ, ◌+◌, ◌-◌, ◌^◌, min, List, length, slice_get, Option, Some, None}
use Rattle.core_model.specs.Settling.{Settled}
use Rattle.lift_model.specs.Records.{InputData}
use Rattle.script_model.specs.Faults.{no_faults}
use Rattle.script_model.specs.Judging.{ScriptData}
use Rattle.fault_plan.specs.Listed.{single_faults}
use Rattle.fault_plan.specs.Made.{script_reset, script_with}
use Rattle.fault_plan.specs.declared.single.SingleFault.{SingleFault}
use Rattle.fault_plan.specs.declared.single.What.{What}
use Rattle.fault_plan.specs.declared.single.What.TheVariants.{ExchangedAndReset}
use Rattle.fault_plan.specs.declared.words.TickWords.{TickWords}
use Rattle.fault_runs.specs.Lines.{kinds_to}
use Rattle.fault_runs.specs.Rounds.{IsCoreRun}
use Rattle.fault_runs.specs.declared.looks.Looks.TheVariants.{BothNew}
use Rattle.fault_runs.specs.declared.plain.TheConstants.{RESET_AFTER}
use Rattle.fault_runs.specs.declared.plain.Plain.{Plain}

-- no line gives a side a fault
abbrev pub HasNoFaults : List InputData → Type 0
HasNoFaults inputs = (i : ℕ) (input : InputData) → slice_get inputs i ≡ Some input → input.faults ≡ no_faults

-- the number of a tick has 32 bits
abbrev pub no_more : ℕ → ℕ
no_more tick = min tick (2 ^ 32 - 1)

-- the tick of the reset that belongs to a fault that begins in this one
abbrev pub reset_after : ℕ → What → Option ℕ
reset_after tick (ExchangedAndReset later) = Some (no_more (no_more (tick + later) + RESET_AFTER))
reset_after tick what = None

-- the script in which that reset is made, where there is one
abbrev pub reset_in : Option ℕ → ScriptData → ScriptData
reset_in None s = s
reset_in (Some tick) s = script_reset tick s

-- the words are those of the usual run of the script, which is on the core with both sides seeing the new words
abbrev pub AreUsual : List TickWords → ScriptData → Type 0
AreUsual words s = (path : List Settled) × IsCoreRun s.config BothNew s.inputs path words

-- the usual run of its script, and the kinds that the clauses grant in it
pub record KnowsRun (plain : Plain) : Type 0 where
  pub run : IsCoreRun plain.script.config BothNew plain.script.inputs plain.usual.path.settled plain.usual.words.items
  pub kinds : plain.kinds.items ≡ kinds_to plain.script.config plain.script.inputs (length plain.script.inputs)

-- the script of a fault over another: the fault's reset is made in that one, and what the side stores are words of its usual run
pub record IsFaulted (s : ScriptData) (fault : SingleFault) (made : ScriptData) : Type 0 where
  pub words : List TickWords
  pub usual : AreUsual words (reset_in (reset_after fault.tick fault.what) s)
  pub same : made ≡ script_with words fault (reset_in (reset_after fault.tick fault.what) s)

-- the same of the fault with a number
abbrev pub IsFaultScript : ScriptData → ℕ → ScriptData → Type 0
IsFaultScript s index made =
    (fault : SingleFault) × (slice_get (single_faults (length s.inputs)) index ≡ Some fault) × IsFaulted s fault made
