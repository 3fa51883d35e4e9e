use Rattle.std.proofs.Common.{◌≡◌, ◌<◌, ℕ, Some, slice_get}
use Rattle.lift_model.specs.Records.{InputData}
use Rattle.script_model.specs.Faults.{no_faults}
use Rattle.fault_runs.proofs.plain.is_faultless.Given as goal

-- the inputs so far have none
abbrev pub invariant-loop-before : goal.invariant-loop-before
invariant-loop-before l = (i : ℕ) (input : InputData) → i < l.before → slice_get l.script.inputs i ≡ Some input → input.faults ≡ no_faults
