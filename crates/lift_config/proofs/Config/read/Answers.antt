use Rattle.std.proofs.Common.{◌≡◌, sym, ap, ◌∙◌, inr, false, Bool, IsTrue}
use Rattle.std.proofs.lemmas.Bool.{false≢true}
use Rattle.std.specs.Result.{result_err}
use Rattle.lift_config.proofs.Faults.{table_read, no_table, fault_told}
use Rattle.lift_config.proofs.Config.read.Goals as goal

refuted : (b : Bool) → b ≡ false → IsTrue b → ⊥
refuted b is h = false≢true (sym is ∙ h)

pub returns-in-Ok-clause-meaning : goal.returns-in-Ok-clause-meaning
returns-in-Ok-clause-meaning c = inr (table_read _ _ _ c.in-Ok.ensures.ok.0 c.in-Ok.ensures.ok.1 c.config_of.ensures.value)

pub returns-in-Ok-clause-fault : goal.returns-in-Ok-clause-fault
returns-in-Ok-clause-fault c =
    fault_told c.config_of.result _ (table_read _ _ _ c.in-Ok.ensures.ok.0 c.in-Ok.ensures.ok.1 c.config_of.ensures.value)

pub returns-else-is_memory-clause-meaning : goal.returns-else-is_memory-clause-meaning
returns-else-is_memory-clause-meaning c =
    inr (no_table _ (c.in-Err.ensures.refused (λ m. refuted _ c.if-is_memory.false (c.is_memory.ensures.1 m))))

pub returns-else-is_memory-clause-fault : goal.returns-else-is_memory-clause-fault
returns-else-is_memory-clause-fault c = λ _.
    ap result_err (sym
    (no_table c.args.head.now (c.in-Err.ensures.refused (λ m. refuted _ c.if-is_memory.false (c.is_memory.ensures.1 m)))))
