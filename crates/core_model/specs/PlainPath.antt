-- The path of a run that nothing disturbs, as a list.
use Rattle.std.specs.Prelude.{ℕ, zero, suc, false, List, [], ◌∷◌}
use Rattle.lift_base.specs.Ruling.{Ruling}
use Rattle.lift_base.specs.declared.Kind.{Kind}
use Rattle.lift_base.specs.declared.Kind.TheVariants.{Off}
use Rattle.core_model.specs.Due.{due, due_command}
use Rattle.core_model.specs.Settling.{Out, Settled}
use Rattle.core_model.specs.Words.{command_word}

-- the kind that was due one tick before this one
abbrev pub due_before : (ℕ → Ruling) → ℕ → Kind
due_before verdicts zero = Off
due_before verdicts (suc n) = due verdicts n

-- each output follows a command of the tick before
abbrev pub plain_out : (ℕ → Ruling) → ℕ → Out
plain_out verdicts before = record {
  kind = due verdicts before;
  forced = false;
  word = command_word (due_command verdicts before);
  seen = 0;
}

-- what is settled one tick after this one; what the sides saw is left at 0
abbrev pub plain_settled : (ℕ → Ruling) → ℕ → Settled
plain_settled verdicts before = record {
  power = due verdicts before;
  alarm = (due_command verdicts before).alarm;
  a = plain_out verdicts before;
  b = plain_out verdicts before;
}

-- n ticks, the first of them one tick after this one
abbrev pub plain_from : (ℕ → Ruling) → ℕ → ℕ → List Settled
plain_from verdicts before zero = []
plain_from verdicts before (suc n) = plain_settled verdicts before ∷ plain_from verdicts (suc before) n

abbrev pub plain_path : (ℕ → Ruling) → ℕ → List Settled
plain_path verdicts ticks = plain_from verdicts 0 ticks
