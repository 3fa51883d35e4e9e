-- What a supervisor is told of a round.
use Rattle.std.specs.Prelude.{ℕ, Bool}
use Rattle.lift_base.specs.Ruling.{Ruling}
use Rattle.core_model.specs.Decision.{Told}
use Rattle.supervisor.specs.declared.feedback.Feedback.{Feedback}

-- in one record
abbrev pub told : ℕ → Ruling → Ruling → ℕ → Feedback → Bool → Told
told n own before seen feedback reset =
    record { stamp = n; own = own; before = before; seen = seen; closed_a = feedback.a; closed_b = feedback.b; reset = reset }
