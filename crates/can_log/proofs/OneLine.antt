-- What a line that is taken or refused makes of the lines.
use Rattle.std.proofs.Common.{ℕ, ◌≡◌, ◌+◌, List, ◌∷◌, sym, ap, ◌∙◌, Result, Ok, Err}
use Rattle.can_log.specs.declared.log.Refusal.{Refusal}
use Rattle.can_log.specs.declared.log.LogFault.{LogFault}
use Rattle.can_log.specs.declared.log.LogFault.TheVariants.{Line, NoMemory}
use Rattle.can_log.specs.Taken.{LogData, at_line, at_lines}
use Rattle.can_log.specs.Went.{IsRefusedAt, IsRefusedBy}

abbrev pub after : ℕ → List (List ℕ) → Result LogData Refusal → Result LogData (ℕ × Refusal)
after number lines came = elim came [ Ok log ↦ at_lines log (number + 1) lines | Err why ↦ Err (number, why) ]

pub line_taken : (log log' : LogData) (number : ℕ) (line : List ℕ) (lines : List (List ℕ)) (came : Result LogData (ℕ × Refusal))
    → at_lines log number (line ∷ lines) ≡ came → at_line log line ≡ Ok log' → at_lines log' (number + 1) lines ≡ came
line_taken log log' number line lines came is taken = sym (ap (after number lines) taken) ∙ is

pub line_refused : (log : LogData) (number : ℕ) (line : List ℕ) (lines : List (List ℕ)) (came : Result LogData (ℕ
    × Refusal)) (fault : LogFault)
    → at_lines log number (line ∷ lines) ≡ came → IsRefusedAt number (at_line log line) fault → IsRefusedBy came fault
line_refused log number line lines came (Line n why) is refused =
    sym is ∙ ap (after number lines) refused.1 ∙ ap (λ (k : ℕ). Err (k, why)) (sym refused.0)
line_refused log number line lines came NoMemory is refused = tt
