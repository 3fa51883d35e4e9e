-- What a call that takes lines says, beside what they come to. Want of memory says nothing of them.
use Rattle.std.specs.Prelude.{ℕ, ◌≡◌, Result, Ok, Err, MatchResult}
use Rattle.can_log.specs.declared.log.Refusal.{Refusal}
use Rattle.can_log.specs.declared.log.LogFault.{LogFault}
use Rattle.can_log.specs.declared.log.LogFault.TheVariants.{Line, NoMemory}
use Rattle.can_log.specs.Taken.{LogData}

-- a line of this number was refused so
abbrev pub IsRefusedAt : ℕ → Result LogData Refusal → LogFault → Type 0
IsRefusedAt number came (Line n why) = (n ≡ number) × (came ≡ Err why)
IsRefusedAt number came NoMemory = Unit {0}

abbrev pub Went : Result (Unit {0}) LogFault → ℕ → Result LogData Refusal → LogData → Type 0
Went result number came log = MatchResult result (λ _. came ≡ Ok log) (IsRefusedAt number came)

-- the same of a text
abbrev pub IsRefusedBy : Result LogData (ℕ × Refusal) → LogFault → Type 0
IsRefusedBy came (Line n why) = came ≡ Err (n, why)
IsRefusedBy came NoMemory = Unit {0}
