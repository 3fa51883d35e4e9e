-- What an object that was handed in tells of a call.
use Rattle.std.specs.Prelude.{ℕ, ◌≡◌, List}
use Rattle.std.specs.declared.option.Option.{Option}
use Rattle.lift_io.specs.Causes.{Rose}

-- the bytes that it has, where it tells them, and its count of faults
pub record Call : Type 0 where
  pub bytes_before : Option (List ℕ)
  pub bytes_after : Option (List ℕ)
  pub faults_before : ℕ
  pub faults_after : ℕ

-- the same of an object before and after, by what it tells
abbrev pub call : {A : Type 0} → (A → Option (List ℕ)) → (A → ℕ) → A → A → Call
call bytes faults x y = record { bytes_before = bytes x; bytes_after = bytes y; faults_before = faults x; faults_after = faults y }

-- it never failed
abbrev pub IsCalm : Call → Type 0
IsCalm c = c.faults_after ≡ c.faults_before

-- its count of faults rose
abbrev pub HasFailed : Call → Type 0
HasFailed c = Rose c.faults_before c.faults_after
