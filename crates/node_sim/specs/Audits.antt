-- What is true of each audit. All own.
use Rattle.std.specs.Prelude.{◌≡◌, ◌↔◌, ◌+◌, ◌≤◌, List, length, None, IfSome}
use Rattle.lift_model.specs.Records.{Settings, InputData}
use Rattle.lift_model.specs.Truth.{IsGenuine}
use Rattle.core_model.specs.Settling.{Settled}
use Rattle.round_model.specs.Lawful.{AreBacked}
use Rattle.script_model.specs.Audit.{IsOfSource}
use Rattle.node_sim.specs.Audited.{first_wrong_pair, oldest_age, AllTrueWithin}

-- a wrong pair is one of a source; no value behind power is older than a pair counts and its frames may be apart; no pair is wrong
-- exactly where the trace is genuine, and then each value behind a power that a healthy side granted was true at most the oldest age
-- before its sample
pub record SaysWhatIs (config : Settings) (trace : List InputData) (path : List Settled) : Type 0 where
  pub named : IfSome (first_wrong_pair config trace) IsOfSource
  pub bound : IfSome (oldest_age config trace path) (λ a. a ≤ config.sct + config.srvt)
  pub genuine : (first_wrong_pair config trace ≡ None) ↔ IsGenuine config trace
  pub within : first_wrong_pair config trace ≡ None → AllTrueWithin config trace path (oldest_age config trace path)

-- so it is of each path of a trace whose healthy sides are backed
abbrev pub AuditsSayWhatIs : Type 0
AuditsSayWhatIs = (config : Settings) (trace : List InputData) (path : List Settled) → length path ≡ length trace
    → AreBacked config trace path → SaysWhatIs config trace path
