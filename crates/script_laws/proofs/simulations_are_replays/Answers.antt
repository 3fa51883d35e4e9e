use Rattle.script_model.specs.Text.{script_text}
use Rattle.script_model.proofs.SimulationKept.{meant_is_simulation}
use Rattle.script_laws.proofs.HeadBack.{head_back}
use Rattle.script_laws.proofs.Simulations.{is_replay, is_simulation_too}
use Rattle.script_laws.proofs.Whole.{round_trip}
use Rattle.script_laws.proofs.simulations_are_replays.Goals as goal

pub returns-clause-read : goal.returns-clause-read
returns-clause-read c = λ places text s. (
  λ means. (is_replay places text s means, meant_is_simulation places text s means),
  λ is. is_simulation_too places text s is.0 is.1,
)

pub returns-clause-written : goal.returns-clause-written
returns-clause-written c = λ places s is bare.
    is_simulation_too places (script_text s) s (round_trip places s is (head_back s.config is.config)) bare
