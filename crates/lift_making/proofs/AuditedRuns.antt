-- What an audit of a whole run may ask of it.
use Rattle.std.proofs.Common.{List}
use Rattle.std.specs.declared.option.Option.{Option}
use Rattle.std.specs.declared.option.Option.TheVariants.{None}
use Rattle.core_model.specs.Settling.{Settled}
use Rattle.lift_model.specs.Plans.{Plan}
use Rattle.node_sim.proofs.GenuineLemmas.{says_what_is}
use Rattle.node_sim.specs.Audits.{SaysWhatIs}
use Rattle.round_model.proofs.LawfulLemmas.{lawful_backed}
use Rattle.round_model.specs.Lawful.{AreBacked}
use Rattle.round_model.specs.Records.{RoundData}
use Rattle.script_model.specs.Judging.{ScriptData}
use Rattle.lift_making.specs.Jobs.{ByRounds}
use Rattle.lift_making.specs.Ways.{RunOf}
use Rattle.lift_making.proofs.WholeRuns.{fits, as_lawful, path_is_whole}

module _ (crew : List (Option Plan)) (script : ScriptData) (rounds : List RoundData) (path : List Settled)
    (ran : RunOf (ByRounds crew) script None rounds path) where
  -- each side that is healthy by the script is backed
  pub run_is_backed : AreBacked script.config script.inputs path
  run_is_backed = lawful_backed script.config crew script.inputs rounds path (fits crew script rounds path ran)
      (as_lawful crew script rounds path ran)

  pub audit_holds : SaysWhatIs script.config script.inputs path
  audit_holds = says_what_is script.config script.inputs path (path_is_whole crew script rounds path ran) run_is_backed
