-- An engine that ran all ticks of its script has a lawful run of it, and a lawful run settles each tick of its script.
use Rattle.std.proofs.Common.{◌≡◌, ◌∙◌, List, length, take, refl, sym, ap, subst, Option, None, arith}
use Rattle.std.proofs.lemmas.List.{take_all}
use Rattle.core_model.proofs.RunLemmas.{run_holds}
use Rattle.core_model.specs.Settling.{Settled}
use Rattle.lift_model.specs.Plans.{Plan}
use Rattle.lift_model.specs.Records.{Settings, InputData}
use Rattle.replay_engine.specs.Engines.{Stands, RunIsLawful, ticks_run, run_of}
use Rattle.replay_engine.specs.declared.engine.Engine.{Engine}
use Rattle.round_model.proofs.LawfulLemmas.{legal_runs}
use Rattle.round_model.specs.Lawful.{IsScript, IsLawful}
use Rattle.round_model.specs.Records.{RoundData}
use Rattle.script_model.specs.Judging.{ScriptData}
use Rattle.lift_making.specs.Jobs.{ByRounds}
use Rattle.lift_making.specs.Ways.{RunOf}

pub whole_run : {I : Type 0} {F : I → Type 0} (f : (x : I) × F x → Plan) (engine : Engine I F) (script : ScriptData)
    (plans : List (Option Plan)) → Stands f engine script plans → ticks_run engine ≡ length script.inputs
    → RunIsLawful engine script plans → RunOf (ByRounds plans) script None (run_of engine).rounds (run_of engine).path.settled
whole_run f engine script plans h all lawful =
    let fits : IsScript script.config script.inputs = subst (λ (s : ScriptData). IsScript s.config s.inputs) h.same h.sides.script in
    let it : IsLawful script.config plans script.inputs (run_of engine).rounds (run_of engine).path.settled =
    subst (λ (inputs : List InputData). IsLawful script.config plans inputs (run_of engine).rounds (run_of engine).path.settled)
    (ap (λ n. take n script.inputs) all ∙ take_all (length script.inputs) script.inputs (omega arith)) lawful in
    record {
      few = fits.small;
      events = it.events;
      state = it.state;
      core = it.run;
      settled = sym it.same_path;
      are_of = (refl, record { fits = fits; legal = it.legal });
    }

-- one tick is settled for each input
pub long : (config : Settings) (crew : List (Option Plan)) (inputs : List InputData) (rounds : List RoundData) (path : List Settled)
    → IsScript config inputs → IsLawful config crew inputs rounds path → length path ≡ length inputs
long config crew inputs rounds path fits run =
    let h = legal_runs config crew inputs rounds run.events run.state run.legal fits.once fits.room in
    ap length run.same_path ∙ ((run_holds config run.events run.state fits.small h.run).settled ∙ ap length h.trace)

module _ (crew : List (Option Plan)) (script : ScriptData) (rounds : List RoundData) (path : List Settled)
    (ran : RunOf (ByRounds crew) script None rounds path) where
  pub fits : IsScript script.config script.inputs
  fits = ran.are_of.1.fits

  abbrev pub as_lawful : IsLawful script.config crew script.inputs rounds path
  as_lawful = record {
    events = ran.events;
    state = ran.state;
    legal = ran.are_of.1.legal;
    run = ran.core;
    same_path = sym ran.settled;
  }

  -- each tick of the script was settled
  pub path_is_whole : length path ≡ length script.inputs
  path_is_whole = long script.config crew script.inputs rounds path fits as_lawful
