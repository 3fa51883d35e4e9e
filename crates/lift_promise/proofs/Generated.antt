-- A generated script is the script of `load N`, and suits its way.
use Rattle.std.proofs.Common.{◌≡◌, ℕ, Bool, List, sym, subst, MatchResult, Option, Result, Ok, Err}
use Rattle.lift_model.specs.Plans.{Plan}
use Rattle.saboteur.specs.Held.{places_in}
use Rattle.script_model.specs.Generated.{generated}
use Rattle.script_model.specs.Judging.{ScriptData}
use Rattle.script_model.specs.Rules.{KeepsRules}
use Rattle.lift_front.specs.Calls.{Call, IsCalm}
use Rattle.lift_front.specs.Scripts.{NotRead}
use Rattle.lift_making.specs.Jobs.{job_of}
use Rattle.lift_making.specs.Making.{IsFor}
use Rattle.lift_making.specs.Ways.{Suits}
use Rattle.lift_front.specs.declared.command.Command.TheVariants.{Load}
use Rattle.lift_front.specs.declared.fault.Fault.{Fault}
use Rattle.lift_front.specs.declared.fault.Fault.TheVariants.{Memory}

-- what was generated, or that there was no memory for it, where nothing was read
pub told : (crew : List (Option Plan)) (number : ℕ) (r : Result ScriptData Fault) (source : Call) → IsCalm source
    → MatchResult r (λ script. (script ≡ generated number) × ((places : List Bool) → KeepsRules places script)) (λ fault. fault ≡ Memory)
    → MatchResult r (λ script. IsFor (job_of crew (Load number)) script source × Suits (job_of crew (Load number)).way script)
    (λ fault. NotRead (job_of crew (Load number)).origin fault source)
told crew number (Ok script) source calm (is, rules) = (record { calm = calm; has = is }, rules (places_in crew))
told crew number (Err fault) source calm is = subst (λ f. NotRead (job_of crew (Load number)).origin f source) (sym is) calm
