-- What is produced of a simulation that was read is the script of `simulate C`, and what is true of its run.
use Rattle.std.proofs.Common.{◌≡◌, ◌+◌, ℕ, Bool, List, [], ◌∷◌, refl, sym, subst, arith, MatchResult, Option, None, Some, Result, Ok, Err}
use Rattle.std.specs.List.{AllByRecursion}
use Rattle.lift_base.specs.declared.forms.Form.TheVariants as form
use Rattle.lift_model.specs.Plans.{Plan}
use Rattle.lift_model.specs.Records.{InputData}
use Rattle.lift_model.specs.Trace.{identifiers}
use Rattle.node_sim.proofs.Behind.{are_recent, never_missing}
use Rattle.node_sim.proofs.Recent.{genuine}
use Rattle.node_sim.proofs.Sent.{produced-length}
use Rattle.node_sim.proofs.Simulated.{simulated_true}
use Rattle.node_sim.specs.Laws.{Serves}
use Rattle.node_sim.specs.Produced.{produced_from, produced_script}
use Rattle.core_model.specs.Settling.{Settled}
use Rattle.round_model.specs.Records.{RoundData}
use Rattle.round_model.proofs.ToldLemmas.{health_is_told, calm_is_told}
use Rattle.saboteur.specs.Held.{places_in}
use Rattle.script_model.proofs.GeneratedRules.{IsCalm as HasNoFaults, calm_keeps_rules}
use Rattle.script_model.specs.Judging.{ScriptData}
use Rattle.script_model.specs.Meaning.{MeansScript}
use Rattle.script_model.specs.Rules.{KeepsRules}
use Rattle.lift_front.specs.Calls.{Call, IsCalm}
use Rattle.lift_front.specs.Scripts.{NotRead, Text, OfBytes, HasScript, MeansProduced}
use Rattle.lift_making.specs.Jobs.{ByRounds, job_of}
use Rattle.lift_making.specs.Making.{IsFor, IsNotMade}
use Rattle.lift_making.proofs.WholeRuns.{fits, as_lawful}
use Rattle.lift_making.specs.Ways.{RunOf, Suits}
use Rattle.lift_promise.specs.Running.{IsTrueRun}
use Rattle.lift_front.specs.declared.command.Command.TheVariants.{Simulate}
use Rattle.lift_front.specs.declared.fault.Fault.{Fault}
use Rattle.lift_front.specs.declared.fault.Fault.TheVariants as fault

of_bytes : {P Q : List ℕ → Type 0} (left : Option (List ℕ)) → ((bytes : List ℕ) → P bytes → Q bytes) → OfBytes left P → OfBytes left Q
of_bytes None f has = (has.0, f has.0 has.1)
of_bytes (Some bytes) f has = f bytes has

-- ---- the script

no_faults_from : (cycle : ℕ) (ids : List (Option ℕ)) (trace : List InputData) (n : ℕ) (inputs : List InputData)
    → AllByRecursion HasNoFaults (produced_from cycle ids trace n inputs)
unfolding produced_from
no_faults_from cycle ids trace n [] = tt
no_faults_from cycle ids trace n (i ∷ inputs) = (refl, no_faults_from cycle ids trace (n + 1) inputs)

produced_keeps_rules : (places : List Bool) (cycle : ℕ) (s : ScriptData) → KeepsRules places (produced_script cycle s)
produced_keeps_rules places cycle s =
    calm_keeps_rules places (produced_script cycle s) refl (no_faults_from cycle (identifiers s.config) s.inputs 1 s.inputs)

pub made_for : (crew : List (Option Plan)) (cycle : ℕ) (simulation : ScriptData) (r : Result ScriptData Fault) (source : Call)
    → IsCalm source → HasScript (Text form.Simulate (places_in crew)) source.bytes_before simulation
    → MatchResult r (λ made. Serves simulation.config cycle × (made ≡ produced_script cycle simulation))
    (λ fault. IsNotMade fault cycle simulation)
    → MatchResult r (λ script. IsFor (job_of crew (Simulate cycle)) script source × Suits (job_of crew (Simulate cycle)).way script)
    (λ fault. NotRead (job_of crew (Simulate cycle)).origin fault source)
made_for crew cycle simulation (Ok made) source calm has (serves, is) = (
  record {
    calm = calm;
    has = (
      subst (λ (s : ScriptData). Serves s.config cycle) (sym is) serves,
      of_bytes source.bytes_before (λ bytes means. record { simulation = simulation; means = means; short = serves.most; produced = is })
          has,
    );
  },
  subst (KeepsRules (places_in crew)) (sym is) (produced_keeps_rules (places_in crew) cycle simulation),
)
made_for crew cycle simulation (Err fault.Memory) source calm has why = calm
made_for crew cycle simulation (Err fault.Cycle) source calm has long =
    (calm, of_bytes source.bytes_before (λ bytes means. (simulation, means, long)) has)
made_for crew cycle simulation (Err f) source calm has why = absurd why

pub none_for : (crew : List (Option Plan)) (cycle : ℕ) (f : Fault) (source : Call)
    → NotRead (Text form.Simulate (places_in crew)) f source → NotRead (job_of crew (Simulate cycle)).origin f source
none_for crew cycle fault.Memory source why = why
none_for crew cycle fault.Words source why = why
none_for crew cycle fault.Read source why = why
none_for crew cycle (fault.Text f) source why = why
none_for crew cycle (fault.Step line) source why = why
none_for crew cycle fault.Cycle source why = absurd why.1
none_for crew cycle fault.Disk source why = why
none_for crew cycle (fault.Record i) source why = why
none_for crew cycle fault.Full source why = why

-- ---- the run

true_run : (crew : List (Option Plan)) (cycle : ℕ) (s : ScriptData) (rounds : List RoundData) (path : List Settled)
    → Serves s.config cycle → RunOf (ByRounds crew) (produced_script cycle s) None rounds path
    → IsTrueRun cycle (produced_script cycle s) path
true_run crew cycle s rounds path serves ran =
    let long = produced-length cycle (identifiers s.config) s.inputs 1 s.inputs in
    let room = (fits crew (produced_script cycle s) rounds path ran).room in
    record {
      genuine = genuine s.config cycle s.inputs serves.config_in_range;
      recent = are_recent s.config cycle s.inputs serves;
      missing = never_missing s.config cycle s.inputs serves;
      behind = simulated_true health_is_told calm_is_told s.config cycle crew s.inputs rounds path serves
          (omega (arith, long, room)) (as_lawful crew (produced_script cycle s) rounds path ran);
    }

pub ran_true : (crew : List (Option Plan)) (cycle : ℕ) (simulation script : ScriptData) (rounds : List RoundData)
    (path : List Settled) → script ≡ produced_script cycle simulation → Serves script.config cycle
    → RunOf (ByRounds crew) script None rounds path → IsTrueRun cycle script path
ran_true crew cycle simulation script rounds path is serves ran =
    subst (λ (s : ScriptData). IsTrueRun cycle s path) (sym is) (true_run crew cycle simulation rounds path
    (subst (λ (s : ScriptData). Serves s.config cycle) is serves)
    (subst (λ (s : ScriptData). RunOf (ByRounds crew) s None rounds path) is ran))

-- the simulation behind the script of `simulate C`
pub simulation_of : (cycle : ℕ) (places : List Bool) (left : Option (List ℕ)) (script : ScriptData)
    → OfBytes left (λ bytes. MeansProduced cycle places bytes script)
    → (simulation : ScriptData) × OfBytes left (λ bytes. MeansScript form.Simulate places bytes simulation)
    × (script ≡ produced_script cycle simulation)
simulation_of cycle places None script (bytes, it) = (it.simulation, (bytes, it.means), it.produced)
simulation_of cycle places (Some bytes) script it = (it.simulation, it.means, it.produced)
