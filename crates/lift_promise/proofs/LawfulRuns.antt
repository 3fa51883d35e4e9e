-- A run of a command's script has all that is promised of it.
use Rattle.std.proofs.Common.{◌≡◌, ◌∙◌, List, length, ℕ, ap, refl, sym, subst}
use Rattle.std.specs.declared.option.Option.{Option}
use Rattle.std.specs.declared.option.Option.TheVariants.{None}
use Rattle.std.specs.Io.KnownBytes.{Appends}
use Rattle.lift_io.specs.Puts.{AppendsFront}
use Rattle.core_model.proofs.LockLemmas.{run_locks_out, run_starts_open}
use Rattle.core_model.proofs.PlainLemmas.{run_plain, run_on}
use Rattle.core_model.proofs.RunLemmas.{run_backed, run_holds}
use Rattle.core_model.proofs.SeenLemmas.{run_sees_others}
use Rattle.core_model.specs.Settling.{Settled}
use Rattle.lift_model.specs.Plans.{Plan}
use Rattle.lift_run.specs.Records.{RunData}
use Rattle.round_model.proofs.LawfulLemmas.{legal_runs}
use Rattle.round_model.proofs.InlineLemmas.{inline_equals_boxed}
use Rattle.round_model.proofs.ToldLemmas.{health_is_told, calm_is_told}
use Rattle.round_model.specs.Records.{RoundData}
use Rattle.saboteur.specs.Held.{places_in}
use Rattle.script_model.specs.Judging.{ScriptData}
use Rattle.lift_front.specs.Calls.{Call}
use Rattle.lift_front.specs.Scripts.{HasScript}
use Rattle.lift_front.specs.declared.command.Command.{Command}
use Rattle.lift_front.specs.declared.command.Command.TheVariants.{Audit, Level, Simulate, Store}
use Rattle.lift_front.specs.declared.ending.Ending.{Ending}
use Rattle.lift_front.specs.declared.ending.Ending.TheVariants.{Done, CutShort, Refused, Stopped}
use Rattle.lift_making.proofs.AuditedRuns.{audit_holds}
use Rattle.lift_making.specs.Jobs.{Job, job_of, Way, ByRounds, BySteps}
use Rattle.lift_making.specs.Making.{IsFor}
use Rattle.lift_making.specs.Ways.{RunOf}
use Rattle.lift_promise.proofs.Levelling.{safely_given}
use Rattle.lift_promise.proofs.PlainReports.{calm_report}
use Rattle.lift_promise.proofs.Producing.{ran_true, simulation_of}
use Rattle.lift_promise.specs.Promise.{Given, job, LawfulRun, ComesTo}
use Rattle.lift_promise.specs.Running.{IsTold, IsTrue}
use Rattle.lift_promise.specs.Writing.{HasRun, Wrote, WroteRun, stopped_at}

-- rounds are run to the end
to_end : (crew : List (Option Plan)) (script : ScriptData) (stopped : Option ℕ) (rounds : List RoundData) (path : List Settled)
    → RunOf (ByRounds crew) script stopped rounds path → RunOf (ByRounds crew) script None rounds path
to_end crew script stopped rounds path ran = subst (λ (o : Option ℕ). RunOf (ByRounds crew) script o rounds path) ran.are_of.0 ran

is_told : (way : Way) (script : ScriptData) (stopped : Option ℕ) (rounds : List RoundData) (path : List Settled)
    (ran : RunOf way script stopped rounds path) → IsTold way script rounds ran.events ran.state
is_told BySteps script stopped rounds path ran = tt
is_told (ByRounds crew) script stopped rounds path ran =
    let config = script.config in
    let inputs = script.inputs in
    let fits = ran.are_of.1.fits in
    let legal = ran.are_of.1.legal in
    let legal_trace = (legal_runs config crew inputs rounds ran.events ran.state legal fits.once fits.room).trace in
    record {
      inputs = legal_trace;
      ticks = (run_holds config ran.events ran.state ran.few ran.core).settled ∙ ap length legal_trace;
      healthy = health_is_told config crew inputs rounds ran.events ran.state fits legal;
      calm = calm_is_told config crew inputs rounds ran.events ran.state fits legal;
      inlined = λ lines h. (inline_equals_boxed config crew inputs lines h rounds).0
          (record { events = ran.events; state = ran.state; legal = legal });
      plain = calm_report config crew inputs rounds ran.state.path fits
          (record { events = ran.events; state = ran.state; legal = legal; run = ran.core; same_path = refl });
    }

is_true : (command : Command) (crew : List (Option Plan)) (script : ScriptData) (stopped : Option ℕ) (run : RunData)
    (left : Option (List ℕ)) → HasScript (job_of crew command).origin left script
    → RunOf (job_of crew command).way script stopped run.rounds run.path.settled → IsTrue command script run
is_true Audit crew script stopped run left has ran =
    audit_holds crew script run.rounds run.path.settled (to_end crew script stopped run.rounds run.path.settled ran)
is_true Level crew script stopped run left has ran = safely_given script run
is_true (Simulate cycle) crew script stopped run left has ran =
    let (s, means, produced) = simulation_of cycle (places_in crew) left script has.1 in
    ran_true crew cycle s script run.rounds run.path.settled produced has.0
    (to_end crew script stopped run.rounds run.path.settled ran)
is_true command crew script stopped run left has ran = tt

module _ (g : Given) (e : Ending) (script : ScriptData) (run : RunData) where
  lawful_run : IsFor (job g) script g.source → RunOf (job g).way script (stopped_at e) run.rounds run.path.settled
      → WroteRun g.command (job g) e script run g.sink → LawfulRun g e run
  lawful_run is ran wrote =
      let config = script.config in
      record {
        calm = is.calm;
        script = script;
        has = is.has;
        ran = ran;
        backed = run_backed config ran.events ran.state ran.few ran.core;
        seen = run_sees_others config ran.events ran.state ran.few ran.core;
        undisturbed = run_plain config ran.events ran.state ran.few ran.core;
        granted_is_on = λ t some old calm same. run_on config ran.events ran.state ran.few ran.core t old calm some same;
        locks_out = run_locks_out config ran.events ran.state ran.few ran.core;
        starts_open = run_starts_open config ran.events ran.state ran.few ran.core;
        told = is_told (job g).way script (stopped_at e) run.rounds run.path.settled ran;
        shown = is_true g.command g.crew script (stopped_at e) run g.source.bytes_before is.has ran;
        wrote = wrote;
      }

come : (g : Given) (e : Ending) (run : RunData) → HasRun e → LawfulRun g e run → ComesTo g e run
come g (Refused f) run has it = absurd has
come g e run has it = (has, it)

-- a script was run, and this was written of it
pub comes_to : (g : Given) (e : Ending) (script : ScriptData) (run : RunData) → HasRun e → IsFor (job g) script g.source
    → RunOf (job g).way script (stopped_at e) run.rounds run.path.settled
    → WroteRun g.command (job g) e script run g.sink → ComesTo g e run
comes_to g e script run has is ran wrote = come g e run has (lawful_run g e script run is ran wrote)

-- ---- what was shown

-- another text is written where it is the same of a run to its end
same_text : (e : Ending) (text other : List ℕ) (sink : Call) → HasRun e → (stopped_at e ≡ None → text ≡ other) → Wrote e text sink
    → Wrote e other sink
same_text Done text other sink has same (calm, wrote) = (calm, subst (Appends sink.bytes_before sink.bytes_after) (same refl) wrote)
same_text CutShort text other sink has same (failed, front) =
    (failed, subst (AppendsFront sink.bytes_before sink.bytes_after) (same refl) front)
same_text (Refused f) text other sink has same wrote = wrote
same_text (Stopped f) text other sink has same wrote = wrote

wrote_run : (command : Command) (job : Job) (e : Ending) (script : ScriptData) (run : RunData) (sink : Call) → (command ≡ Store → ⊥)
    → Wrote e (job.text script run) sink → WroteRun command job e script run sink
wrote_run Store job e script run sink other wrote = absurd (other refl)
wrote_run command job e script run sink other wrote = wrote

-- a command that shows its run
pub shows : (g : Given) (e : Ending) (script : ScriptData) (run : RunData) (stopped : Option ℕ) (text : List ℕ)
    → (g.command ≡ Store → ⊥) → HasRun e → stopped_at e ≡ stopped → IsFor (job g) script g.source
    → RunOf (job g).way script stopped run.rounds run.path.settled → (stopped ≡ None → text ≡ (job g).text script run)
    → Wrote e text g.sink → ComesTo g e run
shows g e script run stopped text other has at is ran whole wrote = comes_to g e script run has is
    (subst (λ (o : Option ℕ). RunOf (job g).way script o run.rounds run.path.settled) (sym at) ran)
    (wrote_run g.command (job g) e script run g.sink other
    (same_text e text ((job g).text script run) g.sink has (λ none. whole (sym at ∙ none)) wrote))
