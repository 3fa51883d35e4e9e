-- A text whose script can be run is run to its end, and a cycle that is too long is refused.
use Rattle.std.proofs.Common.{◌≡◌, ◌∙◌, ◌<◌, ◌+◌, ◌⊎◌, ◌++◌, [], ◌∷◌, inl, inr, List, ℕ, Bool, true, false, drop, refl, sym, ap, subst, arith}
use Rattle.std.specs.declared.option.Option.{Option}
use Rattle.std.specs.declared.option.Option.TheVariants.{None, Some}
use Rattle.std.specs.Prelude.{◌&&◌, IfSome, IsSomeAnd}
use Rattle.std.proofs.lemmas.Bool.{true≢false}
use Rattle.std.proofs.lemmas.List.{append_assoc, map-append}
use Rattle.lift_base.specs.declared.forms.Form.TheVariants as form
use Rattle.core_model.proofs.LockLemmas.{run_on, run_split}
use Rattle.core_model.proofs.ScheduleLemmas.{act_ticks, scheduled-append}
use Rattle.core_model.specs.Machine.{Event, State, enabled, start}
use Rattle.core_model.specs.Runs.{CoreRun, after_all}
use Rattle.core_model.specs.Schedule.{StepData, scheduled}
use Rattle.core_model.specs.Settling.{Settled}
use Rattle.lift_model.specs.Plans.{Plan}
use Rattle.node_sim.specs.Produced.{produced_script}
use Rattle.lift_run.specs.Records.{RunData}
use Rattle.round_model.specs.Records.{RoundData}
use Rattle.saboteur.specs.Held.{places_in}
use Rattle.script_model.specs.Judging.{ScriptData}
use Rattle.script_model.specs.Meaning.{MeansScript, IsRefused as IsRefusedText}
use Rattle.script_model.specs.declared.refusals.Refusal.{Refusal}
use Rattle.lift_front.specs.Calls.{Call, HasFailed}
use Rattle.lift_front.specs.Scripts.{Origin, Text, Produced, Told, OfBytes, MeansProduced, HasScript, HasRefusal, TellsScript, IsTooLong}
use Rattle.lift_front.specs.declared.command.Command.{Command}
use Rattle.lift_front.specs.declared.command.Command.TheVariants.{Simulate, Store}
use Rattle.lift_front.specs.declared.ending.Ending.{Ending}
use Rattle.lift_front.specs.declared.ending.Ending.TheVariants.{Done, CutShort, Refused, Stopped}
use Rattle.lift_front.specs.declared.fault.Fault.TheVariants as fault
use Rattle.lift_making.specs.Jobs.{Job, Way, ByRounds, BySteps}
use Rattle.lift_making.specs.Ways.{RunOf, IsPossible, acts_of, events_of}
use Rattle.lift_promise.specs.Promise.{Given, given, job, ComesTo, Completes, RefusesLong}
use Rattle.lift_promise.specs.Storing.{DiskCall, IsOffDisk, OnDisk}
use Rattle.lift_promise.specs.Writing.{WroteRun}
use Rattle.lift_promise.proofs.OnDisk.{is_off}

-- ---- a step that is not possible stands in no run

and_first : (b c : Bool) → (b && c) ≡ true → b ≡ true
and_first true c e = refl
and_first false c e = absurd (true≢false (sym e))

none_is_some : {A : Type 0} (x : A) → Some x ≡ None → ⊥
none_is_some x e = cc

not_possible : (way : Way) (script : ScriptData) (line : ℕ) (rounds : List RoundData) (path : List Settled)
    → RunOf way script (Some line) rounds path → IsPossible way script → ⊥
not_possible (ByRounds crew) script line rounds path ran possible = none_is_some line ran.are_of.0
not_possible BySteps script line rounds path ran (s, run) =
    let x = ran.are_of.1 in
    let acts = acts_of (x.before ++ x.step ∷ []) in
    let rest = scheduled (drop (act_ticks acts) script.inputs) (acts_of x.after) in
    let steps : script.steps ≡ (x.before ++ x.step ∷ []) ++ x.after = x.split ∙ sym (append_assoc x.before (x.step ∷ []) x.after) in
    let split : events_of script.inputs script.steps ≡ (ran.events ++ x.event ∷ []) ++ rest =
    ap (events_of script.inputs) steps
    ∙ (ap (scheduled script.inputs) (map-append (λ (y : StepData). y.act) (x.before ++ x.step ∷ []) x.after)
    ∙ (scheduled-append script.inputs acts (acts_of x.after) ∙ ap (λ (es : List Event). es ++ rest) x.next)) in
    let once = run_split (ran.events ++ x.event ∷ []) rest (subst (λ (es : List Event). CoreRun script.config es s) split run) in
    let twice = run_split ran.events (x.event ∷ []) once.0 in
    let there : after_all script.config start ran.events ≡ ran.state = (run_on ran.core).1 in
    let on : enabled script.config ran.state x.event ≡ true =
    subst (λ (t : State). enabled script.config t x.event ≡ true) there (and_first _ _ twice.1) in
    true≢false (sym on ∙ x.bad)

-- ---- the script

same_script : (o : Origin) (left : Option (List ℕ)) (s t : ScriptData) → TellsScript o left s → HasScript o left t → s ≡ t
same_script (Text form places) None s t tells has = absurd tells
same_script (Text form places) (Some bytes) s t tells has = cc
same_script (Produced cycle places) None s t tells has = absurd tells
same_script (Produced cycle places) (Some bytes) s t tells has =
    let same : tells.simulation ≡ has.1.simulation = let a = tells.means in let b = has.1.means in cc in
    tells.produced ∙ ap (produced_script cycle) same ∙ sym has.1.produced
same_script (Told told) left s t tells has = tells ∙ sym has

no_refusal : (o : Origin) (left : Option (List ℕ)) (s : ScriptData) (r : Refusal) → TellsScript o left s → HasRefusal o left r → ⊥
no_refusal (Text form places) None s r tells has = tells
no_refusal (Text form places) (Some bytes) s r tells has = cc
no_refusal (Produced cycle places) None s r tells has = tells
no_refusal (Produced cycle places) (Some bytes) s r tells has = let means = tells.means in cc
no_refusal (Told told) left s r tells has = has

not_too_long : (o : Origin) (left : Option (List ℕ)) (s : ScriptData) → TellsScript o left s → IsTooLong o left → ⊥
not_too_long (Text form places) left s tells long = long
not_too_long (Produced cycle places) None s tells long = tells
not_too_long (Produced cycle places) (Some bytes) s tells (t, means, long) =
    let same : tells.simulation ≡ t = let mine = tells.means in cc in
    let sct = ap (λ (x : ScriptData). x.config.sct) same in
    let short = tells.short in omega (arith, sct, short, long)
not_too_long (Told told) left s tells long = long

-- ---- run to the end

cut_failed : (command : Command) (job : Job) (script : ScriptData) (run : RunData) (sink : Call)
    → WroteRun command job CutShort script run sink → HasFailed sink
cut_failed Store job script run sink (count, (failed, front)) = failed
cut_failed command job script run sink (failed, front) = failed

module _ (g : Given) (run : RunData) where
  runs_by : (e : Ending) → ComesTo g e run → IsOffDisk e → (HasFailed g.source → ⊥) → (HasFailed g.sink → ⊥) → (s : ScriptData)
      → TellsScript (job g).origin g.source.bytes_before s → IsPossible (job g).way s → (e ≡ Done) ⊎ (e ≡ Refused fault.Memory)
  runs_by Done (h, it) off read held s tells can = inl refl
  runs_by CutShort (h, it) off read held s tells can = absurd (held (cut_failed g.command (job g) it.script run g.sink it.wrote))
  runs_by (Refused fault.Memory) it off read held s tells can = inr refl
  runs_by (Refused fault.Words) it off read held s tells can = absurd it.why
  runs_by (Refused fault.Read) it off read held s tells can = absurd (read it.why.0)
  runs_by (Refused (fault.Text f)) it off read held s tells can =
      absurd (no_refusal (job g).origin g.source.bytes_before s f tells it.why.1)
  runs_by (Refused (fault.Step line)) it off read held s tells can = absurd it.why
  runs_by (Refused fault.Cycle) it off read held s tells can =
      absurd (not_too_long (job g).origin g.source.bytes_before s tells it.why.1)
  runs_by (Refused fault.Disk) it off read held s tells can = absurd off
  runs_by (Refused (fault.Record i)) it off read held s tells can = absurd off
  runs_by (Refused fault.Full) it off read held s tells can = absurd it.why
  runs_by (Stopped (fault.Step line)) (h, it) off read held s tells can =
      let same = same_script (job g).origin g.source.bytes_before s it.script tells it.has in
      absurd (not_possible (job g).way it.script line run.rounds run.path.settled it.ran (subst (IsPossible (job g).way) same can))
  runs_by (Stopped fault.Disk) it off read held s tells can = absurd off
  runs_by (Stopped fault.Full) it off read held s tells can = absurd off
  runs_by (Stopped f) (h, it) off read held s tells can = absurd h

-- ---- a cycle that is too long

-- a simulation that was read has no refusal, and its cycle was not too long where it was run
not_refused : (places : List Bool) (left : Option (List ℕ)) (s : ScriptData) (r : Refusal)
    → IsSomeAnd left (λ bytes. MeansScript form.Simulate places bytes s)
    → OfBytes left (λ bytes. IsRefusedText form.Simulate places bytes r) → ⊥
not_refused places None s r means refused = means
not_refused places (Some bytes) s r means refused = cc

not_run : (cycle : ℕ) (places : List Bool) (left : Option (List ℕ)) (s script : ScriptData)
    → IsSomeAnd left (λ bytes. MeansScript form.Simulate places bytes s) → s.config.sct + 1 < cycle
    → OfBytes left (λ bytes. MeansProduced cycle places bytes script) → ⊥
not_run cycle places None s script means long it = means
not_run cycle places (Some bytes) s script means long it =
    let same : it.simulation ≡ s = let mine = it.means in cc in
    let sct = ap (λ (x : ScriptData). x.config.sct) same in
    let short = it.short in omega (arith, sct, short, long)

not_store : (cycle : ℕ) → Simulate cycle ≡ Store → ⊥
not_store cycle e = cc

module _ (crew : List (Option Plan)) (cycle : ℕ) (source sink : Call) (run : RunData) (s : ScriptData)
    (means : IsSomeAnd source.bytes_before (λ bytes. MeansScript form.Simulate (places_in crew) bytes s))
    (long : s.config.sct + 1 < cycle) where
  abbrev G : Given
  G = given crew source sink (Simulate cycle)

  refused_by : (e : Ending) → ComesTo G e run → (HasFailed source → ⊥) → (e ≡ Refused fault.Cycle) ⊎ (e ≡ Refused fault.Memory)
  refused_by (Refused fault.Memory) it read = inr refl
  refused_by (Refused fault.Cycle) it read = inl refl
  refused_by (Refused fault.Words) it read = absurd it.why
  refused_by (Refused fault.Read) it read = absurd (read it.why.0)
  refused_by (Refused (fault.Text f)) it read = absurd (not_refused (places_in crew) source.bytes_before s f means it.why.1)
  refused_by (Refused (fault.Step line)) it read = absurd it.why
  refused_by (Refused fault.Disk) it read = absurd (not_store cycle it.why.0)
  refused_by (Refused (fault.Record i)) it read = absurd (not_store cycle it.why.0)
  refused_by (Refused fault.Full) it read = absurd it.why
  refused_by e (h, it) read = absurd (not_run cycle (places_in crew) source.bytes_before s it.script means long it.has.1)

-- ---- both

refuses_long : (g : Given) (e : Ending) (run : RunData) → ComesTo g e run → RefusesLong g e
refuses_long g e run comes cycle is read s means long =
    refused_by g.crew cycle g.source g.sink run s means long e
    (subst (λ (c : Command). ComesTo (given g.crew g.source g.sink c) e run) is comes) read

completes : (g : Given) (e : Ending) (run : RunData) (untouched : Type 0) (d : DiskCall) → ComesTo g e run
    → OnDisk g.command e run g.sink untouched d → Completes g e run d
completes g e run untouched d comes on_disk = (
  λ none ready s tells can. runs_by g run e comes (is_off g.command e run g.sink untouched d on_disk ready) none.0 none.1 s tells can,
  refuses_long g e run comes,
)

pub complete : (crew : List (Option Plan)) (asked : Option Command) (e : Ending) (run : RunData) (source sink : Call)
    (untouched : Type 0) (d : DiskCall)
    → IfSome asked (λ command. ComesTo (given crew source sink command) e run)
    → IfSome asked (λ command. OnDisk command e run sink untouched d)
    → IfSome asked (λ command. Completes (given crew source sink command) e run d)
complete crew None e run source sink untouched d comes on_disk = tt
complete crew (Some command) e run source sink untouched d comes on_disk =
    completes (given crew source sink command) e run untouched d comes on_disk
