-- A produced trace disturbs nothing, so a lawful run of it is undisturbed.
use Rattle.std.proofs.Common.{◌≡◌, ◌≢◌, ℕ, zero, suc, ◌+◌, ◌-◌, ◌*◌, ◌/◌, ◌%◌, ◌≤◌, true, false, refl, sym, ap, ◌∙◌, subst, arith, inl, inr, List, [], ◌∷◌, ◌++◌, length, take, get_or, Option}
use Rattle.std.specs.Prelude.{not}
use Rattle.std.proofs.Math.Nat.{div-add-mod}
use Rattle.std.proofs.lemmas.Bool.{true≢false, and_parts, eqb-true, leb-true, cases_lt}
use Rattle.lift_model.specs.Enums.{Off, Side, A, B}
use Rattle.lift_model.specs.Records.{Settings, InputData, FaultData}
use Rattle.lift_model.specs.Trace.{identifiers}
use Rattle.core_model.proofs.RunLemmas.{run_holds}
use Rattle.core_model.specs.Machine.{State}
use Rattle.core_model.specs.Settling.{Settled, no_settled, out_at}
use Rattle.core_model.specs.Words.{stamp_of}
use Rattle.round_model.proofs.LawfulLemmas.{legal_runs}
use Rattle.round_model.specs.Lawful.{IsScript}
use Rattle.round_model.specs.Parts.{faults_of, failed_from, has_failed, is_healthy_by_script, FailsOnceIn, CalmScript}
use Rattle.round_model.specs.Told.{HealthIsTold, CalmIsTold}
use Rattle.script_model.specs.Faults.{no_faults}
use Rattle.node_sim.proofs.Behind.{are_behind}
use Rattle.node_sim.proofs.Recent.{not_due, too_early}
use Rattle.node_sim.proofs.Sent.{produced-length, produced-take}
use Rattle.node_sim.specs.Laws.{IsTrueBehind, SimulatedIsTrue, SendsOne}
use Rattle.node_sim.specs.Produced.{is_due, produced, produced_from}

no_fail : (side : Side) (x : InputData) → x.faults ≡ no_faults → ((faults_of side x).fail ≡ false) × ((faults_of side x).hold ≡ false)
no_fail A x e = (ap (λ (f : FaultData). f.a.fail) e, ap (λ (f : FaultData). f.a.hold) e)
no_fail B x e = (ap (λ (f : FaultData). f.b.fail) e, ap (λ (f : FaultData). f.b.hold) e)

no_exchange : (side : Side) (x : InputData) → x.faults ≡ no_faults → (faults_of side x).exchange ≡ false
no_exchange A x e = ap (λ (f : FaultData). f.a.exchange) e
no_exchange B x e = ap (λ (f : FaultData). f.b.exchange) e

no_faults_at : (cycle : ℕ) (ids : List (Option ℕ)) (trace : List InputData) (n : ℕ) (inputs past : List InputData) (x : InputData)
    (more : List InputData)
    → produced_from cycle ids trace n inputs ≡ past ++ x ∷ more → x.faults ≡ no_faults
unfolding produced_from
no_faults_at cycle ids trace n [] [] x more e = absurd (cc)
no_faults_at cycle ids trace n [] (z ∷ past) x more e = absurd (cc)
no_faults_at cycle ids trace n (i ∷ inputs) [] x more e = ap faults_first (sym e) where
  faults_first : List InputData → FaultData
  faults_first [] = no_faults
  faults_first (z ∷ zs) = z.faults
no_faults_at cycle ids trace n (i ∷ inputs) (z ∷ past) x more e = no_faults_at cycle ids trace (n + 1) inputs past x more
    (ap behind e) where
      behind : List InputData → List InputData
      behind [] = []
      behind (w ∷ ws) = ws

never_fails : (side : Side) (cycle : ℕ) (ids : List (Option ℕ)) (trace : List InputData) (n : ℕ) (inputs : List InputData)
    → failed_from side false (produced_from cycle ids trace n inputs) ≡ false
unfolding produced_from
never_fails side cycle ids trace n [] = refl
never_fails A cycle ids trace n (i ∷ inputs) = never_fails A cycle ids trace (n + 1) inputs
never_fails B cycle ids trace n (i ∷ inputs) = never_fails B cycle ids trace (n + 1) inputs

healthy : (config : Settings) (cycle : ℕ) (inputs : List InputData) (side : Side) (t : ℕ)
    → is_healthy_by_script side (produced config cycle inputs) t ≡ true
healthy config cycle inputs side t =
    ap not (ap (has_failed side) (produced-take cycle (identifiers config) inputs 1 (t - 1) inputs)
    ∙ never_fails side cycle (identifiers config) inputs 1 (take (t - 1) inputs))

once : (config : Settings) (cycle : ℕ) (inputs : List InputData) → FailsOnceIn (produced config cycle inputs)
once config cycle inputs past x more e side =
    let none = no_faults_at cycle (identifiers config) inputs 1 inputs past x more e in
    record {
      fails = λ fails. absurd (true≢false (sym fails ∙ (no_fail side x none).0));
      exchanged = λ exchanged. absurd (true≢false (sym exchanged ∙ no_exchange side x none));
      alone = λ exchanged. (no_fail side x none).0;
    }

calm : (config : Settings) (cycle : ℕ) (inputs : List InputData) (t : ℕ) → CalmScript (produced config cycle inputs) t
calm config cycle inputs t past x more e early side = no_fail side x (no_faults_at cycle (identifiers config) inputs 1 inputs past x more e)

pub simulated_true : HealthIsTold → CalmIsTold → SimulatedIsTrue
simulated_true health calm_told config cycle crew inputs rounds path serves room run t some old on side j plain named =
    let trace : List InputData = produced config cycle inputs in
    let s : State = run.state in
    let long = produced-length cycle (identifiers config) inputs 1 inputs in
    let script : IsScript config trace =
    record { small = omega (arith, serves.config_in_range.ticks); room = omega (arith, long, room); once = once config cycle inputs }
    in
    let runs = legal_runs config crew trace rounds run.events s run.legal (once config cycle inputs) (omega (arith, long, room)) in
    let old_here : t ≤ length s.path = omega (arith, old, ap length run.same_path) in
    let holds = run_holds config run.events s (omega (arith, serves.config_in_range.ticks)) run.run in
    let within : t ≤ length trace = omega (arith, old_here, holds.settled, ap length runs.trace) in
    let on_here : (get_or s.path (t - 1) no_settled).power ≢ Off =
    subst (λ (p : List Settled). (get_or p (t - 1) no_settled).power ≢ Off) run.same_path on in
    let h = health config crew trace rounds run.events s script run.legal side t some within ∙ healthy config cycle inputs side t in
    let b = are_behind config cycle inputs run.events s serves run.run runs.trace t some old_here on_here side h j plain named in
    let undisturbed = calm_told config crew trace rounds run.events s script run.legal t within (calm config cycle inputs t) in
    let stamped : stamp_of (out_at side (get_or s.path (t - 1) no_settled)).word + 1 ≡ t = b.calm undisturbed in
    let r = b.recent in
    let here : IsTrueBehind config cycle s.trace t (stamp_of (out_at side (get_or s.path (t - 1) no_settled)).word) j = record {
      stamped = stamped;
      tick = r.first.tick;
      value = r.value;
      not_old = omega (arith, stamped, r.not_old);
      past = omega (arith, stamped, r.past);
    } in
    subst (λ (p : List Settled). IsTrueBehind config cycle trace t (stamp_of (out_at side (get_or p (t - 1) no_settled)).word) j)
    (sym run.same_path)
    (subst (λ (xs : List InputData). IsTrueBehind config cycle xs t (stamp_of (out_at side (get_or s.path (t - 1) no_settled)).word) j)
    runs.trace here)

-- ---- one frame a tick

not_twice : (cycle j n q : ℕ) → 2 ≤ cycle → 1 ≤ j → j ≤ n - 1 → n ≡ j + q * cycle → is_due cycle j (n - 1) ≡ false
not_twice cycle j n zero two some h e = absurd (omega (arith, h, e))
not_twice cycle j n (suc q) two some h e =
    let at : n - 1 ≡ j + q * cycle + (cycle - 1) = omega (arith, e, two) in
    rw at (not_due cycle j q (cycle - 1) (omega arith) (omega arith))

pub sends_one_frame : SendsOne
sends_one_frame cycle j n two some due = elim (cases_lt (n - 1) j) [
  | inl l ↦ too_early cycle j (n - 1) l
  | inr l ↦
      (let parts = and_parts _ _ due in
      let from : j ≤ n = leb-true j n parts.0 in
      let even : (n - j) % cycle ≡ 0 = eqb-true ((n - j) % cycle) 0 parts.1 in
      let whole : cycle * ((n - j) / cycle) + (n - j) % cycle ≡ n - j = div-add-mod (n - j) cycle in
      not_twice cycle j n ((n - j) / cycle) two some l (omega (arith, from, even, whole)))
]
