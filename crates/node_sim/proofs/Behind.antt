-- What stands behind power in a run over a produced trace.
use Rattle.std.proofs.Common.{◌≡◌, ◌≢◌, ℕ, zero, suc, ◌+◌, ◌-◌, ◌^◌, ◌<◌, ◌≤◌, true, false, refl, sym, ap, ◌∙◌, subst, arith, inl, inr, List, length, take, get_or, Some, None}
use Rattle.std.specs.Prelude.{◌⊎◌}
use Rattle.lift_base.specs.Ruling.{Ruling}
use Rattle.lift_model.specs.Enums.{Off, Side}
use Rattle.lift_model.specs.Grant.{grant, verdict_at_end}
use Rattle.lift_model.specs.Records.{Settings, InputData}
use Rattle.lift_model.specs.Trace.{identifiers, image_at_end}
use Rattle.core_model.proofs.PlainLemmas.{run_plain}
use Rattle.core_model.proofs.RunLemmas.{run_holds}
use Rattle.core_model.proofs.WordLemmas.{stamp_of-command}
use Rattle.core_model.specs.Due.{IsUndisturbed, due_command}
use Rattle.core_model.specs.Machine.{State, Event}
use Rattle.core_model.specs.Runs.{CoreRun, is_healthy_at}
use Rattle.core_model.specs.Settling.{Settled, Out, no_settled, out_at}
use Rattle.core_model.specs.Words.{is_off, stamp_of}
use Rattle.core_model.proofs.TruthLemmas.{granted_live, is_on}
use Rattle.node_sim.proofs.Missing.{clause_not_first, there}
use Rattle.node_sim.proofs.Recent.{recent, whole_pair, is_source}
use Rattle.node_sim.proofs.Sent.{produced-length}
use Rattle.node_sim.specs.Laws.{Serves, IsRecent, AreRecent, NeverMissing}
use Rattle.node_sim.specs.Produced.{produced}

-- behind power of tick t stands the sample of one or two ticks before, in a run that nothing disturbs of one, and its values are recent
pub record IsBehind (config : Settings) (cycle : ℕ) (events : List Event) (trace : List InputData) (t n j plain : ℕ) : Type 0 where
  pub age : (n + 1 ≡ t) ⊎ (n + 2 ≡ t)
  pub calm : IsUndisturbed events t → n + 1 ≡ t
  pub recent : IsRecent config cycle trace n j plain

abbrev AreBehind : Settings → ℕ → List Event → State → Type 0
AreBehind config cycle events s =
    (t : ℕ) → 0 < t → t ≤ length s.path → (get_or s.path (t - 1) no_settled).power ≢ Off
    → (side : Side) → is_healthy_at side events t ≡ true → (j plain : ℕ) → get_or (identifiers config) j None ≡ Some plain
    → IsBehind config cycle events s.trace t (stamp_of (out_at side (get_or s.path (t - 1) no_settled)).word) j plain

long : (config : Settings) (cycle : ℕ) (inputs : List InputData) → length (produced config cycle inputs) ≡ length inputs
long config cycle inputs = produced-length cycle (identifiers config) inputs 1 inputs

pub are_recent : (config : Settings) (cycle : ℕ) (inputs : List InputData) → Serves config cycle
    → AreRecent config cycle (produced config cycle inputs)
are_recent config cycle inputs s n first last j plain named =
    recent config cycle inputs s n j plain (omega (arith, is_source config j plain named)) (omega (arith, long config cycle inputs)) named

pub never_missing : (config : Settings) (cycle : ℕ) (inputs : List InputData) → Serves config cycle
    → NeverMissing config (produced config cycle inputs)
never_missing config cycle inputs s n first last =
    clause_not_first config (take n (produced config cycle inputs)) (λ j few.
    there config (image_at_end config (take n (produced config cycle inputs))) j (λ plain named.
    let r = are_recent config cycle inputs s n first last j plain named in (_, r.value)) few)

due_stamp : (v : ℕ → Ruling) (n : ℕ) → (due_command v n).stamp ≡ n
due_stamp v zero = refl
due_stamp v (suc n) = refl

pub are_behind : (config : Settings) (cycle : ℕ) (inputs : List InputData) (events : List Event) (s : State) → Serves config cycle
    → CoreRun config events s → s.trace ≡ produced config cycle inputs → AreBehind config cycle events s
are_behind config cycle inputs events s serves run made t some old on side healthy j plain named =
    let small : config.ticks < 2 ^ 24 = omega (arith, serves.config_in_range.ticks) in
    let h = run_holds config events s small run in
    let st : Settled = get_or s.path (t - 1) no_settled in
    let out : Out = out_at side st in
    let n = stamp_of out.word in
    elim (h.backed t some old side healthy) [
      | inl off ↦ absurd (on off)
      | inr b ↦
          (let early : n < t = elim b.age [ inl e ↦ omega (arith, e) | inr e ↦ omega (arith, e) ] in
          let granted : is_off (verdict_at_end config (take n s.trace)).kind ≡ false = ap is_off b.granted ∙ is_on st.power on in
          let live = granted_live config (take n s.trace) j plain granted named in
          let here : get_or (image_at_end config (take n (produced config cycle inputs))).values j None ≡ Some live.0 =
          subst (λ (xs : List InputData). get_or (image_at_end config (take n xs)).values j None ≡ Some live.0) made live.1 in
          let last : n ≤ length inputs = omega (arith, early, old, h.settled, ap length made, long config cycle inputs) in
          let late = whole_pair config cycle inputs n j plain serves.config_in_range last named live.0 here in
          record {
            age = b.age;
            calm = λ calm.
                (let p = run_plain config events s small run t some old calm in
                let stamped : n ≡ t - 1 = ap stamp_of (p.words side)
                ∙ (stamp_of-command (due_command (grant config s.trace) (t - 1))
                (omega (arith, due_stamp (grant config s.trace) (t - 1), old, h.settled, h.few, small))
                ∙ due_stamp (grant config s.trace) (t - 1)) in
                omega arith);
            recent = subst (λ (xs : List InputData). IsRecent config cycle xs n j plain) (sym made)
                (recent config cycle inputs serves n j plain late last named);
          })
    ]
