-- The laws of what is told of a round, from the lemmas on legal rounds.
use Rattle.std.proofs.Common.{◌≡◌, ◌<◌, false, refl, sym, ap, subst, arith, List, [], length}
use Rattle.std.proofs.lemmas.List.{length_push}
use Rattle.lift_model.specs.Records.{InputData}
use Rattle.core_model.specs.Machine.{State, Tick, side_of, next}
use Rattle.core_model.specs.History.{IsLockedOut}
use Rattle.core_model.proofs.LockLemmas.{run_locks_out, run_starts_open}
use Rattle.round_model.specs.Parts.{Part, Acting, Held, Failed, Exchanged, faults_of, part_of, FailsOnce}
use Rattle.round_model.specs.Told.{SideIsTold, RoundIsTold, HealthIsTold, CalmIsTold, LawfulLocksOut, LawfulStartsOpen}
use Rattle.round_model.specs.Turns.{turn_of}
use Rattle.round_model.proofs.RoundLemmas.{is_acting, steps_after}
use Rattle.round_model.proofs.LegalLemmas.{is_exchanged, side_tells, failed_told, round_runs, after_round}
use Rattle.round_model.proofs.LawfulLemmas.{legal_runs, once_front, healthy_as_told, undisturbed_as_told}

not_acting : (p : Part) → (p ≡ Acting → ⊥) → is_acting p ≡ false
not_acting Acting h = absurd (h refl)
not_acting Held h = refl
not_acting Failed h = refl
not_acting Exchanged h = refl

not_exchanged : (p : Part) → (p ≡ Exchanged → ⊥) → is_exchanged p ≡ false
not_exchanged Acting h = refl
not_exchanged Held h = refl
not_exchanged Failed h = refl
not_exchanged Exchanged h = absurd (h refl)

pub round_is_told : RoundIsTold
round_is_told config crew inputs rounds events s input round script legal l side =
    let longer = length_push inputs input in
    let before = once_front inputs input script.once in
    let h = legal_runs config crew inputs rounds events s legal before (omega (arith, script.room)) in
    let once : FailsOnce s.trace input = subst (λ past. FailsOnce past input) (sym h.trace) (script.once inputs input [] refl) in
    let room : length s.trace < config.ticks = subst (λ (past : List InputData). length past < config.ticks) (sym h.trace)
    (omega (arith, script.room)) in
    let k = side_tells config crew s input round h.between l side in
    let told : SideIsTold config (next config s (Tick input)) (part_of side s.trace input) (faults_of side input) (side_of side s)
    (turn_of side round)
    (side_of side (after_round config s input round)) = record {
      failed = failed_told config crew s input round h.between l side;
      rest = k.rest;
      publish = k.publish;
      command = k.command;
      contactor = k.forced;
      acting = k.acting;
      anew = λ p. k.anew (ap is_exchanged p);
      others = λ no still. k.passive (not_acting _ no) (not_exchanged _ still);
    } in
    subst (λ (t : State). SideIsTold config (next config s (Tick input)) (part_of side s.trace input) (faults_of side input)
    (side_of side s) (turn_of side round) (side_of side t))
    (steps_after (round_runs config crew s input round h.between once room l)) told

pub health_is_told : HealthIsTold
health_is_told config crew inputs rounds events s script legal side t some old =
    healthy_as_told config crew script.small inputs rounds events s legal script.once script.room side t some old

pub calm_is_told : CalmIsTold
calm_is_told config crew inputs rounds events s script legal t old calm =
    undisturbed_as_told config crew script.small inputs rounds events s legal script.once script.room t old calm

pub lawful_locks_out : LawfulLocksOut
lawful_locks_out config crew inputs rounds path small run =
    subst (IsLockedOut config run.events) (sym run.same_path) (run_locks_out config run.events run.state small run.run)

pub lawful_starts_open : LawfulStartsOpen
lawful_starts_open config crew inputs rounds path small run = run_starts_open config run.events run.state small run.run
