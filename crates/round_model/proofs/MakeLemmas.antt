-- How a legal round is made of two turns.
use Rattle.std.proofs.Common.{◌≡◌, ℕ, true, refl, sym, ap, ◌∙◌, subst, inl, inr, List, [], ◌∷◌, ◌++◌, Option, Some, None}
use Rattle.std.specs.Prelude.{◌⊎◌}
use Rattle.std.proofs.lemmas.Bool.{true≢false}
use Rattle.std.proofs.lemmas.List.{append-nil, append_assoc}
use Rattle.lift_base.specs.declared.Side.{Side}
use Rattle.lift_base.specs.declared.Side.TheVariants.{A, B}
use Rattle.lift_model.specs.Plans.{Plan, untold, deeds, mask, idle, masked, IsDeed, rest_of, Acted}
use Rattle.lift_model.specs.Records.{Settings, InputData, SideFaultData, DeedData}
use Rattle.core_model.specs.Decision.{Kept}
use Rattle.core_model.specs.Machine.{State, Tick, side_of, next, start}
use Rattle.core_model.specs.Runs.{after_all}
use Rattle.round_model.specs.Events.{events_of}
use Rattle.round_model.specs.Holding.{held_in, Upholds, same, free}
use Rattle.round_model.specs.Lawful.{IsTurn, no_rounds, then_round, AreLegal, HasRounds}
use Rattle.round_model.specs.Parts.{Part, Acting, Held, Failed, Exchanged, faults_of, part_of}
use Rattle.round_model.specs.Records.{TurnData, RoundData}
use Rattle.round_model.specs.Turns.{after, turn_of, published_by, acting_turn, held_turn, exchanged_turn, failed_turn, has_looked, Saw, IsLegalRound}

-- the two turns keep their promises, and the board's about what was seen
pub legal_from : (config : Settings) (crew : List (Option Plan)) (s : State) (input : InputData) (r : RoundData)
    → ((side : Side) → IsTurn config (next config s (Tick input)) (part_of side s.trace input) (faults_of side input)
    (held_in crew side s.trace input) (side_of side s).kept (turn_of side r))
    → ((side : Side) → has_looked (part_of side s.trace input) ≡ true → Saw s r side)
    → (part_of A s.trace input ≡ Acting → part_of B s.trace input ≡ Acting
    → (r.a.seen ≡ published_by s r B) ⊎ (r.b.seen ≡ published_by s r A))
    → IsLegalRound config crew s input r
legal_from config crew s input r turns saw crossed = record {
  held = λ side p. subst (λ q. IsTurn config (next config s (Tick input)) q (faults_of side input) (held_in crew side s.trace input)
      (side_of side s).kept (turn_of side r)) p (turns side);
  acting = λ side p. subst (λ q. IsTurn config (next config s (Tick input)) q (faults_of side input) (held_in crew side s.trace input)
      (side_of side s).kept (turn_of side r)) p (turns side);
  failed = λ side p. subst (λ q. IsTurn config (next config s (Tick input)) q (faults_of side input) (held_in crew side s.trace input)
      (side_of side s).kept (turn_of side r)) p (turns side);
  exchanged = λ side p. subst (λ q. IsTurn config (next config s (Tick input)) q (faults_of side input) (held_in crew side s.trace input)
      (side_of side s).kept (turn_of side r)) p (turns side);
  saw = saw;
  crossed = crossed;
}

-- ---- the plan that was told when an object was given, and the one that it tells now

pub deed_upheld : {p q : Option Plan} (seen : ℕ) (d : DeedData) → Upholds p q → IsDeed q seen d → IsDeed p seen d
deed_upheld seen d (same p) h = h
deed_upheld seen d (free q) h = tt

-- ---- each script has rounds

some_deed : Option Plan → ℕ → DeedData
some_deed None seen = idle
some_deed (Some untold) seen = idle
some_deed (Some (deeds [])) seen = idle
some_deed (Some (deeds (x ∷ xs))) seen = x
some_deed (Some (mask m)) seen = masked m seen

some_told : (held : Option Plan) (seen : ℕ) → IsDeed held seen (some_deed held seen)
unfolding some_deed
some_told None seen = refl
some_told (Some untold) seen = tt
some_told (Some (deeds [])) seen = refl
some_told (Some (deeds (x ∷ xs))) seen = refl
some_told (Some (mask m)) seen = refl

some_turn : Settings → State → Part → SideFaultData → Option Plan → Kept → ℕ → TurnData
some_turn config t Acting f held kept seen = acting_turn config t kept seen
some_turn config t Held f held kept seen = held_turn
some_turn config t Failed f held kept seen = failed_turn f (some_deed held seen) seen
some_turn config t Exchanged f held kept seen = exchanged_turn

some_is : (config : Settings) (t : State) (p : Part) (f : SideFaultData) (held : Option Plan) (kept : Kept) (seen : ℕ)
    → IsTurn config t p f held kept (some_turn config t p f held kept seen)
    × (has_looked p ≡ true → (some_turn config t p f held kept seen).seen ≡ seen)
unfolding some_turn
some_is config t Acting f held kept seen = (refl, λ h. refl)
some_is config t Held f held kept seen = (refl, λ h. absurd (true≢false (sym h)))
some_is config t Exchanged f held kept seen = (refl, λ h. absurd (true≢false (sym h)))
some_is config t Failed f held kept seen = (record { deed = some_deed held seen; told = some_told held seen; turned = refl }, λ h. refl)

round_exists : (config : Settings) (crew : List (Option Plan)) (s : State) (input : InputData) → (r : RoundData)
    × IsLegalRound config crew s input r
round_exists config crew s input =
    let t = next config s (Tick input) in
    let pa = part_of A s.trace input in
    let pb = part_of B s.trace input in
    let ua = some_turn config t pa input.faults.a (held_in crew A s.trace input) s.a.kept s.b.publish in
    let ub = some_turn config t pb input.faults.b (held_in crew B s.trace input) s.b.kept (after s.a.publish ua.publish) in
    let ia = some_is config t pa input.faults.a (held_in crew A s.trace input) s.a.kept s.b.publish in
    let ib = some_is config t pb input.faults.b (held_in crew B s.trace input) s.b.kept (after s.a.publish ua.publish) in
    let r : RoundData = record { a = ua; b = ub } in (
      r,
      legal_from config crew s input r (elim [ A ↦ ia.0 | B ↦ ib.0 ]) (elim [ A ↦ λ h. inr (ia.1 h) | B ↦ λ h. inl (ib.1 h) ])
          (λ p q. inr (ib.1 (ap has_looked q))),
    )

rounds_from : (config : Settings) (crew : List (Option Plan)) (more past : List InputData) (rounds : List RoundData)
    → AreLegal config crew past rounds → (all : List RoundData) × AreLegal config crew (past ++ more) all
rounds_from config crew [] past rounds l = (rounds, subst (λ xs. AreLegal config crew xs rounds) (sym (append-nil past)) l)
rounds_from config crew (x ∷ more) past rounds l =
    let n = round_exists config crew l.state x in
    let w = rounds_from config crew more (past ++ x ∷ []) (rounds ++ n.0 ∷ [])
    (record {
      events = l.events ++ events_of l.state x n.0;
      state = after_all config l.state (events_of l.state x n.0);
      legal =
          then_round l.legal x n.0 n.1;
    }) in
    (w.0, subst (λ xs. AreLegal config crew xs w.0) (append_assoc past (x ∷ []) more) w.1)

pub has_rounds : HasRounds
has_rounds config crew inputs = rounds_from config crew inputs [] [] (record { events = []; state = start; legal = no_rounds })

-- an act keeps what was told when the object was given
pub act_upheld : {p q : Option Plan} (seen : ℕ) (d : DeedData) (after : Option Plan) → Upholds p q → Acted q seen d after
    → IsDeed p seen d × Upholds (rest_of p) after
act_upheld seen d after (same None) h = (h.0, subst (Upholds None) (sym h.1) (same None))
act_upheld seen d after (same (Some untold)) h = (tt, subst (Upholds (Some untold)) (sym h.1) (free h.0))
act_upheld seen d after (same (Some (deeds []))) h =
    (h.2.0, subst (Upholds (Some (deeds []))) (sym (h.1 ∙ ap (λ r. Some r) h.2.1)) (same (Some (deeds []))))
act_upheld seen d after (same (Some (deeds (x ∷ xs)))) h =
    (h.2.0, subst (Upholds (Some (deeds xs))) (sym (h.1 ∙ ap (λ r. Some r) h.2.1)) (same (Some (deeds xs))))
act_upheld seen d after (same (Some (mask m))) h =
    (h.2.0, subst (Upholds (Some (mask m))) (sym (h.1 ∙ ap (λ r. Some r) h.2.1)) (same (Some (mask m))))
act_upheld seen d after (free q) h = (tt, subst (Upholds (Some untold)) (sym h.1) (free h.0))
