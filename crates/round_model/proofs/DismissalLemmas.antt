-- What a dismissal takes and a gift gives.
use Rattle.std.proofs.Common.{◌≡◌, ℕ, Bool, true, false, refl, ap, ◌∙◌, subst, cond, List, [], ◌∷◌, ◌++◌, get_or, Option, Some, None}
use Rattle.std.specs.Prelude.{is_none}
use Rattle.std.proofs.lemmas.Bool.{and_parts, and_from}
use Rattle.lift_base.specs.declared.Side.{Side}
use Rattle.lift_model.specs.Plans.{Plan, idle, rest_of}
use Rattle.lift_model.specs.Records.{InputData, SideFaultData}
use Rattle.round_model.specs.Dismissal.{none_given, turn_by_lines, Holds, HoldsNothing, DismissedHoldsNothing, StaysDismissed, ExchangedHoldsNothing, NeverGivenHoldsNothing, GivenIsHeld}
use Rattle.round_model.specs.Holding.{given, held_by, held_from, held_in}
use Rattle.round_model.specs.Parts.{faults_of, failed_by, has_failed, part_of}
use Rattle.round_model.specs.Turns.{turn_of, failed_turn, IsFailedTurn}
use Rattle.round_model.proofs.HeldLemmas.{held-append, rest-none, none_is}
use Rattle.round_model.proofs.InlineLemmas.{either-none, order-keep, given-none}

-- ---- from what is held to the turns

holds : (crew : List (Option Plan)) (side : Side) (past : List InputData) (input : InputData) (plan : Option Plan)
    → held_in crew side past input ≡ plan → Holds crew side past input plan
holds crew side past input plan e = record {
  held = e;
  turn = λ config s round same part legal.
      let u = turn_of side round in
      let there = subst (λ x. IsFailedTurn (faults_of side input) (held_in crew side x input) u) same
      (legal.failed side (ap (λ x. part_of side x input) same ∙ part)) in
      subst (λ o. IsFailedTurn (faults_of side input) o u) e there;
}

by_lines : (f : SideFaultData) (seen : ℕ) → failed_turn f idle seen ≡ turn_by_lines f seen
by_lines f seen = rw (either-none f.publish, either-none f.command, order-keep f.contactor) refl

holds_nothing : (crew : List (Option Plan)) (side : Side) (past : List InputData) (input : InputData)
    → held_in crew side past input ≡ None → HoldsNothing crew side past input
holds_nothing crew side past input e = record {
  held = e;
  turn = λ config s round same part legal.
      let t = (holds crew side past input None e).turn config s round same part legal in
      t.turned ∙ (ap (λ d. failed_turn (faults_of side input) d (turn_of side round).seen) t.told
      ∙ by_lines (faults_of side input) (turn_of side round).seen);
}

-- ---- nothing comes of nothing

none_by : (crew : List (Option Plan)) (failed : Bool) (f : SideFaultData) (held : Option Plan) → given crew f.give f.dismiss held ≡ None
    → held_by crew failed f held ≡ None
none_by crew failed f held e = ap (λ o. cond f.exchange None (cond failed (rest_of o) o)) e ∙ rest-none f.exchange failed

none_stays : (crew : List (Option Plan)) (f : SideFaultData) → is_none f.give ≡ true → given crew f.give f.dismiss None ≡ None
none_stays crew f h = ap (λ g. given crew g f.dismiss None) (none_is f.give h) ∙ given-none crew f.dismiss

none_comes : (crew : List (Option Plan)) (side : Side) (was : Bool) (xs : List InputData) → none_given side xs ≡ true
    → held_from crew side was None xs ≡ None
none_comes crew side was [] h = refl
none_comes crew side was (x ∷ xs) h =
    let p = and_parts _ _ h in
    let b = failed_by was (faults_of side x) in
    ap (λ o. held_from crew side b o xs) (none_by crew b (faults_of side x) None (none_stays crew (faults_of side x) p.0))
    ∙ none_comes crew side b xs p.1

none_given-append : (side : Side) (xs : List InputData) (x : InputData) → none_given side (xs ++ x ∷ []) ≡ true
    → (none_given side xs ≡ true) × (is_none (faults_of side x).give ≡ true)
none_given-append side [] x h = (refl, (and_parts _ _ h).0)
none_given-append side (y ∷ xs) x h = let p = and_parts _ _ h in let q = none_given-append side xs x p.1 in (and_from _ _ p.0 q.0, q.1)

-- ---- the laws of dismissals

taken : (crew : List (Option Plan)) (f : SideFaultData) (held : Option Plan) → f.dismiss ≡ true → f.give ≡ None
    → given crew f.give f.dismiss held ≡ None
taken crew f held away none = ap (λ g. given crew g f.dismiss held) none ∙ ap (λ d. given crew None d held) away

pub dismissed : DismissedHoldsNothing
dismissed crew side past now away none = holds_nothing crew side past now
    (taken crew (faults_of side now) (held_from crew side false None past) away none)

-- what is held behind these ticks is nothing, and this tick gives nothing
still_none : (crew : List (Option Plan)) (side : Side) (past : List InputData) (now : InputData)
    → held_from crew side false None past ≡ None → is_none (faults_of side now).give ≡ true → HoldsNothing crew side past now
still_none crew side past now e h = holds_nothing crew side past now (ap
    (given crew (faults_of side now).give (faults_of side now).dismiss) e ∙ none_stays crew (faults_of side now) h)

pub stays_dismissed : StaysDismissed
stays_dismissed crew side past away between now dismisses none =
    let f = faults_of side away in
    let p = and_parts _ _ none in
    let q = none_given-append side between now p.1 in
    let b = failed_by (has_failed side past) f in
    let before = held_from crew side false None past in
    still_none crew side (past ++ away ∷ between) now (held-append crew side false None past (away ∷ between)
    ∙ (ap (λ o. held_from crew side b o between) (none_by crew b f before (taken crew f before dismisses (none_is f.give p.0)))
    ∙ none_comes crew side b between q.0)) q.1

-- a side that is exchanged holds nothing then, whatever it held
pub exchanged : ExchangedHoldsNothing
exchanged crew side past anew between now changes none =
    let f = faults_of side anew in
    let q = none_given-append side between now none in
    let b = failed_by (has_failed side past) f in
    let before = held_from crew side false None past in
    let one : held_by crew b f before ≡ None = ap (λ x. cond x None (cond b (rest_of (given crew f.give f.dismiss before))
    (given crew f.give f.dismiss before))) changes in
    still_none crew side (past ++ anew ∷ between) now (held-append crew side false None past (anew ∷ between)
    ∙ (ap (λ o. held_from crew side b o between) one ∙ none_comes crew side b between q.0)) q.1

pub never_given : NeverGivenHoldsNothing
never_given crew side past now none = let q = none_given-append side past now none in still_none crew side past now
    (none_comes crew side false past q.0) q.1

-- ---- the laws of gifts

given_now : (crew : List (Option Plan)) (f : SideFaultData) (held : Option Plan) (i : ℕ) → f.give ≡ Some i
    → given crew f.give f.dismiss held ≡ get_or crew i None
given_now crew f held i gives = ap (λ g. given crew g f.dismiss held) gives

pub given_is_held : GivenIsHeld
given_is_held crew side past now i gives = holds crew side past now (get_or crew i None)
    (given_now crew (faults_of side now) (held_from crew side false None past) i gives)
