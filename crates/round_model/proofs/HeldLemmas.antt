-- What a side holds, tick by tick.
use Rattle.std.proofs.Common.{◌≡◌, ℕ, zero, suc, ◌+◌, Bool, true, false, refl, sym, ap, ◌∙◌, arith, cond, List, [], ◌∷◌, ◌++◌, length, drop, Option, Some, None}
use Rattle.std.specs.Prelude.{◌&&◌, not, is_none}
use Rattle.std.proofs.lemmas.Bool.{and_parts, and_from, true≢false, not-true}
use Rattle.lift_base.specs.declared.Side.{Side}
use Rattle.lift_model.specs.Plans.{Plan, deeds, mask, rest_of}
use Rattle.lift_model.specs.Records.{InputData, DeedData, SideFaultData}
use Rattle.round_model.specs.Holding.{given, held_by, held_from, held_in}
use Rattle.round_model.specs.Inline.{leaves, all_leave, ListIsTold, DeedOfList, MaskIsTold, DeedOfMask}
use Rattle.round_model.specs.Parts.{faults_of, failed_by, failed_from, has_failed}

pub held-append : (crew : List (Option Plan)) (side : Side) (was : Bool) (held : Option Plan) (xs ys : List InputData)
    → held_from crew side was held (xs ++ ys) ≡ held_from crew side (failed_from side was xs) (held_from crew side was held xs) ys
held-append crew side was held [] ys = refl
held-append crew side was held (x ∷ xs) ys = held-append crew side (failed_by was (faults_of side x))
    (held_by crew (failed_by was (faults_of side x)) (faults_of side x) held) xs ys

pub none_is : {A : Type 0} (o : Option A) → is_none o ≡ true → o ≡ None
none_is None e = refl
none_is (Some a) e = absurd (true≢false (sym e))

pub left_alone : (crew : List (Option Plan)) (f : SideFaultData) (held : Option Plan) → leaves f ≡ true
    → given crew f.give f.dismiss held ≡ held
left_alone crew f held h =
    let p = and_parts _ _ (and_parts _ _ h).1 in
    let a : f.dismiss ≡ false = not-true _ p.0 in
    let b : f.give ≡ None = none_is f.give p.1 in
    rw (a, b) refl

pub no_exchange : (f : SideFaultData) → leaves f ≡ true → f.exchange ≡ false
no_exchange f h = not-true _ (and_parts _ _ h).0

-- what a failed side holds after a tick that leaves it
pub left_rest : (crew : List (Option Plan)) (f : SideFaultData) (held : Option Plan) → leaves f ≡ true
    → held_by crew true f held ≡ rest_of held
left_rest crew f held h = ap (λ b. cond b None (rest_of (given crew f.give f.dismiss held))) (no_exchange f h)
    ∙ ap rest_of (left_alone crew f held h)

-- and it is still failed
pub left_failed : (f : SideFaultData) → leaves f ≡ true → failed_by true f ≡ true
left_failed f h = ap (λ b. not b && true) (no_exchange f h)

-- where it failed, and was given or kept this before its act
pub acted_rest : (crew : List (Option Plan)) (was : Bool) (f : SideFaultData) (held : Option Plan) → failed_by was f ≡ true
    → held_by crew (failed_by was f) f held ≡ rest_of (given crew f.give f.dismiss held)
acted_rest crew was f held failed = ap (λ b. held_by crew b f held) failed
    ∙ ap (λ b. cond b None (rest_of (given crew f.give f.dismiss held))) (not-true _ (and_parts _ _ failed).0)

-- nothing that is held stays nothing
pub rest-none : (x b : Bool) → cond x None (cond b (rest_of None) None) ≡ None
rest-none true b = refl
rest-none false true = refl
rest-none false false = refl

pub rest-drop : (told : List DeedData) → rest_of (Some (deeds told)) ≡ Some (deeds (drop 1 told))
rest-drop [] = refl
rest-drop (x ∷ told) = refl

drop-one : (told : List DeedData) (n : ℕ) → drop n (drop 1 told) ≡ drop (suc n) told
drop-one [] zero = refl
drop-one [] (suc n) = refl
drop-one (x ∷ told) n = refl

-- a failed side's list goes down by one at each tick
pub goes_down : (crew : List (Option Plan)) (side : Side) (xs : List InputData) (told : List DeedData) → all_leave side xs ≡ true
    → held_from crew side true (Some (deeds told)) xs ≡ Some (deeds (drop (length xs) told))
goes_down crew side [] told h = refl
goes_down crew side (x ∷ xs) told h =
    let p = and_parts _ _ h in
    let one : held_by crew true (faults_of side x) (Some (deeds told)) ≡ Some (deeds (drop 1 told)) =
    left_rest crew (faults_of side x) (Some (deeds told)) p.0 ∙ rest-drop told in
    ap (λ b. held_from crew side b (held_by crew b (faults_of side x) (Some (deeds told))) xs) (left_failed (faults_of side x) p.0)
    ∙ (ap (λ o. held_from crew side true o xs) one ∙ (goes_down crew side xs (drop 1 told) p.1
    ∙ ap (λ ds. Some (deeds ds)) (drop-one told (length xs))))

pub all_leave-append : (side : Side) (xs : List InputData) (x : InputData) → all_leave side (xs ++ x ∷ []) ≡ true
    → (all_leave side xs ≡ true) × (leaves (faults_of side x) ≡ true)
all_leave-append side [] x h = (refl, (and_parts _ _ h).0)
all_leave-append side (y ∷ xs) x h = let p = and_parts _ _ h in let q = all_leave-append side xs x p.1 in (and_from _ _ p.0 q.0, q.1)

pub list_is_told : ListIsTold
list_is_told crew side past gift between now i told failed gives tells leave =
    let parts = all_leave-append side between now leave in
    let first : held_in crew side past gift ≡ Some (deeds told) =
    ap (λ g. given crew g (faults_of side gift).dismiss (held_from crew side false None past)) gives ∙ tells in
    let f = faults_of side gift in
    let one : held_by crew (failed_by (has_failed side past) f) f (held_from crew side false None past) ≡ Some (deeds (drop 1 told)) =
    acted_rest crew (has_failed side past) f (held_from crew side false None past) failed ∙ (ap rest_of first ∙ rest-drop told) in
    let all : held_from crew side false None (past ++ gift ∷ between) ≡ Some (deeds (drop (length between) (drop 1 told))) =
    held-append crew side false None past (gift ∷ between)
    ∙ (ap (λ o. held_from crew side (failed_by (has_failed side past) f) o between) one
    ∙ (ap (λ b. held_from crew side b (Some (deeds (drop 1 told))) between) failed ∙ goes_down crew side between (drop 1 told) parts.0)) in
    let count : suc (length between) ≡ length between + 1 = omega arith in (
      first,
      left_alone crew (faults_of side now) _ parts.1
          ∙ (all ∙ (ap (λ ds. Some (deeds ds)) (drop-one told (length between)) ∙ ap (λ n. Some (deeds (drop n told))) count)),
    )

pub deed_of_list : DeedOfList
deed_of_list [] zero seen d h = h
deed_of_list [] (suc j) seen d h = h
deed_of_list (x ∷ told) zero seen d h = h
deed_of_list (x ∷ told) (suc j) seen d h = deed_of_list told j seen d h

-- a failed side's mask stays
stays : (crew : List (Option Plan)) (side : Side) (xs : List InputData) (m : ℕ) → all_leave side xs ≡ true
    → held_from crew side true (Some (mask m)) xs ≡ Some (mask m)
stays crew side [] m h = refl
stays crew side (x ∷ xs) m h =
    let p = and_parts _ _ h in
    let one : held_by crew true (faults_of side x) (Some (mask m)) ≡ Some (mask m) =
    left_rest crew (faults_of side x) (Some (mask m)) p.0 in
    ap (λ b. held_from crew side b (held_by crew b (faults_of side x) (Some (mask m))) xs) (left_failed (faults_of side x) p.0)
    ∙ (ap (λ o. held_from crew side true o xs) one ∙ stays crew side xs m p.1)

pub mask_is_told : MaskIsTold
mask_is_told crew side past gift between now i m failed gives tells leave =
    let parts = all_leave-append side between now leave in
    let first : held_in crew side past gift ≡ Some (mask m) =
    ap (λ g. given crew g (faults_of side gift).dismiss (held_from crew side false None past)) gives ∙ tells in
    let f = faults_of side gift in
    let one : held_by crew (failed_by (has_failed side past) f) f (held_from crew side false None past) ≡ Some (mask m) =
    acted_rest crew (has_failed side past) f (held_from crew side false None past) failed ∙ ap rest_of first in
    let all : held_from crew side false None (past ++ gift ∷ between) ≡ Some (mask m) =
    held-append crew side false None past (gift ∷ between)
    ∙ (ap (λ o. held_from crew side (failed_by (has_failed side past) f) o between) one
    ∙ (ap (λ b. held_from crew side b (Some (mask m)) between) failed ∙ stays crew side between m parts.0)) in
    (first, left_alone crew (faults_of side now) _ parts.1 ∙ all)

pub deed_of_mask : DeedOfMask
deed_of_mask m seen d h = h
