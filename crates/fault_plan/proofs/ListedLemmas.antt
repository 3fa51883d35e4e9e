-- The number of a fault tells its tick and its place among those of the tick.
use Rattle.std.proofs.Common.{◌≡◌, ℕ, zero, suc, ◌+◌, ◌-◌, ◌*◌, ◌/◌, ◌%◌, ◌<◌, ◌≤◌, refl, ap, ◌∙◌, arith, List, [], ◌∷◌, ◌++◌, get_or, length, length-append, map, Some, None}
use Rattle.std.specs.Prelude.{option_map, slice_get}
use Rattle.std.proofs.lemmas.Nat.{div-add-mod', mod_below}
use Rattle.std.proofs.lemmas.Option.{slice_get-get_or, slice_get-map, slice_get_past}
use Rattle.lift_model.specs.Enums.{Side, A, B}
use Rattle.fault_plan.specs.Listed.{whats, single, of_tick, faults_from, single_faults}
use Rattle.fault_plan.specs.declared.single.What.TheVariants.{Silent}

pub get_left : {X : Type 0} (xs ys : List X) (i : ℕ) → i < length xs → slice_get (xs ++ ys) i ≡ slice_get xs i
get_left [] ys i h = absurd (omega (arith, h))
get_left (x ∷ xs) ys zero h = refl
get_left (x ∷ xs) ys (suc i) h = get_left xs ys i (omega (arith, h))

pub get_right : {X : Type 0} (xs ys : List X) (i : ℕ) → slice_get (xs ++ ys) (length xs + i) ≡ slice_get ys i
get_right [] ys i = let e : 0 + i ≡ i = omega arith in ap (slice_get ys) e
get_right (x ∷ xs) ys i =
    let e : length (x ∷ xs) + i ≡ suc (length xs + i) = omega arith in
    ap (slice_get (x ∷ (xs ++ ys))) e ∙ get_right xs ys i

long_tick : (n : ℕ) → length (of_tick n) ≡ 46
long_tick n = refl

pub long_list : (n k : ℕ) → length (faults_from n k) ≡ 46 * k
unfolding faults_from
long_list n zero = refl
long_list n (suc k) = omega (arith, length-append (of_tick n) (faults_from (n + 1) k), long_tick n, long_list (n + 1) k)

pub listed_at : (q r n k : ℕ) → r < 46 → q < k → slice_get (faults_from n k) (46 * q + r) ≡ slice_get (of_tick (n + q)) r
unfolding faults_from
listed_at q r n zero low few = absurd (omega (arith, few))
listed_at zero r n (suc k) low few =
    let at : 46 * 0 + r ≡ r = omega arith in
    let first : n ≡ n + 0 = omega arith in
    ap (slice_get (of_tick n ++ faults_from (n + 1) k)) at
    ∙ (get_left (of_tick n) (faults_from (n + 1) k) r (omega (arith, low, long_tick n)) ∙ ap (λ t. slice_get (of_tick t) r) first)
listed_at (suc q) r n (suc k) low few =
    let at : 46 * suc q + r ≡ length (of_tick n) + (46 * q + r) = omega (arith, long_tick n) in
    let tick : n + 1 + q ≡ n + suc q = omega arith in
    ap (slice_get (of_tick n ++ faults_from (n + 1) k)) at
    ∙ (get_right (of_tick n) (faults_from (n + 1) k) (46 * q + r)
    ∙ (listed_at q r (n + 1) k low (omega (arith, few)) ∙ ap (λ t. slice_get (of_tick t) r) tick))

pub not_listed : (q r n k : ℕ) → k ≤ q → slice_get (faults_from n k) (46 * q + r) ≡ None
not_listed q r n k many = slice_get_past (faults_from n k) (46 * q + r) (omega (arith, many, long_list n k))

-- ---- by the number of a fault

pub listed : (ticks index : ℕ) → index / 46 < ticks
    → slice_get (single_faults ticks) index ≡ slice_get (of_tick (index / 46 + 1)) (index % 46)
listed ticks index few =
    let whole : index ≡ 46 * (index / 46) + index % 46 = omega (arith, div-add-mod' index 46) in
    let tick : 1 + index / 46 ≡ index / 46 + 1 = omega arith in
    ap (slice_get (single_faults ticks)) whole
    ∙ (listed_at (index / 46) (index % 46) 1 ticks (mod_below index 46 (omega arith)) few
    ∙ ap (λ t. slice_get (of_tick t) (index % 46)) tick)

pub unlisted : (ticks index : ℕ) → ticks ≤ index / 46 → slice_get (single_faults ticks) index ≡ None
unlisted ticks index many =
    let whole : index ≡ 46 * (index / 46) + index % 46 = omega (arith, div-add-mod' index 46) in
    ap (slice_get (single_faults ticks)) whole ∙ not_listed (index / 46) (index % 46) 1 ticks many

-- ---- the faults of a tick

long_side : (tick : ℕ) (side : Side) → length (map (single tick side) whats) ≡ 23
long_side tick side = refl

of_one : (tick : ℕ) (side : Side) (place : ℕ) → place < 23
    → slice_get (map (single tick side) whats) place ≡ Some (single tick side (get_or whats place Silent))
of_one tick side place low =
    slice_get-map (single tick side) whats place ∙ ap (option_map (single tick side)) (slice_get-get_or whats place Silent low)

pub of_first : (tick place : ℕ) → place < 23 → slice_get (of_tick tick) place ≡ Some (single tick A (get_or whats place Silent))
of_first tick place low =
    get_left (map (single tick A) whats) (map (single tick B) whats) place (omega (arith, low, long_side tick A)) ∙ of_one tick A place low

pub of_second : (tick place : ℕ) → 23 ≤ place → place < 46
    → slice_get (of_tick tick) place ≡ Some (single tick B (get_or whats (place - 23) Silent))
of_second tick place from to =
    let at : place ≡ length (map (single tick A) whats) + (place - 23) = omega (arith, from, long_side tick A) in
    ap (slice_get (of_tick tick)) at
    ∙ (get_right (map (single tick A) whats) (map (single tick B) whats) (place - 23)
    ∙ of_one tick B (place - 23) (omega (arith, to, from)))
