-- An unintended movement, one input more.
use Rattle.std.proofs.Common.{◌≡◌, ℕ, suc, ◌-◌, ◌≤◌, List, [], ◌∷◌, ◌++◌, length, take, refl, ap, ◌∙◌, arith, Bool}
use Rattle.std.specs.Prelude.{◌||◌, ◌&&◌, not}
use Rattle.std.proofs.lemmas.List.{length_push, take-append-le, take_all}
use Rattle.lift_base.specs.declared.wires.TheConstants.{RESET}
use Rattle.lift_model.proofs.PushLemmas.{rises_push}
use Rattle.lift_model.proofs.TickLemmas.{latched-suc, latched-same, latched-zero}
use Rattle.lift_model.specs.Grant.{verdict_at_end}
use Rattle.lift_model.specs.Levelling.{leaves, leaves_at, has_moved, may_level, is_in_zone}
use Rattle.lift_model.specs.Records.{Settings, InputData}
use Rattle.lift_model.specs.Ticks.{latched}
use Rattle.lift_model.specs.Trace.{words_of, image_at_end}
use Rattle.lift_model.specs.Wires.{rises}
use Rattle.std.specs.Prelude.{false}

-- the ticks so far left as they did
leaves_old : (config : Settings) (inputs : List InputData) (x : InputData) (t : ℕ) → t ≤ length inputs
    → leaves_at config (inputs ++ x ∷ []) t ≡ leaves_at config inputs t
unfolding leaves_at
leaves_old config inputs x t h =
    rw (take-append-le t inputs (x ∷ []) h, take-append-le (t - 1) inputs (x ∷ []) (omega arith)) refl

leaves_new : (config : Settings) (inputs : List InputData) (x : InputData) → let later = inputs ++ x ∷ [] in
    leaves_at config later (suc (length inputs))
    ≡ leaves (image_at_end config inputs) (image_at_end config later) (verdict_at_end config later)
unfolding leaves_at
leaves_new config inputs x =
    let later = inputs ++ x ∷ [] in
    let n = length inputs in
    let whole : take (suc n) later ≡ later = take_all (suc n) later (omega (arith, length_push inputs x)) in
    let at : suc n - 1 ≡ n = omega arith in
    let front : take n later ≡ inputs = take-append-le n inputs (x ∷ []) (omega arith) ∙ take_all n inputs (omega arith) in
    rw (whole, at, front) refl

-- what clears it comes before what sets it
pub moved-push : (config : Settings) (inputs : List InputData) (x : InputData) → let later = inputs ++ x ∷ [] in
    has_moved config later ≡ (leaves (image_at_end config inputs) (image_at_end config later) (verdict_at_end config later)
    || (has_moved config inputs && not (rises (words_of later) RESET (length later))))
unfolding has_moved
moved-push config inputs x =
    let later = inputs ++ x ∷ [] in
    let n = length inputs in
    let long : length later ≡ suc n = omega (arith, length_push inputs x) in
    let same : latched (leaves_at config later) (rises (words_of later) RESET) n ≡ latched (leaves_at config inputs)
    (rises (words_of inputs) RESET) n =
    latched-same _ _ _ _ n (λ t a b. leaves_old config inputs x t b) (λ t a b. rises_push inputs x RESET t b) in
    rw (long, latched-suc (leaves_at config later) (rises (words_of later) RESET) n, same, leaves_new config inputs x) refl

-- before the first input nothing has moved, and there is no value
pub none_moved : (config : Settings) → has_moved config [] ≡ false
unfolding has_moved
none_moved config = latched-zero (leaves_at config []) (rises (words_of []) RESET)

pub none_in_zone : (config : Settings) → is_in_zone (image_at_end config []) ≡ false
unfolding image_at_end
none_in_zone config = refl

pub none_levels : (config : Settings) → may_level config [] ≡ false
unfolding may_level verdict_at_end
none_levels config = refl
