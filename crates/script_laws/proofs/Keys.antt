-- The numbers of a head are small.
use Rattle.std.proofs.Common.{◌≡◌, ◌≤◌, List, [], ◌∷◌, ℕ, true, arith, Option, Some, None, IfSome}
use Rattle.std.specs.List.{AllByRecursion}
use Rattle.std.proofs.lemmas.Grind.{common_steps}
use Rattle.lift_base.specs.declared.limits.TheConstants.{MOST_TICKS}
use Rattle.lift_config.specs.declared.Key.{Key}
use Rattle.lift_config.specs.Head.{fresh}
use Rattle.lift_config.specs.Ranges.{IsInRange}
use Rattle.lift_model.specs.Records.{Settings}
use Rattle.script_model.specs.Text.{first_keys, car_key, last_keys, platform_key}

abbrev pub AreSmall : List (Key × ℕ) → Type 0
AreSmall keys = AllByRecursion (λ (key : Key × ℕ). key.1 ≤ MOST_TICKS) keys

fresh_is_small : (earlier : List (Option ℕ)) (n : ℕ) → fresh earlier n ≡ true → n ≤ MOST_TICKS
fresh_is_small earlier n is = grind (arith, common_steps)

pub small_first : (c : Settings) → IsInRange c → AreSmall (first_keys c)
small_first c fits = (
  omega arith,
  (
    fits.ticks,
    (
      omega (arith, fits.sct),
      (
        omega (arith, fits.srvt, fits.sct),
        (
          omega (arith, fits.disc),
          (omega (arith, fits.door), (fresh_is_small [] c.roof fits.roof, (fresh_is_small (Some c.roof ∷ []) c.pit fits.pit, tt))),
        ),
      ),
    ),
  ),
)

small_id : (earlier : List (Option ℕ)) (car : Option ℕ) → IfSome car (λ id. fresh earlier id ≡ true) → AreSmall (car_key car)
small_id earlier None fits = tt
small_id earlier (Some id) fits = (fresh_is_small earlier id fits, tt)

pub small_car : (c : Settings) → IsInRange c → AreSmall (car_key c.car)
small_car c fits = small_id (Some c.roof ∷ Some c.pit ∷ []) c.car fits.car

pub small_last : (c : Settings) → IsInRange c → AreSmall (last_keys c)
small_last c fits = (
  fresh_is_small (Some c.roof ∷ Some c.pit ∷ c.car ∷ []) c.doors fits.doors,
  (fresh_is_small (Some c.roof ∷ Some c.pit ∷ c.car ∷ Some c.doors ∷ []) c.panel fits.panel, tt),
)

small_platform_id : (earlier : List (Option ℕ)) (platform : Option ℕ) → IfSome platform (λ id. fresh earlier id ≡ true)
    → AreSmall (platform_key platform)
small_platform_id earlier None fits = tt
small_platform_id earlier (Some id) fits = (fresh_is_small earlier id fits, tt)

pub small_platform : (c : Settings) → IsInRange c → AreSmall (platform_key c.platform)
small_platform c fits =
    small_platform_id (Some c.roof ∷ Some c.pit ∷ c.car ∷ Some c.doors ∷ Some c.panel ∷ []) c.platform fits.platform
