-- What the pit latch and the monitoring of the doors watch, tick by tick.
use Rattle.std.specs.Prelude.{◌≡◌, ℕ, zero, suc, ◌<◌, ◌≤◌, Bool, false, ◌&&◌, List, [], take, length, get_or}
use Rattle.lift_model.specs.Records.{Settings, InputData, ImageData}
use Rattle.lift_model.specs.Ticks.{row, latched}
use Rattle.lift_model.specs.Wires.{rises, all_off}
use Rattle.lift_model.specs.Trace.{words_of, image_at_end}
use Rattle.lift_model.specs.Latches.{is_pit_inspecting, is_good_for_pit_reset, is_door_stuck}

-- the image of a tick, and whether the reset rises at it (own)
pub record WatchedTick : Type 0 where
  pub image : ImageData
  pub rise : Bool

-- the tick with this number, of a list that has tick 1 first
abbrev pub watched_at : List WatchedTick → ℕ → WatchedTick
watched_at ticks zero = record { image = record { values = []; words = all_off }; rise = false }
watched_at ticks (suc k) = get_or ticks k (record { image = record { values = []; words = all_off }; rise = false })

-- the pit is latched after these ticks (5.12.1.5; exact form own)
unfoldable pub is_latched_over : List WatchedTick → Bool
is_latched_over ticks =
    latched (λ u. is_pit_inspecting (watched_at ticks u).image)
    (λ u. (watched_at ticks u).rise && is_good_for_pit_reset (watched_at ticks u).image)
    (length ticks)

-- the doors are faulty after these ticks, where so many in a row are a fault (5.12.1.9; exact form own)
unfoldable pub are_faulty_over : ℕ → List WatchedTick → Bool
are_faulty_over door ticks =
    latched (row door (λ t. is_door_stuck (watched_at ticks t).image)) (λ u. (watched_at ticks u).rise) (length ticks)

-- the ticks are those of a trace: its images, and the rises of this wire
pub record Watches (config : Settings) (wire : ℕ) (inputs : List InputData) (ticks : List WatchedTick) : Type 0 where
  pub long : length ticks ≡ length inputs
  pub image : (u : ℕ) → 0 < u → u ≤ length inputs → (watched_at ticks u).image ≡ image_at_end config (take u inputs)
  pub rise : (u : ℕ) → 0 < u → u ≤ length inputs → (watched_at ticks u).rise ≡ rises (words_of inputs) wire u
