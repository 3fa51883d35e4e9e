-- Laws of what the latches watch.
use Rattle.std.proofs.Common.{◌≡◌, ℕ, zero, suc, ◌≤◌, List, [], ◌∷◌, ◌++◌, length, take, Bool, false, refl, sym, ap, ◌∙◌, arith, inl, inr}
use Rattle.std.specs.Prelude.{◌||◌, ◌&&◌, not}
use Rattle.std.proofs.lemmas.Bool.{cases_lt}
use Rattle.std.proofs.lemmas.List.{length_push, take-append-le, take_all, map_push, length-map, get_or_push, get_or_append_left}
use Rattle.lift_model.specs.Records.{Settings, InputData}
use Rattle.lift_model.specs.Ticks.{row, latched}
use Rattle.lift_model.specs.Wires.{rises}
use Rattle.lift_model.specs.Trace.{words_of, image_at_end}
use Rattle.lift_model.specs.Latches.{is_pit_inspecting, is_good_for_pit_reset, is_pit_latched, is_door_stuck, are_doors_faulty}
use Rattle.lift_model.specs.Watched.{WatchedTick, watched_at, is_latched_over, are_faulty_over, Watches}
use Rattle.lift_model.proofs.TickLemmas.{latched-suc, latched-same, latched-zero, row-same}
use Rattle.lift_model.proofs.WireLemmas.{rises-old}
use Rattle.lift_base.specs.declared.wires.TheConstants.{RESET, PIT_RESET}

-- the ticks so far stay, and the new one is the last
pub watched_at-old : (ticks : List WatchedTick) (x : WatchedTick) (u : ℕ) → u ≤ length ticks → watched_at (ticks ++ x ∷ []) u
    ≡ watched_at ticks u
watched_at-old ticks x zero h = refl
watched_at-old ticks x (suc k) h = get_or_append_left ticks (x ∷ []) _ k (omega arith)

pub watched_at-new : (ticks : List WatchedTick) (x : WatchedTick) → watched_at (ticks ++ x ∷ []) (suc (length ticks)) ≡ x
watched_at-new ticks x = get_or_push ticks x _ (length ticks) refl

long : (ticks : List WatchedTick) (x : WatchedTick) → length (ticks ++ x ∷ []) ≡ suc (length ticks)
long ticks x = omega (arith, length_push ticks x)

-- before the first tick nothing is latched
pub latched_over-none : is_latched_over [] ≡ false
unfolding is_latched_over
latched_over-none = latched-zero _ _

pub faulty_over-none : (door : ℕ) → are_faulty_over door [] ≡ false
unfolding are_faulty_over
faulty_over-none door = latched-zero _ _

-- the pit latch, one tick on
pub latched_over-push : (ticks : List WatchedTick) (x : WatchedTick)
    → is_latched_over (ticks ++ x ∷ []) ≡ (is_pit_inspecting x.image
    || (is_latched_over ticks && not (x.rise && is_good_for_pit_reset x.image)))
unfolding is_latched_over
latched_over-push ticks x =
    let later = ticks ++ x ∷ [] in
    let n = length ticks in
    let sets : ℕ → Bool = λ u. is_pit_inspecting (watched_at later u).image in
    let clears : ℕ → Bool = λ u. (watched_at later u).rise && is_good_for_pit_reset (watched_at later u).image in
    let same : latched sets clears n ≡ is_latched_over ticks =
    latched-same _ _ _ _ n
    (λ t a b. ap (λ (w : WatchedTick). is_pit_inspecting w.image) (watched_at-old ticks x t b))
    (λ t a b. ap (λ (w : WatchedTick). w.rise && is_good_for_pit_reset w.image) (watched_at-old ticks x t b)) in
    let step : latched sets clears (suc n)
    ≡ (sets (suc n) || (latched sets clears n && not (clears (suc n)))) = latched-suc sets clears n in
    rw (long ticks x, step, same, watched_at-new ticks x) refl

-- the doors, one tick on
pub faulty_over-push : (door : ℕ) (ticks : List WatchedTick) (x : WatchedTick)
    → are_faulty_over door (ticks ++ x ∷ []) ≡ (row door (λ t. is_door_stuck (watched_at (ticks ++ x ∷ []) t).image) (suc (length ticks))
    || (are_faulty_over door ticks && not x.rise))
unfolding are_faulty_over
faulty_over-push door ticks x =
    let later = ticks ++ x ∷ [] in
    let n = length ticks in
    let stuck : ℕ → Bool = λ t. is_door_stuck (watched_at later t).image in
    let clears : ℕ → Bool = λ u. (watched_at later u).rise in
    let same : latched (row door stuck) clears n ≡ are_faulty_over door ticks =
    latched-same _ _ _ _ n
    (λ t a b. row-same door _ _ t (λ u c d. ap (λ (w : WatchedTick). is_door_stuck w.image) (watched_at-old ticks x u (omega arith))))
    (λ t a b. ap (λ (w : WatchedTick). w.rise) (watched_at-old ticks x t b)) in
    let step : latched (row door stuck) clears (suc n) ≡ (row door stuck (suc n) || (latched (row door stuck) clears n
    && not (clears (suc n)))) = latched-suc (row door stuck) clears n in
    rw (long ticks x, step, same, watched_at-new ticks x) refl

-- over the ticks of a trace the two are the definitions
pub latched_over-is : (config : Settings) (inputs : List InputData) (ticks : List WatchedTick) → Watches config PIT_RESET inputs ticks
    → is_latched_over ticks ≡ is_pit_latched config inputs
unfolding is_latched_over is_pit_latched
latched_over-is config inputs ticks w =
    rw w.long (latched-same _ _ _ _ (length inputs)
    (λ u a b. ap is_pit_inspecting (w.image u a b))
    (λ u a b. rw (w.image u a b, w.rise u a b) refl))

pub faulty_over-is : (config : Settings) (inputs : List InputData) (ticks : List WatchedTick) → Watches config RESET inputs ticks
    → are_faulty_over config.door ticks ≡ are_doors_faulty config inputs
unfolding are_faulty_over are_doors_faulty
faulty_over-is config inputs ticks w =
    rw w.long (latched-same _ _ _ _ (length inputs)
    (λ u a b. row-same config.door _ _ u (λ t c d. ap is_door_stuck (w.image t c (omega arith))))
    (λ u a b. w.rise u a b))

pub Watches-none : (config : Settings) (wire : ℕ) → Watches config wire [] []
Watches-none config wire = record { long = refl; image = λ u a b. absurd (omega arith); rise = λ u a b. absurd (omega arith) }

-- one input more
pub Watches-push : (config : Settings) (wire : ℕ) (inputs : List InputData) (ticks : List WatchedTick) (x : InputData)
    → Watches config wire inputs ticks
    → let later = inputs ++ x ∷ [] in
    Watches config wire later (ticks ++ record { image = image_at_end config later; rise = rises (words_of later) wire (length later) }
    ∷ [])
Watches-push config wire inputs ticks x w =
    let later = inputs ++ x ∷ [] in
    let new : WatchedTick = record { image = image_at_end config later; rise = rises (words_of later) wire (length later) } in
    let more : length later ≡ suc (length ticks) = omega (arith, length_push inputs x, w.long) in
    let whole : take (suc (length ticks)) later ≡ later = take_all (suc (length ticks)) later (omega (arith, more)) in
    record {
      long = omega (arith, long ticks new, more);
      image = λ u a b. elim (cases_lt u (suc (length ticks))) [
        | inl old ↦ ap (λ (t : WatchedTick). t.image) (watched_at-old ticks new u (omega arith))
            ∙ (w.image u a (omega (arith, w.long)) ∙ ap (image_at_end config)
            (sym (take-append-le u inputs (x ∷ []) (omega (arith, w.long)))))
        | inr now ↦ (let here : u ≡ suc (length ticks) = omega (arith, more) in
            rw (here, whole, watched_at-new ticks new) refl)
      ];
      rise = λ u a b. elim (cases_lt u (suc (length ticks))) [
        | inl old ↦ ap (λ (t : WatchedTick). t.rise) (watched_at-old ticks new u (omega arith))
            ∙ (w.rise u a (omega (arith, w.long)) ∙ sym (rises_push inputs x wire u (omega (arith, w.long))))
        | inr now ↦ (let here : u ≡ suc (length ticks) = omega (arith, more) in
            rw (here, watched_at-new ticks new) (ap (rises (words_of later) wire) more))
      ];
    }
  where
    rises_push : (inputs : List InputData) (x : InputData) (wire t : ℕ) → t ≤ length inputs → rises (words_of (inputs ++ x ∷ [])) wire t
        ≡ rises (words_of inputs) wire t
    rises_push inputs x wire t h = rw (map_push (λ (i : InputData). i.words) inputs x) (rises-old (words_of inputs) x.words wire t
        (omega (arith, length-map inputs (λ (i : InputData). i.words))))
