-- One input more.
use Rattle.std.proofs.Common.{◌≡◌, ℕ, suc, ◌+◌, ◌≤◌, List, [], ◌∷◌, ◌++◌, length, take, map, refl, sym, ap, ◌∙◌, arith, Bool, true, false, cond, append_assoc}
use Rattle.std.specs.Prelude.{◌||◌, ◌&&◌, not, filter}
use Rattle.std.proofs.lemmas.List.{length_push, take-append-le, take_all, map_push, append-nil, length-map}
use Rattle.std.proofs.lemmas.List.Elements.{filter-append}
use Rattle.lift_model.proofs.TickLemmas.{latched-suc, latched-same}
use Rattle.lift_model.proofs.WireLemmas.{rises-old, words_at-new}
use Rattle.lift_model.specs.Latches.{is_pit_inspecting, is_good_for_pit_reset, is_pit_latched}
use Rattle.lift_model.specs.Live.{Timed, Source, is_plain, is_inverted, and_frame, and_frames}
use Rattle.lift_model.specs.Records.{Settings, InputData, FrameData}
use Rattle.lift_model.specs.Ticks.{latched}
use Rattle.lift_model.specs.Trace.{frames_from, frames_of, words_of, image_at_end}
use Rattle.lift_model.specs.Wires.{rises}
use Rattle.lift_base.specs.declared.wires.TheConstants.{PIT_RESET}

abbrev of : Source → Timed → Bool
of source x = is_plain source x || is_inverted source x

abbrev at_tick : ℕ → FrameData → Timed
at_tick tick frame = record { frame = frame; tick = tick }

frames_from-push : (t : ℕ) (inputs : List InputData) (x : InputData)
    → frames_from t (inputs ++ x ∷ []) ≡ frames_from t inputs ++ map (at_tick (t + length inputs)) x.frames
frames_from-push t [] x = let e : t + 0 ≡ t = omega arith in rw e (append-nil _)
frames_from-push t (i ∷ inputs) x =
    let e : t + 1 + length inputs ≡ t + suc (length inputs) = omega arith in
    rw (frames_from-push (t + 1) inputs x, e) (sym (append_assoc (map (at_tick t) i.frames) (frames_from (t + 1) inputs) _))

and_frames-is : (source : Source) (frames : List Timed) (xs : List FrameData) (t : ℕ)
    → and_frames source frames xs t ≡ frames ++ filter (of source) (map (at_tick t) xs)
and_frames-is source frames [] t = sym (append-nil frames)
and_frames-is source frames (x ∷ xs) t = and_frames-is source (and_frame source frames (at_tick t x)) xs t
    ∙ moved (of source (at_tick t x)) (filter (of source) (map (at_tick t) xs))
  where
    moved : (b : Bool) (rest : List Timed) → cond b (frames ++ at_tick t x ∷ []) frames ++ rest ≡ frames ++ cond b (at_tick t x ∷ rest) rest
    moved true rest = append_assoc frames (at_tick t x ∷ []) rest
    moved false rest = refl

pub frames_of-push : (source : Source) (inputs : List InputData) (x : InputData)
    → frames_of source (inputs ++ x ∷ []) ≡ and_frames source (frames_of source inputs) x.frames (length inputs + 1)
frames_of-push source inputs x =
    let e : 1 + length inputs ≡ length inputs + 1 = omega arith in
    ap (filter (of source)) (frames_from-push 1 inputs x)
    ∙ (rw (filter-append, e) (sym (and_frames-is source (frames_of source inputs) x.frames (length inputs + 1))))

-- what rises in the ticks so far
pub rises_push : (inputs : List InputData) (x : InputData) (wire t : ℕ) → t ≤ length inputs
    → rises (words_of (inputs ++ x ∷ [])) wire t ≡ rises (words_of inputs) wire t
rises_push inputs x wire t h = rw (map_push (λ (i : InputData). i.words) inputs x) (rises-old (words_of inputs) x.words wire t
    (omega (arith, length-map inputs (λ (i : InputData). i.words))))

-- the pit latch, one input on
pub pit_latched-push : (config : Settings) (inputs : List InputData) (x : InputData) → let later = inputs ++ x ∷ [] in
    is_pit_latched config later ≡ (is_pit_inspecting (image_at_end config later)
    || (is_pit_latched config inputs && not (rises (words_of later) PIT_RESET (length later) && is_good_for_pit_reset
    (image_at_end config later))))
unfolding is_pit_latched
pit_latched-push config inputs x =
    let later = inputs ++ x ∷ [] in
    let n = length inputs in
    let sets : ℕ → Bool = λ u. is_pit_inspecting (image_at_end config (take u later)) in
    let clears : ℕ → Bool = λ u. rises (words_of later) PIT_RESET u && is_good_for_pit_reset (image_at_end config (take u later)) in
    let whole : take (suc n) later ≡ later = take_all (suc n) later (omega (arith, length_push inputs x)) in
    let long : length later ≡ suc n = omega (arith, length_push inputs x) in
    let front : (t : ℕ) → t ≤ n → take t later ≡ take t inputs = λ t h. take-append-le t inputs (x ∷ []) h in
    let same : latched sets clears n ≡ is_pit_latched config inputs =
    latched-same _ _ _ _ n
    (λ t a b. ap (λ xs. is_pit_inspecting (image_at_end config xs)) (front t b))
    (λ t a b. rw (front t b, rises_push inputs x PIT_RESET t b) refl) in
    let step : latched sets clears (suc n)
    ≡ (sets (suc n) || (latched sets clears n && not (clears (suc n)))) = latched-suc sets clears n in
    rw (long, step, same, whole) refl

-- the last tick's words
pub image_words-push : (config : Settings) (inputs : List InputData) (x : InputData)
    → (image_at_end config (inputs ++ x ∷ [])).words ≡ x.words
unfolding image_at_end
image_words-push config inputs x =
    let long : length (inputs ++ x ∷ []) ≡ suc (length (words_of inputs)) = omega (
      arith,
      length_push inputs x,
      length-map inputs (λ (i : InputData). i.words),
    ) in
    rw (long, map_push (λ (i : InputData). i.words) inputs x) (words_at-new (words_of inputs) x.words)
