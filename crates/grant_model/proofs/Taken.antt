-- One tick more of a trace.
use Rattle.std.proofs.Common.{◌≡◌, ℕ, suc, ◌+◌, ◌-◌, ◌≤◌, List, [], ◌∷◌, ◌++◌, length, take, Some, sym, ap, ◌∙◌, refl, arith, slice_get, min}
use Rattle.std.proofs.lemmas.Option.{slice_get_within, get_or_from_slice_get}
use Rattle.std.proofs.lemmas.List.{take_more, length-take-le, length_push, length-map, map_push}
use Rattle.lift_model.specs.Records.{Settings, InputData, FrameData, ImageData}
use Rattle.lift_model.specs.Wires.{words_at}
use Rattle.lift_model.specs.Live.{Source, and_frames}
use Rattle.lift_model.specs.Trace.{frames_of, words_of, image_at_end}
use Rattle.lift_model.proofs.WireLemmas.{words_at-new}
use Rattle.lift_model.proofs.PushLemmas.{frames_of-push, image_words-push}
use Rattle.lift_trace.specs.Runs.{IsRunEnd}
use Rattle.grant_model.specs.Runs.{AllAre}

pub take_got : {X : Type 0} (xs : List X) (n : ℕ) (x : X) → slice_get xs n ≡ Some x → take (n + 1) xs ≡ take n xs ++ x ∷ []
take_got xs n x got = take_more xs n x (slice_get_within xs n x got) ∙ rw (get_or_from_slice_get xs n x x got) refl

-- the frames of the next tick come behind those so far
pub frames_more : (source : Source) (inputs : List InputData) (n : ℕ) (x : InputData) (frames : List FrameData)
    → Some x ≡ slice_get inputs (n + 1 - 1) → frames ≡ x.frames
    → and_frames source (frames_of source (take n inputs)) frames (n + 1) ≡ frames_of source (take (n + 1) inputs)
frames_more source inputs n x frames got same =
    let at : n + 1 - 1 ≡ n = omega arith in
    let here : slice_get inputs n ≡ Some x = ap (slice_get inputs) (sym at) ∙ sym got in
    let long : length (take n inputs) ≡ n = length-take-le n inputs (omega (arith, slice_get_within inputs n x here)) in
    rw (take_got inputs n x here, frames_of-push source (take n inputs) x, long, same) refl

-- the words of the last tick
pub words_taken : (inputs : List InputData) (s : ℕ) (x : InputData) → 1 ≤ s → Some x ≡ slice_get inputs (s - 1)
    → words_at (words_of (take s inputs)) (length (take s inputs)) ≡ x.words
words_taken inputs s x some got =
    let at : s - 1 + 1 ≡ s = omega arith in
    let whole : take s inputs ≡ take (s - 1) inputs ++ x ∷ [] = ap (λ n. take n inputs) (sym at) ∙ take_got inputs (s - 1) x (sym got) in
    let early = take (s - 1) inputs in
    let long : length (early ++ x ∷ []) ≡ suc (length (words_of early)) = omega (
      arith,
      length_push early x,
      length-map early (λ (i : InputData). i.words),
    ) in
    rw (whole, long, map_push (λ (i : InputData). i.words) early x) (words_at-new (words_of early) x.words)

-- the ticks of a run have the input of its first, up to any of them
pub of_run : (inputs : List InputData) (from m n : ℕ) (x : InputData) → IsRunEnd inputs (from + 1) m → Some x ≡ slice_get inputs
    (from + 1 - 1)
    → AllAre inputs x from (min m n)
of_run inputs from m n x run got k a b =
    let here : k + 1 - 1 ≡ k = omega arith in
    rw here at (run.equal (k + 1) (omega (arith, a)) (omega (arith, b))) ∙ sym got

-- the image of one input more, from its values and its words
pub image_of : (config : Settings) (inputs : List InputData) (x : InputData) (it : ImageData)
    → it.values ≡ (image_at_end config (inputs ++ x ∷ [])).values
    → it.words ≡ x.words → it ≡ image_at_end config (inputs ++ x ∷ [])
image_of config inputs x it values words =
    same it (image_at_end config (inputs ++ x ∷ [])) values (words ∙ sym (image_words-push config inputs x)) where
      same : (a b : ImageData) → a.values ≡ b.values → a.words ≡ b.words → a ≡ b
      same a b v w = λ i. record { values = v i; words = w i }
