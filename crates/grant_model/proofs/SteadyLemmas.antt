-- One input more for what a channel keeps.
use Rattle.std.proofs.Common.{◌≡◌, ℕ, ◌+◌, ◌-◌, ◌<◌, List, [], ◌∷◌, ◌++◌, length, take, ap, ◌∙◌, arith}
use Rattle.std.proofs.lemmas.List.{length_push, take-append-le, take_all}
use Rattle.lift_model.specs.Records.{Settings, InputData, FrameData}
use Rattle.lift_model.specs.Live.{Source, Timed, and_frames}
use Rattle.lift_model.specs.Trace.{frames_of}
use Rattle.lift_model.specs.Truth.{source_of}
use Rattle.lift_model.specs.Grant.{facts_of, verdict_of, verdict_at_end}
use Rattle.lift_model.proofs.PushLemmas.{frames_of-push}
use Rattle.grant_model.specs.Took.{Took}
use Rattle.grant_model.proofs.Ends.{verdict-some}

-- a consumer that took the frames of one input more
pub took_more : {C : Type 0} (stands : C → Source → List Timed → ℕ → Type 0) (it : C) (config : Settings) (plain : ℕ)
    (inputs : List InputData) (x : InputData) (frames : List FrameData) → frames ≡ x.frames
    → let source = source_of config plain in let n = length inputs + 1 in
    stands it source (and_frames source (frames_of source inputs) frames n) n → Took stands it config plain (inputs ++ x ∷ [])
took_more stands it config plain inputs x frames e h =
    rw (frames_of-push (source_of config plain) inputs x, length_push inputs x, ← e) h

pub verdict_push : (config : Settings) (inputs : List InputData) (x : InputData)
    → verdict_at_end config (inputs ++ x ∷ []) ≡ verdict_of (facts_of config (inputs ++ x ∷ []))
verdict_push config inputs x =
    let some : 0 < length (inputs ++ x ∷ []) = omega (arith, length_push inputs x) in
    verdict-some config (inputs ++ x ∷ []) some

-- the ticks before the last one are those that were taken before
pub before_push : (inputs : List InputData) (x : InputData) → take (length (inputs ++ x ∷ []) - 1) (inputs ++ x ∷ []) ≡ inputs
before_push inputs x =
    let n : length (inputs ++ x ∷ []) - 1 ≡ length inputs = omega (arith, length_push inputs x) in
    ap (λ k. take k (inputs ++ x ∷ [])) n
    ∙ (take-append-le (length inputs) inputs (x ∷ []) (omega arith) ∙ take_all (length inputs) inputs (omega arith))
