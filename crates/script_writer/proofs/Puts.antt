-- Texts that are written part by part.
use Rattle.std.proofs.Common.{◌≡◌, ◌<◌, ◌+◌, ◌-◌, ◌++◌, ◌==◌, List, [], ◌∷◌, ℕ, length, drop, get_or, refl, sym, ap, ◌∙◌, subst, append_assoc, codes, arith, slice_get, Option, Some, if◌then◌else◌}
use Rattle.std.specs.List.{flat_map}
use Rattle.std.specs.Io.KnownBytes.{Appends}
use Rattle.std.proofs.lemmas.List.{drop_more}
use Rattle.std.proofs.lemmas.Option.{get_or_from_slice_get}
use Rattle.lift_io.specs.Puts.{AppendsUpTo, AppendsFront}
use Rattle.lift_io.proofs.Writing.{piece_at, front_at}
use Rattle.lift_model.specs.Records.{FrameData, WireWords, InputData}
use Rattle.can_frame.specs.Spelling.{frame_text}
use Rattle.script_model.specs.Text.{frames_text, truth_text, truth_part, tick_text, ticks_text}

-- the rest begins with the piece that was written
pub piece_is : {old mid : Option (List ℕ)} (new : Option (List ℕ)) {text rest : List ℕ} (piece more : List ℕ) → rest ≡ piece ++ more
    → AppendsUpTo old mid text rest → Appends mid new piece → AppendsUpTo old new text more
piece_is {old} {mid} new {text} {rest} piece more is so_far wrote =
    piece_at new piece more (subst (AppendsUpTo old mid text) is so_far) wrote

pub front_is : {old mid : Option (List ℕ)} (new : Option (List ℕ)) {text rest : List ℕ} (piece more : List ℕ) → rest ≡ piece ++ more
    → AppendsUpTo old mid text rest → AppendsFront mid new piece → AppendsFront old new text
front_is {old} {mid} new {text} {rest} piece more is so_far wrote =
    front_at new piece more (subst (AppendsUpTo old mid text) is so_far) wrote

-- one more text of a list
pub texts_more : {X : Type 0} (text : X → List ℕ) (xs : List X) (i : ℕ) (d x : X) → i < length xs → x ≡ get_or xs i d
    → flat_map text (drop i xs) ≡ text x ++ flat_map text (drop (i + 1) xs)
texts_more text xs i d x lt is =
    ap (flat_map text) (drop_more xs i d lt) ∙ ap (λ y. text y ++ flat_map text (drop (i + 1) xs)) (sym is)

abbrev pub frame_line : FrameData → List ℕ
frame_line f = (codes "f " ++ frame_text f) ++ codes "\n"

frames_here : (fs : List FrameData) (i : ℕ) (d : FrameData) → i < length fs
    → frames_text (drop i fs) ≡ frame_line (get_or fs i d) ++ frames_text (drop (i + 1) fs)
frames_here fs i d lt =
    let line = codes "f " ++ frame_text (get_or fs i d) in
    ap frames_text (drop_more fs i d lt) ∙ sym (append_assoc line (codes "\n") (frames_text (drop (i + 1) fs)))

pub frames_more : (fs : List FrameData) (i : ℕ) (d f : FrameData) → i < length fs → f ≡ get_or fs i d
    → frames_text (drop i fs) ≡ frame_line f ++ frames_text (drop (i + 1) fs)
frames_more fs i d f lt is = frames_here fs i d lt ∙ ap (λ (x : FrameData). frame_line x ++ frames_text (drop (i + 1) fs)) (sym is)

pub truths_more : (before words : List ℕ) (i : ℕ) → i < length words → length before ≡ length words
    → truth_part (i + 1) (drop i before) (drop i words)
    ≡ (if get_or before i 0 == get_or words i 0 then [] else truth_text (i + 1) (get_or words i 0) ++ codes "\n")
    ++ truth_part (i + 1 + 1) (drop (i + 1) before) (drop (i + 1) words)
truths_more before words i lt same = rw (drop_more before i 0 (omega arith), drop_more words i 0 lt) refl

pub ticks_more : (words : WireWords) (truth : List ℕ) (is : List InputData) (i : ℕ) (x : InputData) → i < length is
    → Some x ≡ slice_get is (i + 1 - 1)
    → ticks_text words truth (drop i is) ≡ tick_text words truth x ++ ticks_text x.words x.truth (drop (i + 1) is)
ticks_more words truth is i x lt got =
    let same : i + 1 - 1 ≡ i = omega arith in
    let found : get_or is i x ≡ x = get_or_from_slice_get is i x x (rw same at (sym got)) in
    ap (ticks_text words truth) (drop_more is i x lt ∙ ap (λ (y : InputData). y ∷ drop (i + 1) is) found)

-- and the words that are kept are those of the tick
pub ticks_step : (words words' : WireWords) (truth truth' : List ℕ) (is : List InputData) (i : ℕ) (x : InputData)
    → i < length is → Some x ≡ slice_get is (i + 1 - 1) → words' ≡ x.words → truth' ≡ x.truth
    → ticks_text words truth (drop i is) ≡ tick_text words truth x ++ ticks_text words' truth' (drop (i + 1) is)
ticks_step words words' truth truth' is i x lt got w t = rw (w, t) (ticks_more words truth is i x lt got)
