-- What a read of a list of bytes takes off it.
use Rattle.std.proofs.Common.{ℕ, ◌≡◌, ◌<◌, ◌-◌, ◌+◌, min, List, [], ◌++◌, length, take, drop, sym, ap, ◌∙◌, arith, take-append-drop, drop_of_length-le, length-drop}
use Rattle.std.proofs.lemmas.List.{take_rest, drop-drop}

pub takes_off : (bytes was buf : List ℕ) (taken count : ℕ) (left : List ℕ)
    → left ≡ take (length bytes - taken) (drop taken bytes)
    → count ≡ min (length was) (length left) → take count buf ≡ take count left → length buf ≡ length was
    → (drop taken bytes ≡ take count buf ++ drop (taken + count) bytes) × (count ≡ 0 → 0 < length buf → drop (taken + count) bytes ≡ [])
takes_off bytes was buf taken count left is_left is_count copied same =
    let rest : left ≡ drop taken bytes = is_left ∙ take_rest bytes taken in
    let long : length left ≡ length bytes - taken = ap length rest ∙ length-drop taken bytes in (
      sym (take-append-drop count (drop taken bytes)) ∙ ap (λ x. x ++ drop count (drop taken bytes)) (sym (copied ∙ ap (take count) rest))
          ∙ ap (λ x. take count buf ++ x) (drop-drop count taken bytes),
      λ none room. drop_of_length-le bytes {i = taken + count} (omega arith),
    )
