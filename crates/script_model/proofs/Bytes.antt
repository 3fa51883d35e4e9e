-- Reading a text is reading its parts, one after the other; and a line is judged at its line feed.
use Rattle.std.proofs.Common.{◌≡◌, ◌<◌, ◌≤◌, ◌+◌, ◌++◌, List, [], ◌∷◌, ℕ, length, refl, sym, ap, ◌∙◌, arith, true, rules, nat_lt, append_assoc, append-nil, length-append}
use Rattle.lift_base.specs.declared.limits.TheConstants.{LONGEST_LINE}
use Rattle.script_model.specs.Judging.{Place, judge_line}
use Rattle.script_model.specs.Meaning.{NoFeed, Reading, InLine, take_bytes, take_byte, line_ends}

-- however a text is cut
pub take_bytes-append : (r : Reading) (front rest : List ℕ) → take_bytes r (front ++ rest) ≡ take_bytes (take_bytes r front) rest
take_bytes-append r [] rest = refl
take_bytes-append r (b ∷ front) rest = take_bytes-append (take_byte r b) front rest

-- the bytes of a line are put after one another
pub take_line : (p : Place) (n used : ℕ) (line bytes rest : List ℕ) → NoFeed bytes → length line + length bytes ≤ LONGEST_LINE
    → take_bytes (InLine p n used line) (bytes ++ rest) ≡ take_bytes (InLine p n (used + length bytes) (line ++ bytes)) rest
take_line p n used line [] rest none few =
    let count : used ≡ used + 0 = omega arith in
    ap (λ (x : List ℕ). take_bytes (InLine p n used x) rest) (sym (append-nil line))
    ∙ ap (λ (u : ℕ). take_bytes (InLine p n u (line ++ [])) rest) count
take_line p n used line (b ∷ bytes) rest none few =
    let room : nat_lt (length line) LONGEST_LINE ≡ true = let h : length line < LONGEST_LINE = omega arith in search rules in
    let grown : length (line ++ b ∷ []) ≡ length line + 1 = simp length-append in
    let one : take_byte (InLine p n used line) b ≡ InLine p n (used + 1) (line ++ b ∷ []) = rw (none.0, room) refl in
    let count : used + 1 + length bytes ≡ used + length (b ∷ bytes) = omega arith in
    ap (λ r. take_bytes r (bytes ++ rest)) one
    ∙ take_line p n (used + 1) (line ++ b ∷ []) bytes rest none.1 (omega arith)
    ∙ ap (λ (x : List ℕ). take_bytes (InLine p n (used + 1 + length bytes) x) rest) (append_assoc line (b ∷ []) bytes)
    ∙ ap (λ (u : ℕ). take_bytes (InLine p n u (line ++ b ∷ bytes)) rest) count

-- a whole line
pub whole_line : (p : Place) (n used : ℕ) (line rest : List ℕ) → NoFeed line → length line ≤ LONGEST_LINE
    → take_bytes (InLine p n used []) (line ++ 10 ∷ rest) ≡ take_bytes (line_ends p (judge_line p n line) n (used + length line + 1)) rest
whole_line p n used line rest none few = take_line p n used [] line (10 ∷ rest) none (omega (arith, few))
