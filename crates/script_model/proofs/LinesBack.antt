-- Each line is read as it was written.
use Rattle.std.proofs.Common.{◌≡◌, ◌<◌, ◌≤◌, ◌+◌, ◌-◌, ◌^◌, ◌++◌, ℕ, zero, suc, refl, arith, true, false, rules, nat_le, codes, decimal, Some}
use Rattle.can_frame.specs.Frames.{IsFrameData}
use Rattle.can_frame.proofs.Spelled.{frame_of-text, word_of-hex4}
use Rattle.lift_model.specs.Enums.{Side, A, B, Override, Keep, Follow, Force, Off, Full, Up, Down}
use Rattle.lift_model.specs.Records.{FrameData, WireWords}
use Rattle.round_model.specs.Turns.{is_keep}
use Rattle.can_frame.specs.Spelling.{frame_text}
use Rattle.script_model.specs.declared.Line.TheVariants.{Tick, End, Entry}
use Rattle.script_model.specs.declared.Entry.TheVariants.{Frame, Wires, Truth, OfSide}
use Rattle.script_model.specs.declared.sides.SideLine.{SideLine}
use Rattle.script_model.specs.declared.sides.SideLine.TheVariants.{Word, Value, Contactor, Give}
use Rattle.std.specs.Str.{bytes_eq}
use Rattle.script_model.specs.Numbers.{place_of}
use Rattle.script_model.proofs.Numbers.{number_of-decimal, not_zero}
use Rattle.script_model.specs.Lines.{line_of}
use Rattle.script_model.specs.SideLines.{order_of}
use Rattle.script_model.specs.Text.{wires_text, truth_text, order_name, side_line_text}
use Rattle.script_model.specs.Valid.{IsSideLine}
use Rattle.script_model.proofs.LongWords.{long_word_of-hex16}
use Rattle.std.proofs.lemmas.Bool.{true≢false}
use Rattle.std.proofs.lemmas.Fmt.{decimal_digit}

pub line_of-frame : (f : FrameData) → IsFrameData f → line_of (codes "f " ++ frame_text f) ≡ Some (Entry (Frame f))
line_of-frame f is = rw (frame_of-text f is) refl

pub line_of-wires : (w : WireWords) → w.a < 2 ^ 16 → w.b < 2 ^ 16 → line_of (wires_text w) ≡ Some (Entry (Wires w.a w.b))
line_of-wires w a b = rw (word_of-hex4 w.a a, word_of-hex4 w.b b) refl

pub line_of-truth : (j w : ℕ) → 1 ≤ j → j ≤ 6 → w < 2 ^ 16 → line_of (truth_text j w) ≡ Some (Entry (Truth j w))
line_of-truth j w least most small =
    let low : nat_le 49 (j + 48) ≡ true = let h : 49 ≤ j + 48 = omega arith in search rules in
    let high : nat_le (j + 48) 54 ≡ true = let h : j + 48 ≤ 54 = omega arith in search rules in
    let back : j + 48 - 48 ≡ j = omega arith in
    rw (low, high, word_of-hex4 w small, back) refl

pub line_of-tick : line_of (codes "t") ≡ Some (Tick 1)
line_of-tick = refl

pub line_of-end : line_of (codes "e") ≡ Some End
line_of-end = refl

pub order_of-name : (order : Override) → is_keep order ≡ false → order_of (order_name order) ≡ Some order
order_of-name Keep is = absurd (true≢false is)
order_of-name Follow is = refl
order_of-name (Force Off) is = refl
order_of-name (Force Full) is = refl
order_of-name (Force Up) is = refl
order_of-name (Force Down) is = refl

pub place_of-decimal : (i : ℕ) → i ≤ 254 → place_of (decimal i) ≡ Some i
place_of-decimal zero most = rw (decimal_digit 0 (omega arith)) refl
place_of-decimal (suc i) most =
    let other : bytes_eq (decimal (suc i)) (codes "0") ≡ false = not_zero (suc i) (omega arith) (omega arith) in
    let few : nat_le (suc i) 254 ≡ true = search rules in
    rw (other, number_of-decimal (suc i) (omega arith) (omega arith), few) refl

-- each line of a side
pub line_of-side : (side : Side) (l : SideLine) → IsSideLine l → line_of (side_line_text side l) ≡ Some (Entry (OfSide side l))
line_of-side A (Word w) is = rw (long_word_of-hex16 w is) refl
line_of-side A (Value w) is = rw (long_word_of-hex16 w is) refl
line_of-side A (Contactor order) is = rw (order_of-name order is) refl
line_of-side A (Give i) is = rw (place_of-decimal i is) refl
line_of-side A l is = refl
line_of-side B (Word w) is = rw (long_word_of-hex16 w is) refl
line_of-side B (Value w) is = rw (long_word_of-hex16 w is) refl
line_of-side B (Contactor order) is = rw (order_of-name order is) refl
line_of-side B (Give i) is = rw (place_of-decimal i is) refl
line_of-side B l is = refl
