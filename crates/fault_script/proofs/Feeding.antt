-- The lines of a piece, one after the other.
use Rattle.std.proofs.Common.{◌≡◌, ◌<◌, ◌≤◌, ◌+◌, ◌-◌, ◌++◌, ◌==◌, List, [], ◌∷◌, ℕ, length, take, drop, slice_index, sym, ap, ◌∙◌, subst, arith, true, Some}
use Rattle.std.proofs.lemmas.List.{length-take-le, length-drop}
use Rattle.lift_base.specs.declared.limits.TheConstants.{LONGEST_LINE}
use Rattle.script_model.specs.declared.refusals.LineRefusal.TheVariants.{LineTooLong}
use Rattle.script_model.specs.Meaning.{NoFeed, Reading, Ended, stopped_by, take_bytes}
use Rattle.script_model.specs.declared.refusals.Refusal.TheVariants.{Line}
use Rattle.script_model.proofs.Bytes.{take_bytes-append}
use Rattle.fault_script.specs.declared.went.Went.{Went}
use Rattle.fault_script.specs.declared.script_fault.ScriptFault.{ScriptFault}
use Rattle.fault_script.specs.Refusals.{Stops}
use Rattle.fault_script.specs.Views.{BodyData, in_line}
use Rattle.fault_script.specs.Went.{BodyWent}
use Rattle.fault_script.proofs.Stopping.{still_on, over_on}
use Rattle.fault_script.proofs.WholeLines.{long_line, split_at}

-- a piece from the old lines on leads where its rest leads from those that were read by now
abbrev pub LeadsOn : BodyData → BodyData → List ℕ → List ℕ → Type 0
LeadsOn old now piece rest =
    (used : ℕ) → take_bytes (in_line old used) piece ≡ take_bytes (in_line now (used + (length piece - length rest))) rest

pub went_along : (w : Went) (new : BodyData) (used : ℕ) (r r' : Reading) → r ≡ r' → BodyWent w new used r' → BodyWent w new used r
went_along w new used r r' e went = subst (BodyWent w new used) (sym e) went

-- the 201st byte of a line
pub too_long : (b : BodyData) (number : ℕ) (bytes rest : List ℕ) → b.number ≡ number → NoFeed bytes → length b.line ≤ LONGEST_LINE
    → LONGEST_LINE < length b.line + length bytes → (used : ℕ)
    → stopped_by (take_bytes (in_line b used) (bytes ++ rest)) ≡ Some (Line number LineTooLong)
too_long b number bytes rest e none few long used =
    ap stopped_by (long_line b.place b.number used b.line bytes rest none few long) ∙ ap (λ (n : ℕ). Some (Line n LineTooLong)) e

-- a line and its feed, and then what comes after them
line_first : (now : BodyData) (used n : ℕ) (rest front : List ℕ) → n < length rest → (slice_index rest n == 10) ≡ true → front ≡ take n rest
    → take_bytes (in_line now used) rest ≡ take_bytes (take_bytes (in_line now used) (front ++ 10 ∷ [])) (drop (n + 1) rest)
line_first now used n rest front lt feed is =
    ap (take_bytes (in_line now used)) (split_at rest n lt feed)
    ∙ take_bytes-append (in_line now used) (take n rest ++ 10 ∷ []) (drop (n + 1) rest)
    ∙ ap (λ (x : List ℕ). take_bytes (take_bytes (in_line now used) (x ++ 10 ∷ [])) (drop (n + 1) rest)) (sym is)

pub line_more : (old now new : BodyData) (piece rest front tail : List ℕ) (n : ℕ) → LeadsOn old now piece rest → length rest ≤ length piece
    → n < length rest → (slice_index rest n == 10) ≡ true → front ≡ take n rest → tail ≡ drop (n + 1) rest
    → ((used : ℕ) → take_bytes (in_line now used) (front ++ 10 ∷ []) ≡ in_line new (used + (length front + 1))) → LeadsOn old new piece tail
line_more old now new piece rest front tail n leads within lt feed front_is tail_is went used =
    let so_far = used + (length piece - length rest) in
    let size : length front ≡ n = ap length front_is ∙ length-take-le n rest (omega arith) in
    let left : length tail ≡ length rest - (n + 1) = ap length tail_is ∙ length-drop (n + 1) rest in
    let count : so_far + (length front + 1) ≡ used + (length piece - length tail) = omega arith in
    leads used
    ∙ line_first now so_far n rest front lt feed front_is
    ∙ ap (λ (r : Reading). take_bytes r (drop (n + 1) rest)) (went so_far)
    ∙ ap (λ (u : ℕ). take_bytes (in_line new u) (drop (n + 1) rest)) count
    ∙ ap (take_bytes (in_line new (used + (length piece - length tail)))) (sym tail_is)

pub line_ended : (old now new : BodyData) (piece rest front : List ℕ) (n : ℕ) → LeadsOn old now piece rest → length rest ≤ length piece
    → n < length rest → (slice_index rest n == 10) ≡ true → front ≡ take n rest
    → ((used : ℕ) → take_bytes (in_line now used) (front ++ 10 ∷ []) ≡ Ended new.place.script (used + (length front + 1)))
    → (used : ℕ) → take_bytes (in_line old used) piece ≡ Ended new.place.script (used + (length piece - length rest + n + 1))
line_ended old now new piece rest front n leads within lt feed front_is went used =
    let so_far = used + (length piece - length rest) in
    let size : length front ≡ n = ap length front_is ∙ length-take-le n rest (omega arith) in
    let count : so_far + (length front + 1) ≡ used + (length piece - length rest + n + 1) = omega arith in
    leads used
    ∙ line_first now so_far n rest front lt feed front_is
    ∙ over_on _ _ (drop (n + 1) rest) new.place.script (went so_far)
    ∙ ap (Ended new.place.script) count

pub line_refused : (old now : BodyData) (piece rest front : List ℕ) (n : ℕ) (f : ScriptFault) → LeadsOn old now piece rest → n < length rest
    → (slice_index rest n == 10) ≡ true → front ≡ take n rest → ((used : ℕ) → Stops f (take_bytes (in_line now used) (front ++ 10 ∷ [])))
    → (used : ℕ) → Stops f (take_bytes (in_line old used) piece)
line_refused old now piece rest front n f leads lt feed front_is stops used =
    let so_far = used + (length piece - length rest) in
    let first = leads used ∙ line_first now so_far n rest front lt feed front_is in
    subst (Stops f) (sym first) (still_on f _ (drop (n + 1) rest) (stops so_far))
