-- A head that is fed byte by byte.
use Rattle.std.proofs.Common.{◌≡◌, ◌<◌, ◌+◌, [], ◌∷◌, List, ℕ, length, take, drop, get_or, sym, ap, ◌∙◌, subst, arith}
use Rattle.std.proofs.lemmas.List.{take_more, take-append-drop}
use Rattle.script_model.specs.Meaning.{Reading, bytes_of, take_byte, take_bytes}
use Rattle.script_model.proofs.Bytes.{take_bytes-append}
use Rattle.script_model.proofs.Counting.{one_byte}
use Rattle.fault_script.specs.declared.script_fault.ScriptFault.{ScriptFault}
use Rattle.fault_script.specs.Refusals.{Stops}
use Rattle.fault_script.specs.Views.{HeadData, in_head, behind_head}
use Rattle.fault_script.proofs.Stopping.{still_on}

-- so many bytes of a head were read
abbrev pub size_of : HeadData → ℕ
size_of h = length h.lines + length h.line

pub head_counts : (now new : HeadData) (old : ℕ) (i b : ℕ) → size_of now ≡ old + i → take_byte (in_head now) b ≡ in_head new
    → size_of new ≡ old + (i + 1)
head_counts now new old i b count e =
    let one = one_byte (in_head now) b tt in
    let size : size_of new ≡ size_of now + 1 = sym (ap bytes_of e) ∙ one in
    omega arith

-- one byte further in a piece
one_further : (old now : HeadData) (piece : List ℕ) (i d : ℕ) → i < length piece → take_bytes (in_head old) (take i piece) ≡ in_head now
    → take_bytes (in_head old) (take (i + 1) piece) ≡ take_byte (in_head now) (get_or piece i d)
one_further old now piece i d lt so_far =
    ap (take_bytes (in_head old)) (take_more piece i d lt)
    ∙ take_bytes-append (in_head old) (take i piece) (get_or piece i d ∷ [])
    ∙ ap (λ (r : Reading). take_byte r (get_or piece i d)) so_far

pub head_more : (old now new : HeadData) (piece : List ℕ) (i d : ℕ) → i < length piece
    → take_bytes (in_head old) (take i piece) ≡ in_head now
    → take_byte (in_head now) (get_or piece i d) ≡ in_head new → take_bytes (in_head old) (take (i + 1) piece) ≡ in_head new
head_more old now new piece i d lt so_far one = one_further old now piece i d lt so_far ∙ one

pub head_at_end : (old now new : HeadData) (piece : List ℕ) (i d : ℕ) → i < length piece
    → take_bytes (in_head old) (take i piece) ≡ in_head now
    → size_of now ≡ size_of old + i → new ≡ now → take_byte (in_head now) (get_or piece i d) ≡ behind_head now (size_of now + 1)
    → take_bytes (in_head old) (take (i + 1) piece) ≡ behind_head new (size_of old + (i + 1))
head_at_end old now new piece i d lt so_far count same one =
    let used : size_of now + 1 ≡ size_of old + (i + 1) = omega arith in
    one_further old now piece i d lt so_far
    ∙ one
    ∙ ap (behind_head now) used
    ∙ ap (λ (h : HeadData). behind_head h (size_of old + (i + 1))) (sym same)

pub head_refused : (old now : HeadData) (piece : List ℕ) (i d : ℕ) (f : ScriptFault) → i < length piece
    → take_bytes (in_head old) (take i piece) ≡ in_head now → Stops f (take_byte (in_head now) (get_or piece i d))
    → Stops f (take_bytes (in_head old) piece)
head_refused old now piece i d f lt so_far stops =
    let all : take_bytes (in_head old) piece ≡ take_bytes (take_byte (in_head now) (get_or piece i d)) (drop (i + 1) piece) =
    ap (take_bytes (in_head old)) (sym (take-append-drop (i + 1) piece))
    ∙ take_bytes-append (in_head old) (take (i + 1) piece) (drop (i + 1) piece)
    ∙ ap (λ (r : Reading). take_bytes r (drop (i + 1) piece)) (one_further old now piece i d lt so_far) in
    subst (Stops f) (sym all) (still_on f _ (drop (i + 1) piece) stops)
