-- The head of a script is handed on as it was written.
use Rattle.std.proofs.Common.{◌≡◌, ◌<◌, ◌+◌, ◌++◌, Bool, List, [], ◌∷◌, ℕ, length, refl, sym, ap, ◌∙◌, arith, true, false, rules, nat_lt, append_assoc, append-nil, length-append, codes}
use Rattle.std.specs.Str.{bytes_eq}
use Rattle.std.specs.declared.result.Result.TheVariants.{Ok}
use Rattle.lift_base.specs.declared.limits.TheConstants.{HEAD_TOO_LONG}
use Rattle.lift_base.specs.declared.forms.Form.TheVariants.{Replay}
use Rattle.lift_config.specs.Head.{read_head}
use Rattle.lift_model.specs.Records.{Settings}
use Rattle.script_model.specs.Judging.{at_start}
use Rattle.script_model.specs.Meaning.{NoFeed, InHead, InLine, take_bytes, take_byte}

-- a text of whole lines of the head, none of which is the mark
pub record Heads (head text : List ℕ) : Type 0 where
  pub from : (places : List Bool) (n : ℕ) (rest : List ℕ) → (n' : ℕ) × (take_bytes (InHead Replay places head [] n) (text ++ rest)
      ≡ take_bytes (InHead Replay places (head ++ text) [] n') rest)

pub heads_nothing : (head : List ℕ) → Heads head []
heads_nothing head = record {
  from = λ places n rest. (
    n,
    ap (λ (x : List ℕ). take_bytes (InHead Replay places x [] n) rest) (sym
        (append-nil head)),
  );
}

pub heads_both : (head a b : List ℕ) → Heads head a → Heads (head ++ a) b → Heads head (a ++ b)
heads_both head a b first second = record {
  from = λ places n rest.
      let one = first.from places n (b ++ rest) in
      let two = second.from places one.0 rest in (
        two.0,
        ap (take_bytes (InHead Replay places head [] n)) (append_assoc a b rest) ∙ one.1 ∙ two.1
            ∙ ap (λ (x : List ℕ). take_bytes (InHead Replay places x [] two.0) rest) (append_assoc head a b),
      );
}

-- the bytes of a line of the head
pub head_line : (places : List Bool) (head line bytes rest : List ℕ) (n : ℕ) → NoFeed bytes
    → length head + length line + length bytes < HEAD_TOO_LONG
    → take_bytes (InHead Replay places head line n) (bytes ++ rest) ≡ take_bytes (InHead Replay places head (line ++ bytes) n) rest
head_line places head line [] rest n none few = ap (λ (x : List ℕ). take_bytes (InHead Replay places head x n) rest) (sym (append-nil line))
head_line places head line (b ∷ bytes) rest n none few =
    let grown : length (line ++ b ∷ []) ≡ length line + 1 = simp length-append in
    let room : nat_lt (length head + length (line ++ b ∷ [])) HEAD_TOO_LONG ≡ true =
    let h : length head + length (line ++ b ∷ []) < HEAD_TOO_LONG =
    omega arith in search rules in
    let one : take_byte (InHead Replay places head line n) b ≡ InHead Replay places head (line ++ b ∷ []) n = rw (none.0, room) refl in
    ap (λ r. take_bytes r (bytes ++ rest)) one
    ∙ head_line places head (line ++ b ∷ []) bytes rest n none.1 (omega arith)
    ∙ ap (λ (x : List ℕ). take_bytes (InHead Replay places head x n) rest) (append_assoc line (b ∷ []) bytes)

-- a whole line
pub heads_line : (head line : List ℕ) → NoFeed line → bytes_eq line (codes "%%") ≡ false → length head + length line + 1 < HEAD_TOO_LONG
    → Heads head (line ++ 10 ∷ [])
heads_line head line none other few = record {
  from = λ places n rest.
      let grown : length (head ++ (line ++ 10 ∷ [])) ≡ length head + (length line + 1) = simp length-append in
      let room : nat_lt (length (head ++ (line ++ 10 ∷ [])) + 0) HEAD_TOO_LONG ≡ true =
      let h : length (head ++ (line ++ 10 ∷ [])) + 0 < HEAD_TOO_LONG =
      omega arith in search rules in
      let one : take_byte (InHead Replay places head line n) 10 ≡ InHead Replay places (head ++ (line ++ 10 ∷ [])) [] (n + 1) = rw
      (other, room) refl in (
        n + 1,
        ap (take_bytes (InHead Replay places head [] n)) (append_assoc line (10 ∷ []) rest)
            ∙ head_line places head [] line (10 ∷ rest) n none (omega arith)
            ∙ ap (λ r. take_bytes r rest) one,
      );
}

-- the mark behind the head
pub head_ends : (places : List Bool) (head rest : List ℕ) (c : Settings) (n : ℕ) → length head + 2 < HEAD_TOO_LONG → read_head head ≡ Ok c
    → take_bytes (InHead Replay places head [] n) (codes "%%\n" ++ rest)
    ≡ take_bytes (InLine (at_start Replay places c) (n + 1) (length head + 3) []) rest
head_ends places head rest c n few is =
    let last : take_byte (InHead Replay places head (codes "%%") n) 10 ≡ InLine (at_start Replay places c) (n + 1) (length head + 3) [] =
    rw is (let e : length head + 2 + 1 ≡ length head + 3 =
    omega arith in ap (λ (u : ℕ). InLine (at_start Replay places c) (n + 1) u []) e) in
    head_line places head [] (codes "%%") (10 ∷ rest) n (refl, (refl, tt)) (omega arith) ∙ ap (λ r. take_bytes r rest) last
