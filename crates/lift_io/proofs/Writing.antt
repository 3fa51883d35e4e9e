-- Texts that are written piece by piece.
use Rattle.std.proofs.Common.{ℕ, ◌≡◌, ◌-◌, List, [], ◌++◌, length, take, drop, refl, sym, ap, ◌∙◌, append_assoc, take-append-drop, append-nil, subst}
use Rattle.std.proofs.lemmas.List.{take_rest}
use Rattle.std.specs.declared.option.Option.{Option}
use Rattle.std.specs.declared.result.Result.{Result}
use Rattle.std.specs.declared.result.Result.TheVariants.{Ok, Err}
use Rattle.std.specs.Io.KnownBytes.{Appends, Keeps}
use Rattle.std.proofs.KnownBytes.{Appends-nil, Appends-trans, Appends-kept}
use Rattle.lift_io.specs.Puts.{AppendsUpTo, AppendsFront, PutsText}

-- nothing was written yet
pub nothing_yet : (old : Option (List ℕ)) (text : List ℕ) → AppendsUpTo old old text text
nothing_yet old text = record { front = []; whole = refl; appended = Appends-nil old }

-- a piece of the rest was written
pub piece_more : {old mid : Option (List ℕ)} (new : Option (List ℕ)) {text rest : List ℕ} (count : ℕ)
    → AppendsUpTo old mid text rest → Appends mid new (take count rest) → AppendsUpTo old new text
    (take (length rest - count) (drop count rest))
piece_more {old} {mid} new {text} {rest} count so_far piece = rw (take_rest rest count) record {
  front = so_far.front ++ take count rest;
  whole = so_far.whole ∙ ap (λ r. so_far.front ++ r) (sym (take-append-drop count rest))
      ∙ sym (append_assoc so_far.front (take count rest) (drop count rest));
  appended = Appends-trans old mid new so_far.front (take count rest) so_far.appended piece;
}

-- nothing more was written
pub piece_none : {old mid : Option (List ℕ)} (new : Option (List ℕ)) {text rest : List ℕ}
    → AppendsUpTo old mid text rest → Keeps mid new → AppendsUpTo old new text rest
piece_none {old} {mid} new so_far kept = record {
  front = so_far.front;
  whole = so_far.whole;
  appended = Appends-kept old mid new so_far.front so_far.appended kept;
}

-- all was written
pub all_written : {old new : Option (List ℕ)} {text rest : List ℕ} → AppendsUpTo old new text rest → rest ≡ [] → Appends old new text
all_written {old} {new} {text} {rest} so_far none =
    let e : so_far.front ≡ text = sym (so_far.whole ∙ ap (λ r. so_far.front ++ r) none ∙ append-nil so_far.front) in
    subst (Appends old new) e so_far.appended

-- the first piece of the rest was written
pub piece_at : {old mid : Option (List ℕ)} (new : Option (List ℕ)) {text : List ℕ} (piece rest : List ℕ)
    → AppendsUpTo old mid text (piece ++ rest) → Appends mid new piece → AppendsUpTo old new text rest
piece_at {old} {mid} new {text} piece rest so_far wrote = record {
  front = so_far.front ++ piece;
  whole = so_far.whole ∙ sym (append_assoc so_far.front piece rest);
  appended = Appends-trans old mid new so_far.front piece so_far.appended wrote;
}

-- a front of the first piece of the rest was written
pub front_at : {old mid : Option (List ℕ)} (new : Option (List ℕ)) {text : List ℕ} (piece rest : List ℕ)
    → AppendsUpTo old mid text (piece ++ rest) → AppendsFront mid new piece → AppendsFront old new text
front_at {old} {mid} new {text} piece rest so_far (left, wrote) = (
  left ++ rest,
  record {
    front = so_far.front ++ wrote.front;
    whole = so_far.whole ∙ ap (λ p. so_far.front ++ (p ++ rest)) wrote.whole ∙ ap (λ r. so_far.front ++ r)
        (append_assoc wrote.front left rest) ∙ sym (append_assoc so_far.front wrote.front (left ++ rest));
    appended = Appends-trans old mid new so_far.front wrote.front so_far.appended wrote.appended;
  },
)

-- the rest was written, or a front of it
pub last_piece : {T E : Type 0} {old mid : Option (List ℕ)} (new : Option (List ℕ)) {text piece : List ℕ} (r : Result T E)
    → AppendsUpTo old mid text piece → PutsText mid new r piece → PutsText old new r text
last_piece {T} {E} {old} {mid} new {text} {piece} (Ok x) so_far wrote =
    subst (Appends old new) (sym so_far.whole) (Appends-trans old mid new so_far.front piece so_far.appended wrote)
last_piece {T} {E} {old} {mid} new {text} {piece} (Err e) so_far wrote =
    front_at new piece [] (subst (AppendsUpTo old mid text) (sym (append-nil piece)) so_far) wrote
