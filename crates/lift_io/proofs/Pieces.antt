-- Pieces that are written one behind the other.
use Rattle.std.proofs.Common.{◌<◌, ◌+◌, ◌++◌, List, ℕ, length, get_or, drop, ap, subst, Bor}
use Rattle.std.specs.List.{flat_map}
use Rattle.std.specs.declared.option.Option.{Option}
use Rattle.std.specs.Io.KnownBytes.{Appends}
use Rattle.std.proofs.lemmas.List.{drop_more}
use Rattle.lift_io.specs.Puts.{AppendsUpTo, AppendsFront}
use Rattle.lift_io.proofs.Writing.{piece_at, front_at}

abbrev pub bytes_of : List (Bor (List ℕ)) → List ℕ
bytes_of ps = flat_map (λ (p : Bor (List ℕ)). p.now) ps

at_piece : {old mid : Option (List ℕ)} {text : List ℕ} (ps : List (Bor (List ℕ))) (i : ℕ) (d : Bor (List ℕ)) → i < length ps
    → AppendsUpTo old mid text (bytes_of (drop i ps)) → AppendsUpTo old mid text ((get_or ps i d).now ++ bytes_of (drop (i + 1) ps))
at_piece {old} {mid} {text} ps i d lt so_far = subst (AppendsUpTo old mid text) (ap bytes_of (drop_more ps i d lt)) so_far

pub pieces_more : {old mid : Option (List ℕ)} (new : Option (List ℕ)) {text : List ℕ} (ps : List (Bor (List ℕ))) (i : ℕ)
    (d : Bor (List ℕ)) → i < length ps
    → AppendsUpTo old mid text (bytes_of (drop i ps)) → Appends mid new (get_or ps i d).now → AppendsUpTo old new text
    (bytes_of (drop (i + 1) ps))
pieces_more new ps i d lt so_far wrote = piece_at new _ _ (at_piece ps i d lt so_far) wrote

pub pieces_front : {old mid : Option (List ℕ)} (new : Option (List ℕ)) {text : List ℕ} (ps : List (Bor (List ℕ))) (i : ℕ)
    (d : Bor (List ℕ)) → i < length ps
    → AppendsUpTo old mid text (bytes_of (drop i ps)) → AppendsFront mid new (get_or ps i d).now → AppendsFront old new text
pieces_front new ps i d lt so_far wrote = front_at new _ _ (at_piece ps i d lt so_far) wrote
