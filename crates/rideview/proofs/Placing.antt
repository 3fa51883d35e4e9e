-- Lists that go together, one more of each at a time; and the places of values, of which more may come.
use Rattle.std.proofs.Common.{◌≡◌, ℕ, ◌<◌, ◌+◌, add-one, take, List, [], ◌∷◌, ◌++◌, ◌∙◌, length, get_or, map, refl, sym, ap, subst, slice_get, Some, arith}
use Rattle.std.proofs.lemmas.Option.{slice_get_within, slice_get-get_or, get_or_from_slice_get}
use Rattle.std.proofs.lemmas.List.{get_or_append_left, length-append, map-append}
use Rattle.std.proofs.Math.Seq.{take-suc}
use Rattle.ride_lanes.specs.declared.cells.Cell.{Cell}
use Rattle.ride_lanes.specs.declared.bars.Bar.{Bar}
use Rattle.rideview.specs.Data.{IsAt, Together, cell_of}
use Rattle.rideview.specs.declared.lane_data.Value.{Value}

pub together_push : {X Y : Type 0} (P : X → Y → Type 0) (xs : List X) (ys : List Y) (x : X) (y : Y) → Together P xs ys → P x y
    → Together P (xs ++ x ∷ []) (ys ++ y ∷ [])
together_push P [] ys x y h is = (y, [], ap (λ all. all ++ y ∷ []) h, is, refl)
together_push P (first ∷ xs) ys x y h is =
    (h.0, h.1 ++ y ∷ [], ap (λ all. all ++ y ∷ []) h.2, h.3, together_push P xs h.1 x y h.4 is)

got_more : (values more : List Value) (n : ℕ) (value : Value) → slice_get values n ≡ Some value → slice_get (values ++ more) n ≡ Some value
got_more values more n value got =
    let within : n < length values = slice_get_within values n value got in
    let there : get_or (values ++ more) n value ≡ value =
    get_or_append_left values more value n within ∙ get_or_from_slice_get values n value value got in
    slice_get-get_or (values ++ more) n value (omega (arith, within, length-append values more)) ∙ ap Some there

placed_more : (values more : List Value) (places : List ℕ) (cells : List Cell) → Together (IsAt values) places cells
    → Together (IsAt (values ++ more)) places cells
placed_more values more [] cells h = h
placed_more values more (n ∷ places) cells h =
    (h.0, h.1, h.2, (h.3.0, got_more values more n h.3.0 h.3.1, h.3.2), placed_more values more places h.1 h.4)

-- one place more, where values may have come
pub one_placed : (old new more : List Value) (places : List ℕ) (cells : List Cell) (n : ℕ) (x : Cell) → new ≡ old ++ more
    → Together (IsAt old) places cells → IsAt new n x → Together (IsAt new) (places ++ n ∷ []) (cells ++ x ∷ [])
one_placed old new more places cells n x is h at =
    let before : Together (IsAt new) places cells =
    subst (λ values. Together (IsAt values) places cells) (sym is) (placed_more old more places cells h) in
    together_push (IsAt new) places cells n x before at

-- one more that was taken from the front of a list
pub took : {X : Type 0} (xs : List X) (i : ℕ) (d : X) → i < length xs → take (i + 1) xs ≡ take i xs ++ get_or xs i d ∷ []
took xs i d h = rw add-one (take-suc xs i d h)

pub together_took : {X Y : Type 0} (P : X → Y → Type 0) (xs : List X) (ys all : List Y) (i : ℕ) (d : X) (y : Y) → i < length xs
    → Together P (take i xs) ys → P (get_or xs i d) y → all ≡ ys ++ y ∷ [] → Together P (take (i + 1) xs) all
together_took P xs ys all i d y h before is e =
    let more : Together P (take i xs ++ get_or xs i d ∷ []) (ys ++ y ∷ []) = together_push P (take i xs) ys (get_or xs i d) y before is in
    let taken : Together P (take (i + 1) xs) (ys ++ y ∷ []) =
    subst (λ (front : List _). Together P front (ys ++ y ∷ [])) (sym (took xs i d h)) more in
    subst (λ (it : List _). Together P (take (i + 1) xs) it) (sym e) taken

-- the next bar has its place, where values may have come
pub bar_placed : (old new more : List Value) (places all : List ℕ) (bars : List Bar) (i : ℕ) (d : Bar) (n : ℕ) → i < length bars
    → new ≡ old ++ more → all ≡ places ++ n ∷ [] → Together (IsAt old) places (map cell_of (take i bars))
    → IsAt new n (get_or bars i d).cell
    → Together (IsAt new) all (map cell_of (take (i + 1) bars))
bar_placed old new more places all bars i d n h is e before at =
    let cells : map cell_of (take (i + 1) bars) ≡ map cell_of (take i bars) ++ (get_or bars i d).cell ∷ [] =
    ap (map cell_of) (took bars i d h) ∙ map-append cell_of (take i bars) (get_or bars i d ∷ []) in
    let placed : Together (IsAt new) (places ++ n ∷ []) (map cell_of (take i bars) ++ (get_or bars i d).cell ∷ []) =
    one_placed old new more places (map cell_of (take i bars)) n (get_or bars i d).cell is before at in
    subst (λ (it : List ℕ). Together (IsAt new) it (map cell_of (take (i + 1) bars))) (sym e)
    (subst (λ (it : List Cell). Together (IsAt new) (places ++ n ∷ []) it) (sym cells) placed)
