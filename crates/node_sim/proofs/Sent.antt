-- The frames of one source in a produced trace are those that its producer sends.
use Rattle.std.proofs.Common.{◌≡◌, ◌≢◌, ℕ, zero, suc, ◌+◌, ◌-◌, Bool, true, false, refl, ap, ◌∙◌, arith, cond, List, [], ◌∷◌, ◌++◌, length, take, map, get_or, Option, Some, None}
use Rattle.std.specs.Prelude.{◌||◌, filter}
use Rattle.std.proofs.lemmas.Bool.{ne_eqb, eq-eqb}
use Rattle.std.proofs.lemmas.List.{append-nil, map-append}
use Rattle.std.proofs.lemmas.List.Elements.{filter-append}
use Rattle.lift_model.specs.Live.{Timed, Source, is_plain, is_inverted}
use Rattle.lift_model.specs.Records.{InputData, FrameData}
use Rattle.lift_model.specs.Trace.{frames_from}
use Rattle.lift_model.specs.Truth.{true_word}
use Rattle.node_sim.proofs.Apart.{Apart}
use Rattle.script_model.specs.Faults.{no_faults}
use Rattle.node_sim.specs.Produced.{is_due, plain_frame, inverted_frame, frame_due, given, frames_due, produced_from}

abbrev pub of : Source → Timed → Bool
of source x = is_plain source x || is_inverted source x

abbrev pub at_tick : ℕ → FrameData → Timed
at_tick tick frame = record { frame = frame; tick = tick }

-- what the source with index i sends at tick n
abbrev pub own_at : ℕ → ℕ → ℕ → List InputData → ℕ → List Timed
own_at cycle i plain trace n = map (at_tick n) (given (frame_due cycle (i + 1) plain n (true_word trace i n) (true_word trace i (n - 1))))

-- the same of so many ticks, of which the first is tick t
unfoldable pub own_from : ℕ → ℕ → ℕ → List InputData → ℕ → ℕ → List Timed
own_from cycle i plain trace t zero = []
own_from cycle i plain trace t (suc n) = own_at cycle i plain trace t ++ own_from cycle i plain trace (t + 1) n

-- ---- one frame

of_plain : (source : Source) (t word : ℕ) → of source (at_tick t (plain_frame source.plain word)) ≡ true
of_plain source t word = rw (eq-eqb source.plain source.plain refl) refl

of_inverted : (source : Source) (t word : ℕ) → of source (at_tick t (inverted_frame source.plain word)) ≡ true
of_inverted source t word = rw
    (eq-eqb (source.plain + 1) (source.plain + 1) refl, ne_eqb (source.plain + 1) source.plain (λ e. omega arith)) refl

not_of : (source : Source) (t id : ℕ) (bytes : List ℕ) → id ≢ source.plain → id ≢ source.plain + 1
    → of source (at_tick t (record { id = id; bytes = bytes })) ≡ false
not_of source t id bytes a b = rw (ne_eqb id source.plain a, ne_eqb id (source.plain + 1) b) refl

-- ---- the frames of a tick

abbrev sends : ℕ → List InputData → ℕ → ℕ → ℕ → List FrameData
sends cycle trace n i q = given (frame_due cycle (i + 1) q n (true_word trace i n) (true_word trace i (n - 1)))

kept_own : (source : Source) (cycle j n now before t : ℕ)
    → filter (of source) (map (at_tick t) (given (frame_due cycle j source.plain n now before)))
    ≡ map (at_tick t) (given (frame_due cycle j source.plain n now before))
kept_own source cycle j n now before t = go (is_due cycle j n) (is_due cycle j (n - 1)) where
  go : (a b : Bool) → let f = cond a (Some (plain_frame source.plain now)) (cond b (Some (inverted_frame source.plain before)) None) in
      filter (of source) (map (at_tick t) (given f)) ≡ map (at_tick t) (given f)
  go true b = rw (of_plain source t now) refl
  go false true = rw (of_inverted source t before) refl
  go false false = refl

none_of_other : (source : Source) (cycle j n q now before t : ℕ) → Apart source.plain q
    → filter (of source) (map (at_tick t) (given (frame_due cycle j q n now before))) ≡ []
none_of_other source cycle j n q now before t w = go (is_due cycle j n) (is_due cycle j (n - 1)) where
  go : (a b : Bool) → let f = cond a (Some (plain_frame q now)) (cond b (Some (inverted_frame q before)) None) in
      filter (of source) (map (at_tick t) (given f)) ≡ []
  go true b = rw (not_of source t q _ w.same w.up) refl
  go false true = rw (not_of source t (q + 1) _ w.down (λ e. w.same (omega arith))) refl
  go false false = refl

split_filter : (source : Source) (t : ℕ) (xs ys : List FrameData)
    → filter (of source) (map (at_tick t) (xs ++ ys)) ≡ filter (of source) (map (at_tick t) xs) ++ filter (of source) (map (at_tick t) ys)
split_filter source t xs ys = ap (filter (of source)) (map-append (at_tick t) xs ys)
    ∙ filter-append (of source) (map (at_tick t) xs) (map (at_tick t) ys)

none_due : (source : Source) (cycle : ℕ) (trace : List InputData) (n i : ℕ) (ids : List (Option ℕ))
    → ((m q : ℕ) → get_or ids m None ≡ Some q → Apart source.plain q)
    → filter (of source) (map (at_tick n) (frames_due cycle trace n i ids)) ≡ []
unfolding frames_due
none_due source cycle trace n i [] h = refl
none_due source cycle trace n i (None ∷ ids) h = none_due source cycle trace n (i + 1) ids (λ m q e. h (suc m) q e)
none_due source cycle trace n i (Some q ∷ ids) h =
    split_filter source n (sends cycle trace n i q) (frames_due cycle trace n (i + 1) ids)
    ∙ (rw (none_of_other source cycle (i + 1) n q (true_word trace i n) (true_word trace i (n - 1)) n (h zero q refl))
    (none_due source cycle trace n (i + 1) ids (λ m q e. h (suc m) q e)))

own_due : (source : Source) (cycle : ℕ) (trace : List InputData) (n i k : ℕ) (ids : List (Option ℕ)) → get_or ids k None ≡ Some source.plain
    → ((m q : ℕ) → m ≢ k → get_or ids m None ≡ Some q → Apart source.plain q)
    → filter (of source) (map (at_tick n) (frames_due cycle trace n i ids)) ≡ own_at cycle (i + k) source.plain trace n
unfolding frames_due
own_due source cycle trace n i k [] e h = absurd (cc)
own_due source cycle trace n i zero (None ∷ ids) e h = absurd (cc)
own_due source cycle trace n i zero (Some q ∷ ids) e h =
    let same : q ≡ source.plain = cc in
    let here : i + 0 ≡ i = omega arith in
    rw (same, here) (split_filter source n (sends cycle trace n i source.plain) (frames_due cycle trace n (i + 1) ids)
    ∙ (rw (
      kept_own source cycle (i + 1) n (true_word trace i n) (true_word trace i (n - 1)) n,
      none_due source cycle trace n (i + 1) ids (λ m q e. h (suc m) q (λ x. omega arith) e),
    ) (append-nil (own_at cycle i source.plain trace n))))
own_due source cycle trace n i (suc k) (None ∷ ids) e h =
    let on : i + suc k ≡ i + 1 + k = omega arith in
    rw on (own_due source cycle trace n (i + 1) k ids e (λ m q d e. h (suc m) q (λ x. d (omega arith)) e))
own_due source cycle trace n i (suc k) (Some q ∷ ids) e h =
    let on : i + suc k ≡ i + 1 + k = omega arith in
    split_filter source n (sends cycle trace n i q) (frames_due cycle trace n (i + 1) ids)
    ∙ (rw (
      none_of_other source cycle (i + 1) n q (true_word trace i n) (true_word trace i (n - 1)) n
          (h zero q (λ x. omega arith) refl),
      on,
    )
    (own_due source cycle trace n (i + 1) k ids e (λ m q d e. h (suc m) q (λ x. d (omega arith)) e)))

-- ---- the frames of a trace

pub own_all : (source : Source) (cycle k : ℕ) (ids : List (Option ℕ)) (trace : List InputData) → get_or ids k None ≡ Some source.plain
    → ((m q : ℕ) → m ≢ k → get_or ids m None ≡ Some q → Apart source.plain q) → (t : ℕ) (inputs : List InputData)
    → filter (of source) (frames_from t (produced_from cycle ids trace t inputs)) ≡ own_from cycle k source.plain trace t (length inputs)
unfolding produced_from own_from
own_all source cycle k ids trace e h t [] = refl
own_all source cycle k ids trace e h t (x ∷ inputs) =
    let zero_on : 0 + k ≡ k = omega arith in
    let here : filter (of source) (map (at_tick t) (frames_due cycle trace t 0 ids)) ≡ own_at cycle k source.plain trace t =
    own_due source cycle trace t 0 k ids e h ∙ ap (λ i. own_at cycle i source.plain trace t) zero_on in
    filter-append (of source) (map (at_tick t) (frames_due cycle trace t 0 ids))
    (frames_from (t + 1) (produced_from cycle ids trace (t + 1) inputs))
    ∙ (rw (here, own_all source cycle k ids trace e h (t + 1) inputs) refl)

-- a front of what is produced
pub produced-take : (cycle : ℕ) (ids : List (Option ℕ)) (trace : List InputData) (t n : ℕ) (inputs : List InputData)
    → take n (produced_from cycle ids trace t inputs) ≡ produced_from cycle ids trace t (take n inputs)
unfolding produced_from
produced-take cycle ids trace t zero inputs = refl
produced-take cycle ids trace t (suc n) [] = refl
produced-take cycle ids trace t (suc n) (x ∷ inputs) = ap
    (λ xs. record { frames = frames_due cycle trace t 0 ids; words = x.words; truth = x.truth; faults = no_faults } ∷ xs)
    (produced-take cycle ids trace (t + 1) n inputs)

pub produced-length : (cycle : ℕ) (ids : List (Option ℕ)) (trace : List InputData) (t : ℕ) (inputs : List InputData)
    → length (produced_from cycle ids trace t inputs) ≡ length inputs
unfolding produced_from
produced-length cycle ids trace t [] = refl
produced-length cycle ids trace t (x ∷ inputs) = ap suc (produced-length cycle ids trace (t + 1) inputs)

pub produced-truth : (cycle : ℕ) (ids : List (Option ℕ)) (trace : List InputData) (t j : ℕ) (inputs : List InputData)
    → map (λ (input : InputData). get_or input.truth j 0) (produced_from cycle ids trace t inputs)
    ≡ map (λ (input : InputData). get_or input.truth j 0) inputs
unfolding produced_from
produced-truth cycle ids trace t j [] = refl
produced-truth cycle ids trace t j (x ∷ inputs) = ap (λ xs. get_or x.truth j 0 ∷ xs) (produced-truth cycle ids trace (t + 1) j inputs)
