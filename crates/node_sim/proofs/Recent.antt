-- What a producer sends is genuine, and each pair of it counts until the next is whole.
use Rattle.std.proofs.Common.{◌≡◌, ℕ, zero, suc, ◌+◌, ◌-◌, ◌<◌, ◌≤◌, ◌%◌, ◌/◌, ◌*◌, Bool, true, false, refl, sym, ap, ◌∙◌, subst, arith, inl, inr, cond, leb, List, [], ◌∷◌, ◌++◌, length, take, map, get_or, Option, Some, None}
use Rattle.std.specs.Prelude.{◌⊎◌}
use Rattle.std.proofs.Math.Nat.{div-add-mod}
use Rattle.std.proofs.lemmas.Nat.{mod-mul-add}
use Rattle.std.proofs.lemmas.Bool.{cases_lt, eqb-true, ne_eqb, eq-eqb, le-leb, lt-leb, and_parts}
use Rattle.std.proofs.lemmas.List.{append_assoc, append-nil, length-take-le, get_or_past}
use Rattle.lift_base.specs.declared.TheConstants.{SOURCES}
use Rattle.lift_config.specs.Ranges.{IsInRange}
use Rattle.lift_model.specs.Live.{Timed, Source, is_plain, is_pair, pair_of, value_of, value_while}
use Rattle.lift_model.specs.Records.{Settings, InputData}
use Rattle.lift_model.specs.Trace.{frames_of, identifiers, image_at_end, value_at_end}
use Rattle.lift_model.specs.Truth.{source_of, true_word, IsGenuine}
use Rattle.lift_model.proofs.PairLemmas.{ends-found}
use Rattle.core_model.proofs.TruthLemmas.{image_value}
use Rattle.node_sim.proofs.Apart.{are_apart}
use Rattle.node_sim.proofs.Sent.{own_at, own_from, at_tick, own_all, produced-take, produced-length, produced-truth}
use Rattle.node_sim.specs.Laws.{Serves, IsRecent}
use Rattle.node_sim.specs.Produced.{is_due, plain_frame, inverted_frame, given, produced}

-- the word is in its two bytes
whole : (w : ℕ) → w % 256 + 256 * (w / 256) ≡ w
whole w = omega (arith, div-add-mod w 256)

-- ---- each plain frame tells the truth

Told : Source → (ℕ → ℕ) → List Timed → Type 0
Told source word [] = Unit {0}
Told source word (x ∷ xs) = (is_plain source x ≡ true → value_of x.frame ≡ word x.tick) × Told source word xs

Told-append : (source : Source) (word : ℕ → ℕ) (xs ys : List Timed) → Told source word xs → Told source word ys
    → Told source word (xs ++ ys)
unfolding Told
Told-append source word [] ys a b = b
Told-append source word (x ∷ xs) ys a b = (a.0, Told-append source word xs ys a.1 b)

Told-at : (source : Source) (word : ℕ → ℕ) (xs : List Timed) (x : Timed) (ys : List Timed) → Told source word (xs ++ x ∷ ys)
    → is_plain source x ≡ true → value_of x.frame ≡ word x.tick
unfolding Told
Told-at source word [] x ys a = a.0
Told-at source word (z ∷ xs) x ys a = Told-at source word xs x ys a.1

own_told : (source : Source) (cycle i : ℕ) (trace : List InputData) (t : ℕ)
    → Told source (true_word trace i) (own_at cycle i source.plain trace t)
unfolding Told
own_told source cycle i trace t = go (is_due cycle (i + 1) t) (is_due cycle (i + 1) (t - 1)) where
  go : (a b : Bool) → Told source (true_word trace i)
      (map (at_tick t) (given (cond a (Some (plain_frame source.plain (true_word trace i t)))
      (cond b (Some (inverted_frame source.plain (true_word trace i (t - 1)))) None))))
  go true b = (λ e. whole (true_word trace i t), tt)
  go false true = (λ e. absurd (let k : source.plain + 1 ≡ source.plain = eqb-true (source.plain + 1) source.plain e in omega arith), tt)
  go false false = tt

all_told : (source : Source) (cycle i : ℕ) (trace : List InputData) (t n : ℕ)
    → Told source (true_word trace i) (own_from cycle i source.plain trace t n)
unfolding Told own_from
all_told source cycle i trace t zero = tt
all_told source cycle i trace t (suc n) =
    Told-append source (true_word trace i) (own_at cycle i source.plain trace t) (own_from cycle i source.plain trace (t + 1) n)
    (own_told source cycle i trace t) (all_told source cycle i trace (t + 1) n)

-- the true words stay
same_word : (config : Settings) (cycle : ℕ) (trace : List InputData) (j t : ℕ)
    → true_word (produced config cycle trace) j t ≡ true_word trace j t
same_word config cycle trace j t = ap (λ xs. get_or xs (t - 1) 0) (produced-truth cycle (identifiers config) trace 1 j trace)

-- the frames of a source in a front of the produced trace
front : (config : Settings) (cycle : ℕ) (trace : List InputData) (j plain n : ℕ) → IsInRange config
    → get_or (identifiers config) j None ≡ Some plain
    → n ≤ length trace → frames_of (source_of config plain) (take n (produced config cycle trace)) ≡ own_from cycle j plain trace 1 n
front config cycle trace j plain n r named h =
    ap (frames_of (source_of config plain)) (produced-take cycle (identifiers config) trace 1 n trace)
    ∙ (own_all (source_of config plain) cycle j (identifiers config) trace named
    (λ m q d e. are_apart config r j m plain q (λ x. d (sym x)) named e) 1 (take n trace)
    ∙ ap (own_from cycle j plain trace 1) (length-take-le n trace h))

all_frames : (config : Settings) (cycle : ℕ) (trace : List InputData) (j plain : ℕ) → IsInRange config
    → get_or (identifiers config) j None ≡ Some plain
    → frames_of (source_of config plain) (produced config cycle trace) ≡ own_from cycle j plain trace 1 (length trace)
all_frames config cycle trace j plain r named =
    own_all (source_of config plain) cycle j (identifiers config) trace named
    (λ m q d e. are_apart config r j m plain q (λ x. d (sym x)) named e) 1 trace

pub genuine : (config : Settings) (cycle : ℕ) (trace : List InputData) → IsInRange config → IsGenuine config (produced config cycle trace)
unfolding is_pair
genuine config cycle trace r j plain named x y w pair =
    let source = source_of config plain in
    let told = all_told source cycle j trace 1 (length trace) in
    let here = subst (Told source (true_word trace j)) (sym (all_frames config cycle trace j plain r named) ∙ w.stand) told in
    let is_first : is_plain source x ≡ true = (and_parts _ _ (and_parts _ _ (and_parts _ _ pair).0).0).0 in
    Told-at source (true_word trace j) w.earlier x (y ∷ w.later) here is_first ∙ sym (same_word config cycle trace j x.tick)

-- ---- when frames are due

due : (cycle j q : ℕ) → 0 < cycle → is_due cycle j (j + q * cycle) ≡ true
due cycle j q h =
    let e : j + q * cycle - j ≡ q * cycle + 0 = omega arith in
    rw (le-leb j (j + q * cycle) (omega arith), e, mod-mul-add q cycle 0 h) refl

pub not_due : (cycle j q r : ℕ) → 0 < r → r < cycle → is_due cycle j (j + q * cycle + r) ≡ false
not_due cycle j q r a b =
    let e : j + q * cycle + r - j ≡ q * cycle + r = omega arith in
    rw (le-leb j (j + q * cycle + r) (omega arith), e, mod-mul-add q cycle r b) (ne_eqb r 0 (λ x. omega arith))

pub too_early : (cycle j n : ℕ) → n < j → is_due cycle j n ≡ false
too_early cycle j n h = rw (lt-leb j n h) refl

-- one frame alone is no pair
lone : (source : Source) (x : Timed) → pair_of source (x ∷ []) ≡ None
lone source x = go (is_plain source x) where
  go : (b : Bool) → cond b (let n : Option (Timed × Timed) = None in n) None ≡ None
  go true = refl
  go false = refl

-- ---- the frames of one source

module _ (cycle i plain : ℕ) (trace : List InputData) where
  own : ℕ → ℕ → List Timed
  own t n = own_from cycle i plain trace t n

  nothing : (t : ℕ) → is_due cycle (i + 1) t ≡ false → is_due cycle (i + 1) (t - 1) ≡ false → own_at cycle i plain trace t ≡ []
  nothing t a b = rw (a, b) refl

  quiet : (t n : ℕ) → ((u : ℕ) → t ≤ u → u < t + n → (is_due cycle (i + 1) u ≡ false) × (is_due cycle (i + 1) (u - 1) ≡ false))
      → own_from cycle i plain trace t n ≡ []
  unfolding own_from
  quiet t zero h = refl
  quiet t (suc n) h =
      let w = h t (omega arith) (omega arith) in
      rw (nothing t w.0 w.1) (quiet (t + 1) n (λ u a b. h u (omega arith) (omega arith)))

  cut : (t a b : ℕ) → own_from cycle i plain trace t (a + b) ≡ own_from cycle i plain trace t a ++ own_from cycle i plain trace (t + a) b
  unfolding own_from
  cut t zero b = let e : 0 + b ≡ b = omega arith in let f : t + 0 ≡ t = omega arith in rw (e, f) refl
  cut t (suc a) b =
      let e : suc a + b ≡ suc (a + b) = omega arith in
      let f : t + suc a ≡ t + 1 + a = omega arith in
      rw (e, f) (ap (λ xs. own_at cycle i plain trace t ++ xs) (cut (t + 1) a b)
      ∙ sym (append_assoc (own_at cycle i plain trace t) (own_from cycle i plain trace (t + 1) a)
      (own_from cycle i plain trace (t + 1 + a) b)))

  own_one : (t : ℕ) → own_from cycle i plain trace t 1 ≡ own_at cycle i plain trace t
  unfolding own_from
  own_one t = append-nil (own_at cycle i plain trace t)

  two_on : (t k : ℕ) → own_from cycle i plain trace t (suc (suc k))
      ≡ own_at cycle i plain trace t ++ (own_at cycle i plain trace (t + 1) ++ own_from cycle i plain trace (t + 1 + 1) k)
  unfolding own_from
  two_on t k = refl

  sent_plain : ℕ → Timed
  sent_plain t = at_tick t (plain_frame plain (true_word trace i t))

  sent_inverted : ℕ → Timed
  sent_inverted t = at_tick t (inverted_frame plain (true_word trace i (t - 1)))

  is_plain_at : (t : ℕ) → is_due cycle (i + 1) t ≡ true → own_at cycle i plain trace t ≡ sent_plain t ∷ []
  unfolding sent_plain
  is_plain_at t a = rw a refl

  is_inverted_at : (t : ℕ) → is_due cycle (i + 1) t ≡ false → is_due cycle (i + 1) (t - 1) ≡ true
      → own_at cycle i plain trace t ≡ sent_inverted t ∷ []
  unfolding sent_inverted
  is_inverted_at t a b = rw (a, b) refl

  -- ---- what the list ends in, where the last pair began at tick p and tick p + 1 + k is the last

  sends_pair : (p : ℕ) → own_at cycle i plain trace p ≡ sent_plain p ∷ [] → own_at cycle i plain trace (p + 1) ≡ sent_inverted (p + 1) ∷ []
      → 0 < p → (k : ℕ)
      → own_from cycle i plain trace 1 (p + 1 + k) ≡ own_from cycle i plain trace 1 (p - 1) ++ sent_plain p ∷ sent_inverted (p + 1)
      ∷ own_from cycle i plain trace (p + 2) k
  sends_pair p a b h k =
      let e : p + 1 + k ≡ p - 1 + suc (suc k) = omega arith in
      let f : 1 + (p - 1) ≡ p = omega arith in
      let g : p + 1 + 1 ≡ p + 2 = omega arith in
      let step : own_from cycle i plain trace p (suc (suc k)) ≡ sent_plain p ∷ sent_inverted (p + 1)
      ∷ own_from cycle i plain trace (p + 2) k =
      two_on p k ∙ (rw (a, b, g) refl) in
      ap (own_from cycle i plain trace 1) e
      ∙ (cut 1 (p - 1) (suc (suc k))
      ∙ ap (λ xs. own_from cycle i plain trace 1 (p - 1) ++ xs) (ap (λ t. own_from cycle i plain trace t (suc (suc k))) f ∙ step))

  -- behind the pair comes nothing, or the next plain frame
  behind : (q k : ℕ) → 2 ≤ cycle → k < cycle → let p = i + 1 + q * cycle in
      (own_from cycle i plain trace (p + 2) k ≡ []) ⊎ (own_from cycle i plain trace (p + 2) k ≡ sent_plain (p + cycle) ∷ [])
  behind q k two few = at_end (i + 1 + q * cycle) refl where
    at_end : (p : ℕ) → p ≡ i + 1 + q * cycle
        → (own_from cycle i plain trace (p + 2) k ≡ []) ⊎ (own_from cycle i plain trace (p + 2) k ≡ sent_plain (p + cycle) ∷ [])
    at_end p is = elim (cases_lt (k + 1) cycle) [
      | inl l ↦ inl (quiet (p + 2) k (λ u a b. (still u (omega arith) (omega arith), still (u - 1) (omega arith) (omega arith))))
      | inr l ↦ inr (last (omega arith))
    ] where
      still : (u : ℕ) → p < u → u < p + cycle → is_due cycle (i + 1) u ≡ false
      still u a b =
          let e : u ≡ i + 1 + q * cycle + (u - p) = omega arith in
          rw e (not_due cycle (i + 1) q (u - p) (omega arith) (omega arith))

      last : k + 1 ≡ cycle → own_from cycle i plain trace (p + 2) k ≡ sent_plain (p + cycle) ∷ []
      last l =
          let e : k ≡ k - 1 + 1 = omega arith in
          let f : p + 2 + (k - 1) ≡ p + cycle = omega arith in
          let g : p + cycle ≡ i + 1 + (q + 1) * cycle = omega arith in
          let now : is_due cycle (i + 1) (p + cycle) ≡ true = rw g (due cycle (i + 1) (q + 1) (omega arith)) in
          ap (own_from cycle i plain trace (p + 2)) e
          ∙ (cut (p + 2) (k - 1) 1
          ∙ (rw (
            quiet (p + 2) (k - 1)
                (λ u a b. (still u (omega arith) (omega arith), still (u - 1) (omega arith) (omega arith))),
            f,
            own_one (p + cycle),
          )
          (is_plain_at (p + cycle) now)))

  -- ---- the pair

  pair_valid : (sct srvt p : ℕ) → 1 ≤ srvt
      → is_pair (record { plain = plain; sct = sct; srvt = srvt }) (sent_plain p) (sent_inverted (p + 1)) ≡ true
  unfolding is_pair sent_plain sent_inverted
  pair_valid sct srvt p h =
      let now : p + 1 - 1 ≡ p = omega arith in
      let w = true_word trace i p in
      rw (
        now,
        eq-eqb plain plain refl,
        eq-eqb (plain + 1) (plain + 1) refl,
        eq-eqb (255 - w % 256) (255 - w % 256) refl,
        eq-eqb (255 - w / 256) (255 - w / 256) refl,
        le-leb (p + 1) (p + srvt) (omega arith),
      ) refl

  next_is_plain : (sct srvt p : ℕ) → is_plain (record { plain = plain; sct = sct; srvt = srvt }) (sent_plain p) ≡ true
  unfolding sent_plain
  next_is_plain sct srvt p = eq-eqb plain plain refl

  -- the tick in which the last whole pair before n began
  ends : (sct srvt q k : ℕ) → 1 ≤ srvt → 2 ≤ cycle → k < cycle → let p = i + 1 + q * cycle in
      pair_of (record { plain = plain; sct = sct; srvt = srvt }) (own_from cycle i plain trace 1 (p + 1 + k))
      ≡ Some (sent_plain p, sent_inverted (p + 1))
  ends sct srvt q k some two few =
      let p = i + 1 + q * cycle in
      let source : Source = record { plain = plain; sct = sct; srvt = srvt } in
      let at_p : is_due cycle (i + 1) p ≡ true = due cycle (i + 1) q (omega arith) in
      let back : p + 1 - 1 ≡ p = omega arith in
      let at_next : is_due cycle (i + 1) (p + 1 - 1) ≡ true = rw back at_p in
      let next_not : is_due cycle (i + 1) (p + 1) ≡ false = not_due cycle (i + 1) q 1 (omega arith) (omega arith) in
      let list = sends_pair p (is_plain_at p at_p) (is_inverted_at (p + 1) next_not at_next) (omega arith) k in
      let earlier = own_from cycle i plain trace 1 (p - 1) in
      ends-found source (own_from cycle i plain trace 1 (p + 1 + k)) (sent_plain p) (sent_inverted (p + 1)) (record {
        earlier = earlier;
        pair = pair_valid sct srvt p some;
        at_end = elim (behind q k two few) [
          | inl e ↦ inl (list ∙ ap (λ xs. earlier ++ sent_plain p ∷ sent_inverted (p + 1) ∷ xs) e)
          | inr e ↦ inr (
            sent_plain (p + cycle),
            next_is_plain sct srvt (p + cycle),
            list
                ∙ ap (λ xs. earlier ++ sent_plain p ∷ sent_inverted (p + 1) ∷ xs) e,
          )
        ];
      })

  -- before its first pair is whole the source has none
  none_so_early : (sct srvt n : ℕ) → n ≤ i + 1
      → pair_of (record { plain = plain; sct = sct; srvt = srvt }) (own_from cycle i plain trace 1 n) ≡ None
  none_so_early sct srvt n h = elim (cases_lt n (i + 1)) [
    | inl l ↦ rw (quiet 1 n (λ u a b. (too_early cycle (i + 1) u (omega arith), too_early cycle (i + 1) (u - 1) (omega arith)))) refl
    | inr l ↦ (let e : n ≡ i + 1 = omega arith in rw e (cut_at (is_due cycle (i + 1) (i + 1)) refl))
  ] where
    start : own_from cycle i plain trace 1 (i + 1) ≡ own_at cycle i plain trace (i + 1)
    start =
        let e : 1 + i ≡ i + 1 = omega arith in
        cut 1 i 1 ∙ (rw (quiet 1 i (λ u a b. (too_early cycle (i + 1) u (omega arith), too_early cycle (i + 1) (u - 1) (omega arith))), e)
        (own_one (i + 1)))

    cut_at : (b : Bool) → is_due cycle (i + 1) (i + 1) ≡ b
        → pair_of (record { plain = plain; sct = sct; srvt = srvt }) (own_from cycle i plain trace 1 (i + 1)) ≡ None
    cut_at true e = rw (start, is_plain_at (i + 1) e) (lone (record { plain = plain; sct = sct; srvt = srvt }) (sent_plain (i + 1)))
    cut_at false e = rw (start, nothing (i + 1) e (too_early cycle (i + 1) (i + 1 - 1) (omega arith))) refl

-- ---- the value

-- a configured source is one of the sources
pub is_source : (config : Settings) (j plain : ℕ) → get_or (identifiers config) j None ≡ Some plain → j < SOURCES
is_source config j plain named = elim (cases_lt j SOURCES) [
  | inl few ↦ few
  | inr many ↦ (let past : get_or (identifiers config) j None ≡ None = get_or_past (identifiers config) j None many in absurd (cc))
]

pub recent : (config : Settings) (cycle : ℕ) (trace : List InputData) → Serves config cycle → (n j plain : ℕ) → j + 2 ≤ n → n ≤ length trace
    → get_or (identifiers config) j None ≡ Some plain → IsRecent config cycle (produced config cycle trace) n j plain
unfolding sent_plain sent_inverted
recent config cycle trace s n j plain early late named =
    let m = n - 1 - (j + 1) in
    let q = m / cycle in
    let k = m % cycle in
    let p = j + 1 + q * cycle in
    let r = s.config_in_range in
    let whole_div : cycle * (m / cycle) + m % cycle ≡ m = div-add-mod m cycle in
    let is : n ≡ p + 1 + k = omega (arith, whole_div) in
    let few : k < cycle = omega (arith, s.least) in
    let source = source_of config plain in
    let made = produced config cycle trace in
    let long : length (take n made) ≡ n =
    length-take-le n made (omega (arith, late, produced-length cycle (identifiers config) trace 1 trace)) in
    let pair : pair_of source (frames_of source (take n made))
    ≡ Some (sent_plain cycle j plain trace p, sent_inverted cycle j plain trace (p + 1)) =
    ap (pair_of source) (front config cycle trace j plain n r named late)
    ∙ (ap (λ x. pair_of source (own_from cycle j plain trace 1 x)) is
    ∙ ends cycle j plain trace config.sct config.srvt q k r.some_srvt (omega (arith, s.least)) few) in
    let live : leb n (p + 1 + config.sct) ≡ true = le-leb n (p + 1 + config.sct) (omega (arith, s.most, is, few)) in
    record {
      first = sent_plain cycle j plain trace p;
      second = sent_inverted cycle j plain trace (p + 1);
      pair = pair;
      value = image_value config (take n made) j plain named
          ∙ (ap (value_while source (length (take n made))) pair
          ∙ (rw (long, live) (ap Some (whole (true_word trace j p) ∙ sym (same_word config cycle trace j p)))));
      not_old = omega (arith, is, few);
      past = omega (arith, is);
    }

-- where it has a pair, it is late enough
pub whole_pair : (config : Settings) (cycle : ℕ) (trace : List InputData) (n j plain : ℕ) → IsInRange config → n ≤ length trace
    → get_or (identifiers config) j None ≡ Some plain → (v : ℕ)
    → get_or (image_at_end config (take n (produced config cycle trace))).values j None ≡ Some v → j + 2 ≤ n
whole_pair config cycle trace n j plain r late named v has = elim (cases_lt n (j + 2)) [
  | inl l ↦
      (let made = produced config cycle trace in
      let source = source_of config plain in
      let none : pair_of source (frames_of source (take n made)) ≡ None =
      ap (pair_of source) (front config cycle trace j plain n r named late)
      ∙ none_so_early cycle j plain trace config.sct config.srvt n (omega arith) in
      let no_value : value_at_end config plain (take n made) ≡ None = ap (value_while source (length (take n made))) none in
      let e : get_or (image_at_end config (take n made)).values j None ≡ value_at_end config plain (take n made) =
      image_value config (take n made) j plain named in
      absurd (cc))
  | inr l ↦ l
]
