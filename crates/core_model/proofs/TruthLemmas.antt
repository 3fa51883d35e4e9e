-- Behind power the values were true not long ago.
use Rattle.std.proofs.Common.{◌≡◌, ◌≢◌, ℕ, suc, ◌+◌, ◌-◌, ◌^◌, ◌<◌, ◌≤◌, Bool, true, false, refl, sym, ap, ◌∙◌, subst, arith, inl, inr, cond, leb, List, [], ◌∷◌, ◌++◌, length, take, drop, map, get_or, Option, Some, None}
use Rattle.std.specs.Prelude.{◌||◌, ◌&&◌, filter, option_map, option_and_then, is_none, is_some}
use Rattle.std.proofs.lemmas.Bool.{cases_Bool, cases_lt, and_parts, leb-true, true≢false}
use Rattle.std.proofs.lemmas.List.{append_assoc, take-append-drop, length-take-le, get_or-map, get_or_past}
use Rattle.std.proofs.lemmas.List.Elements.{filter-append}
use Rattle.lift_base.specs.declared.Kind.{Kind}
use Rattle.lift_base.specs.declared.Kind.TheVariants.{Off, Full, Up, Down}
use Rattle.lift_base.specs.declared.TheConstants.{SOURCES}
use Rattle.lift_model.proofs.BitLemmas.{first_below-none_gives}
use Rattle.lift_model.proofs.PairLemmas.{found-ends}
use Rattle.lift_model.specs.Grant.{Facts, facts_of, is_missing, verdict_of, verdict_at_end}
use Rattle.lift_model.specs.Live.{Timed, Source, is_plain, is_inverted, is_pair, pair_of, value_of, value_while, live_value}
use Rattle.lift_model.specs.Records.{Settings, InputData, FrameData}
use Rattle.lift_model.specs.Trace.{frames_from, frames_of, identifiers, configured, image_at_end, value_at_end}
use Rattle.lift_model.specs.Truth.{source_of, true_word, Neighbours, IsGenuine}
use Rattle.core_model.proofs.RunLemmas.{run_holds}
use Rattle.core_model.specs.Backed.{BackedOn}
use Rattle.core_model.specs.Genuine.{WasTrue, ValuesWereTrue}
use Rattle.core_model.specs.Machine.{State, Event}
use Rattle.core_model.specs.Runs.{CoreRun}
use Rattle.core_model.specs.Settling.{Settled, Out, no_settled, out_at}
use Rattle.core_model.specs.Words.{is_off, stamp_of}

abbrev Pair : Type 0
Pair = Timed × Timed

pair_stands : (source : Source) (frames : List Timed) (x y : Timed) → pair_of source frames ≡ Some (x, y)
    → Neighbours frames x y × (is_pair source x y ≡ true)
pair_stands source frames x y e =
    let w = found-ends source frames x y e in
    let stand : Neighbours frames x y = elim w.at_end [
      | inl h ↦ record { earlier = w.earlier; later = []; stand = h }
      | inr z ↦ record { earlier = w.earlier; later = z.0 ∷ []; stand = z.2 }
    ] in
    (stand, w.pair)

-- the frames of a front of the trace come first
pub frames_from-append : (t : ℕ) (xs ys : List InputData) → frames_from t (xs ++ ys) ≡ frames_from t xs ++ frames_from (t + length xs) ys
frames_from-append t [] ys = let e : t + 0 ≡ t = omega arith in rw e refl
frames_from-append t (x ∷ xs) ys =
    let e : t + 1 + length xs ≡ t + suc (length xs) = omega arith in
    rw (frames_from-append (t + 1) xs ys, e) (sym (append_assoc (map (λ frame. record { frame = frame; tick = t }) x.frames)
    (frames_from (t + 1) xs) _))

frames_of-front : (source : Source) (trace : List InputData) (n : ℕ)
    → (rest : List Timed) × (frames_of source trace ≡ frames_of source (take n trace) ++ rest)
frames_of-front source trace n =
    let of = λ (x : Timed). is_plain source x || is_inverted source x in
    let rest : List Timed = filter of (frames_from (1 + length (take n trace)) (drop n trace)) in
    let split : frames_of source trace ≡ frames_of source (take n trace) ++ rest =
    ap (λ xs. filter of (frames_from 1 xs)) (sym (take-append-drop n trace))
    ∙ (ap (filter of) (frames_from-append 1 (take n trace) (drop n trace)) ∙ filter-append of (frames_from 1 (take n trace)) _) in
    (rest, split)

neighbours_front : (source : Source) (trace : List InputData) (n : ℕ) (x y : Timed) → Neighbours (frames_of source (take n trace)) x y
    → Neighbours (frames_of source trace) x y
neighbours_front source trace n x y w =
    let f = frames_of-front source trace n in
    record {
      earlier = w.earlier;
      later = w.later ++ f.0;
      stand = f.1
          ∙ (ap (λ l. l ++ f.0) w.stand ∙ append_assoc w.earlier (x ∷ y ∷ w.later) f.0);
    }

-- no frame of the list came after its last tick
Upto : ℕ → List Timed → Type 0
Upto n [] = Unit {0}
Upto n (x ∷ xs) = (x.tick ≤ n) × Upto n xs

Upto-append : (n : ℕ) (xs ys : List Timed) → Upto n xs → Upto n ys → Upto n (xs ++ ys)
unfolding Upto
Upto-append n [] ys a b = b
Upto-append n (x ∷ xs) ys a b = (a.0, Upto-append n xs ys a.1 b)

Upto-map : (n t : ℕ) (fs : List FrameData) → t ≤ n → Upto n (map (λ frame. record { frame = frame; tick = t }) fs)
unfolding Upto
Upto-map n t [] h = tt
Upto-map n t (f ∷ fs) h = (h, Upto-map n t fs h)

Upto-from : (n t : ℕ) (xs : List InputData) → t + length xs ≤ n + 1 → Upto n (frames_from t xs)
unfolding Upto
Upto-from n t [] h = tt
Upto-from n t (x ∷ xs) h = Upto-append n _ _ (Upto-map n t x.frames (omega arith)) (Upto-from n (t + 1) xs (omega arith))

Upto-filter : (n : ℕ) (p : Timed → Bool) (xs : List Timed) → Upto n xs → Upto n (filter p xs)
unfolding Upto
Upto-filter n p [] a = tt
Upto-filter n p (x ∷ xs) a = elim (cases_Bool (p x)) [ inl e ↦ rw e (a.0, Upto-filter n p xs a.1) | inr e ↦ rw e (Upto-filter n p xs a.1) ]

Upto-at : (n : ℕ) (xs : List Timed) (x : Timed) (ys : List Timed) → Upto n (xs ++ x ∷ ys) → x.tick ≤ n
unfolding Upto
Upto-at n [] x ys a = a.0
Upto-at n (z ∷ xs) x ys a = Upto-at n xs x ys a.1

-- A value that is live at n was the truth at a tick p, not longer ago than a pair may count and its frames may be apart.
pub record Truth (config : Settings) (trace : List InputData) (j plain n v : ℕ) : Type 0 where
  pub first : Timed
  pub second : Timed
  pub pair : pair_of (source_of config plain) (frames_of (source_of config plain) (take n trace)) ≡ Some (first, second)
  pub was : v ≡ true_word trace j first.tick
  pub past : first.tick ≤ n
  pub live : n ≤ first.tick + config.srvt + config.sct

pub live-truth : (config : Settings) (trace : List InputData) (j plain n v : ℕ) → IsGenuine config trace
    → get_or (identifiers config) j None ≡ Some plain → n ≤ length trace
    → live_value (source_of config plain) (frames_of (source_of config plain) (take n trace)) n ≡ Some v → Truth config trace j plain n v
unfolding is_pair
live-truth config trace j plain n v genuine named h e = go
    (pair_of (source_of config plain) (frames_of (source_of config plain) (take n trace))) refl e where
      go : (o : Option Pair) → pair_of (source_of config plain) (frames_of (source_of config plain) (take n trace)) ≡ o
          → value_while (source_of config plain) n o ≡ Some v → Truth config trace j plain n v
      go None k e = absurd (cc)
      go (Some pair) k e = two (leb n (pair.1.tick + config.sct)) refl e where
        two : (b : Bool) → leb n (pair.1.tick + config.sct) ≡ b → cond b (Some (value_of pair.0.frame)) None ≡ Some v
            → Truth config trace j plain n v
        two true l e =
            let source = source_of config plain in
            let w = pair_stands source (frames_of source (take n trace)) pair.0 pair.1 k in
            let value : value_of pair.0.frame ≡ v = cc in
            let near : pair.1.tick ≤ pair.0.tick + config.srvt = leb-true _ _ (and_parts _ _ w.1).1 in
            let live : n ≤ pair.1.tick + config.sct = leb-true _ _ l in
            let bound : Upto n (frames_of source (take n trace)) = Upto-filter n _ _
            (Upto-from n 1 (take n trace) (omega (arith, length-take-le n trace h))) in
            record {
              first = pair.0;
              second = pair.1;
              pair = k;
              was = sym value ∙ genuine j plain named pair.0 pair.1 (neighbours_front source trace n pair.0 pair.1 w.0) w.1;
              past = Upto-at n w.0.earlier pair.0 (pair.1 ∷ w.0.later) (subst (Upto n) w.0.stand bound);
              live = omega arith;
            }
        two false l e = absurd (cc)

-- ---- where a kind is granted, each configured source is live

none_missing : (f : Facts) → is_off (verdict_of f).kind ≡ false → f.missing ≡ None
unfolding verdict_of
none_missing f on = go f.missing refl where
  go : (o : Option ℕ) → f.missing ≡ o → f.missing ≡ None
  go None e = e
  go (Some d) e = absurd (true≢false (sym off ∙ on)) where
    off : is_off (verdict_of f).kind ≡ true
    off = rw e refl

none_from_map : (o : Option ℕ) → option_map suc o ≡ None → o ≡ None
none_from_map None e = refl
none_from_map (Some x) e = absurd (cc)

granted_missing : (config : Settings) (inputs : List InputData) → is_off (verdict_at_end config inputs).kind ≡ false → (j : ℕ)
    → j < SOURCES → is_missing (configured config) (image_at_end config inputs) j ≡ false
unfolding verdict_at_end
granted_missing config [] on j h = absurd (true≢false on)
granted_missing config (x ∷ inputs) on j h =
    let f = facts_of config (x ∷ inputs) in
    first_below-none_gives SOURCES (is_missing (configured config) (image_at_end config (x ∷ inputs)))
    (none_from_map _ (none_missing f on)) j h

live_from : (o : Option ℕ) → is_none o ≡ false → (w : ℕ) × (o ≡ Some w)
live_from None e = absurd (true≢false e)
live_from (Some w) e = (w, refl)

-- the value of a configured source in an image
pub image_value : (config : Settings) (inputs : List InputData) (j plain : ℕ) → get_or (identifiers config) j None ≡ Some plain
    → get_or (image_at_end config inputs).values j None ≡ value_at_end config plain inputs
unfolding image_at_end
image_value config inputs j plain named = elim (cases_lt j SOURCES) [
  | inl few ↦ get_or-map (option_and_then (λ p. value_at_end config p inputs)) (identifiers config) j None None few
      ∙ ap (option_and_then (λ p. value_at_end config p inputs)) named
  | inr many ↦ (let past : get_or (identifiers config) j None ≡ None = get_or_past (identifiers config) j None many in absurd (cc))
]

-- where a kind is granted, a configured source has a value
pub granted_live : (config : Settings) (inputs : List InputData) (j plain : ℕ) → is_off (verdict_at_end config inputs).kind ≡ false
    → get_or (identifiers config) j None ≡ Some plain
    → (v : ℕ) × (get_or (image_at_end config inputs).values j None ≡ Some v)
granted_live config inputs j plain on named = elim (cases_lt j SOURCES) [
  | inl few ↦ (let there : get_or (configured config) j false ≡ true = get_or-map is_some (identifiers config) j None false few
      ∙ ap is_some named in
      live_from _ (sym (ap (λ (b : Bool). b && is_none (get_or (image_at_end config inputs).values j None)) there)
      ∙ granted_missing config inputs on j few))
  | inr many ↦ (let past : get_or (identifiers config) j None ≡ None = get_or_past (identifiers config) j None many in absurd (cc))
]

-- ---- behind power

pub is_on : (k : Kind) → k ≢ Off → is_off k ≡ false
is_on Off h = absurd (h refl)
is_on Full h = refl
is_on Up h = refl
is_on Down h = refl

-- what a backed tick stands on was true
backed_true : (config : Settings) (trace : List InputData) (t : ℕ) (st : Settled) (out : Out) → IsGenuine config trace → t ≤ length trace
    → st.power ≢ Off → BackedOn config trace t st out
    → (j plain : ℕ) → get_or (identifiers config) j None ≡ Some plain → WasTrue config trace t (stamp_of out.word) j plain
backed_true config trace t st out genuine old on b j plain named =
    let n = stamp_of out.word in
    let inputs = take n trace in
    let early : n < t = elim b.age [ inl e ↦ omega (arith, e) | inr e ↦ omega (arith, e) ] in
    let recent : t ≤ n + 2 = elim b.age [ inl e ↦ omega (arith, e) | inr e ↦ omega (arith, e) ] in
    let granted : is_off (verdict_at_end config inputs).kind ≡ false = ap is_off b.granted ∙ is_on st.power on in
    let live = granted_live config inputs j plain granted named in
    let short : length inputs ≡ n = length-take-le n trace (omega (arith, early, old)) in
    let value : live_value (source_of config plain) (frames_of (source_of config plain) inputs) n ≡ Some live.0 =
    ap (live_value (source_of config plain) (frames_of (source_of config plain) inputs)) (sym short)
    ∙ (sym (image_value config inputs j plain named) ∙ live.1) in
    let w = live-truth config trace j plain n live.0 genuine named (omega (arith, early, old)) value in
    record {
      first = w.first;
      second = w.second;
      pair = w.pair;
      value = live.1 ∙ ap Some w.was;
      not_late = w.past;
      stamped = early;
      not_old = omega (arith, w.live, recent);
    }

pub values_true : (config : Settings) (events : List Event) (s : State) → config.ticks < 2 ^ 24 → CoreRun config events s
    → ValuesWereTrue config events s
values_true config events s small run genuine t some old on side healthy j plain named =
    let h = run_holds config events s small run in
    elim (h.backed t some old side healthy) [
      | inl off ↦ absurd (on off)
      | inr b ↦ backed_true config s.trace t (get_or s.path (t - 1) no_settled) (out_at side (get_or s.path (t - 1) no_settled)) genuine
          (omega (arith, h.settled)) on b j plain named
    ]
