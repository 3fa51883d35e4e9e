-- Where no pair is wrong the trace is genuine, and the oldest age bounds each value behind power.
use Rattle.std.proofs.Common.{◌≡◌, ℕ, zero, suc, ◌+◌, ◌-◌, ◌<◌, ◌≤◌, Bool, true, false, refl, sym, ap, ◌∙◌, subst, arith, inl, inr, cond, leb, List, [], ◌∷◌, ◌++◌, length, reverse, take, get_or, Option, Some, None}
use Rattle.std.specs.Prelude.{◌&&◌, ◌==◌, not, filter, IfSome, slice_get}
use Rattle.std.proofs.lemmas.Bool.{and_parts, eqb-true, leb-true, leb-false, true≢false, or_right, eq-eqb}
use Rattle.std.proofs.lemmas.List.{append_assoc, reverse-append, reverse-reverse, length-take-le}
use Rattle.std.proofs.lemmas.List.Elements.{filter-append}
use Rattle.node_sim.proofs.HeardLemmas.{inverted_in}
use Rattle.lift_base.specs.declared.TheConstants.{SOURCES}
use Rattle.lift_model.proofs.BitLemmas.{first_below-none, first_below-none_gives}
use Rattle.lift_model.proofs.PairLemmas.{found-ends}
use Rattle.lift_model.specs.Bits.{first_below, or_else}
use Rattle.lift_model.specs.Enums.{Side, A, B}
use Rattle.lift_model.specs.Grant.{verdict_at_end}
use Rattle.lift_model.specs.Live.{Timed, Source, is_plain, is_inverted, is_pair, pair_of, value_of, value_while, live_value}
use Rattle.lift_model.specs.Records.{Settings, InputData}
use Rattle.lift_model.specs.Trace.{frames_from, frames_of, identifiers, image_at_end}
use Rattle.lift_model.specs.Truth.{source_of, true_word, IsGenuine}
use Rattle.core_model.proofs.TruthLemmas.{live-truth, granted_live, image_value, is_on}
use Rattle.core_model.specs.Backed.{Backed}
use Rattle.core_model.specs.Settling.{Settled, no_settled, out_at}
use Rattle.core_model.specs.Words.{is_off, stamp_of}
use Rattle.round_model.specs.Lawful.{AreBacked}
use Rattle.round_model.specs.Parts.{is_healthy_by_script}
use Rattle.node_sim.proofs.Recent.{is_source}
use Rattle.node_sim.proofs.WrongLemmas.{first_wrong-append, six_tests}
use Rattle.node_sim.specs.Hearing.{first_of}
use Rattle.script_model.specs.Audit.{IsOfSource}
use Rattle.node_sim.specs.Audited.{is_of, last_of, is_untrue, untrue_if, ends_wrong, wrong_by, wrong_at, first_wrong_in, first_wrong_pair, first_tick, age_of, age_at, greatest, greatest_of, oldest_at, side_age, oldest_from, oldest_age, AllTrueWithin}
use Rattle.node_sim.specs.Audits.{AuditsSayWhatIs}
use Rattle.script_model.specs.declared.audits.Wrong.{Wrong}

-- ---- genuine

-- a place in what is kept of a list is a place in the list
record Place (p : Timed → Bool) (all earlier : List Timed) (y : Timed) : Type 0 where
  before : List Timed
  after : List Timed
  stand : all ≡ before ++ y ∷ after
  kept : filter p before ≡ earlier

place_on : (p : Timed → Bool) (z : Timed) (all : List Timed) (y : Timed) (later : List Timed)
    → ((earlier : List Timed) → filter p all ≡ earlier ++ y ∷ later → Place p all earlier y) → (b : Bool) → p z ≡ b → (earlier : List Timed)
    → cond b (z ∷ filter p all) (filter p all) ≡ earlier ++ y ∷ later → Place p (z ∷ all) earlier y
place_on p z all y later next true k [] e = let same : z ≡ y =
    cc in record { before = []; after = all; stand = ap (λ (x : Timed). x ∷ all) same; kept = refl }
place_on p z all y later next true k (w ∷ earlier) e =
    let rest : filter p all ≡ earlier ++ y ∷ later = cc in
    let same : z ≡ w = cc in
    let s = next earlier rest in
    record { before = z ∷ s.before; after = s.after; stand = ap (λ xs. z ∷ xs) s.stand; kept = rw (k, s.kept, same) refl }
place_on p z all y later next false k earlier e =
    let s = next earlier e in
    record { before = z ∷ s.before; after = s.after; stand = ap (λ xs. z ∷ xs) s.stand; kept = rw k s.kept }

place : (p : Timed → Bool) (all earlier : List Timed) (y : Timed) (later : List Timed) → filter p all ≡ earlier ++ y ∷ later
    → Place p all earlier y
place p [] [] y later e = absurd (cc)
place p [] (w ∷ earlier) y later e = absurd (cc)
place p (z ∷ all) earlier y later e = place_on p z all y later (λ earlier e. place p all earlier y later e) (p z) refl earlier e

or_first : (a b : Option Wrong) → or_else a b ≡ None → a ≡ None
or_first None b e = refl
or_first (Some a) b e = absurd (cc)

or_second : (a b : Option Wrong) → or_else a b ≡ None → b ≡ None
or_second None b e = e
or_second (Some a) b e = absurd (cc)

not_wrong_at : (config : Settings) (trace : List InputData) (xs : List Timed) (y : Timed) (ys : List Timed)
    → first_wrong_in config trace [] (xs ++ y ∷ ys) ≡ None → wrong_at config trace xs y ≡ None
unfolding first_wrong_in
not_wrong_at config trace xs y ys e =
    or_first (wrong_at config trace xs y) (first_wrong_in config trace (xs ++ y ∷ []) ys)
    (or_second (first_wrong_in config trace [] xs) (first_wrong_in config trace xs (y ∷ ys))
    (sym (first_wrong-append config trace [] xs (y ∷ ys)) ∙ e))

none_by : (t : ℕ) (o : Option ℕ) → wrong_by t o ≡ None → o ≡ None
none_by t None e = refl
none_by t (Some j) e = absurd (cc)

equal_if : (b : Bool) → not b ≡ false → b ≡ true
equal_if true e = refl
equal_if false e = absurd (true≢false e)

told : (source : Source) (words : ℕ → ℕ) (x y : Timed) → is_pair source x y ≡ true → is_untrue source words (Some x) y ≡ false
    → value_of x.frame ≡ words x.tick
told source words x y pair e =
    let k : not (value_of x.frame == words x.tick) ≡ false = sym (ap (λ b. b && not (value_of x.frame == words x.tick)) pair) ∙ e in
    eqb-true (value_of x.frame) (words x.tick) (equal_if _ k)

pub genuine_if : (config : Settings) (trace : List InputData) → first_wrong_pair config trace ≡ None → IsGenuine config trace
genuine_if config trace none j plain named x y w pair =
    let source = source_of config plain in
    let s = place (is_of source) (frames_from 1 trace) (w.earlier ++ x ∷ []) y w.later (w.stand
    ∙ sym (append_assoc w.earlier (x ∷ []) (y ∷ w.later))) in
    let here : wrong_at config trace s.before y ≡ None =
    not_wrong_at config trace s.before y s.after (ap (first_wrong_in config trace []) (sym s.stand) ∙ none) in
    let none_here : first_below SOURCES (ends_wrong config trace s.before y) ≡ None =
    none_by y.tick (first_below SOURCES (ends_wrong config trace s.before y)) here in
    let fine : ends_wrong config trace s.before y j ≡ false =
    first_below-none_gives SOURCES (ends_wrong config trace s.before y) none_here j (is_source config j plain named) in
    let last : last_of (filter (is_of source) s.before) ≡ Some x = ap last_of s.kept ∙ (rw (reverse-append w.earlier (x ∷ [])) refl) in
    let untrue : is_untrue source (true_word trace j) (Some x) y ≡ false =
    sym (ap (untrue_if config (true_word trace j) s.before y) named ∙ ap (λ o. is_untrue source (true_word trace j) o y) last) ∙ fine in
    told source (true_word trace j) x y pair untrue

-- ---- where the trace is genuine, no pair is wrong

-- a list that is not empty ends in its newest
ends_in : (xs : List Timed) (x : Timed) → last_of xs ≡ Some x → (earlier : List Timed) × (xs ≡ earlier ++ x ∷ [])
ends_in xs x e = go (reverse xs) refl e where
  go : (h : List Timed) → reverse xs ≡ h → slice_get h 0 ≡ Some x → (earlier : List Timed) × (xs ≡ earlier ++ x ∷ [])
  go [] k e = absurd (cc)
  go (z ∷ h) k e =
      let same : z ≡ x = cc in
      (reverse h, sym (reverse-reverse xs) ∙ (ap reverse k ∙ (reverse-append (z ∷ []) h ∙ ap (λ (w : Timed). reverse h ++ w ∷ []) same)))

not_untrue : (config : Settings) (trace : List InputData) (j plain : ℕ) → IsGenuine config trace
    → get_or (identifiers config) j None ≡ Some plain
    → (xs : List Timed) (y : Timed) (ys : List Timed) → frames_from 1 trace ≡ xs ++ y ∷ ys → (o : Option Timed)
    → last_of (filter (is_of (source_of config plain)) xs) ≡ o → is_untrue (source_of config plain) (true_word trace j) o y ≡ false
not_untrue config trace j plain genuine named xs y ys stand None last = refl
not_untrue config trace j plain genuine named xs y ys stand (Some x) last = go (is_pair (source_of config plain) x y) refl where
  source : Source
  source = source_of config plain

  go : (b : Bool) → is_pair (source_of config plain) x y ≡ b → (b && not (value_of x.frame == true_word trace j x.tick)) ≡ false
  go false k = refl
  go true k =
      let p : Timed → Bool = is_of (source_of config plain) in
      let w = ends_in (filter p xs) x last in
      let own : p y ≡ true =
      or_right (is_plain (source_of config plain) y) (is_inverted (source_of config plain) y)
      (inverted_in (source_of config plain) x y k) in
      let rest : filter p (y ∷ ys) ≡ y ∷ filter p ys = rw own refl in
      let frames : frames_of (source_of config plain) trace ≡ w.0 ++ x ∷ y ∷ filter p ys =
      ap (filter p) stand ∙ (filter-append p xs (y ∷ ys) ∙ (ap (λ xs. xs ++ filter p (y ∷ ys)) w.1
      ∙ (ap (λ xs. (w.0 ++ x ∷ []) ++ xs) rest ∙ append_assoc w.0 (x ∷ []) (y ∷ filter p ys)))) in
      let true_value : value_of x.frame ≡ true_word trace j x.tick =
      genuine j plain named x y (record { earlier = w.0; later = filter p ys; stand = frames }) k in
      ap not (eq-eqb (value_of x.frame) (true_word trace j x.tick) true_value)

none_wrong : (config : Settings) (trace : List InputData) → IsGenuine config trace → (xs : List Timed) (y : Timed) (ys : List Timed)
    → frames_from 1 trace ≡ xs ++ y ∷ ys → wrong_at config trace xs y ≡ None
none_wrong config trace genuine xs y ys stand =
    ap (wrong_by y.tick) (first_below-none SOURCES (ends_wrong config trace xs y) (λ j few. go j (get_or (identifiers config) j None) refl))
  where
    go : (j : ℕ) (o : Option ℕ) → get_or (identifiers config) j None ≡ o
        → untrue_if config (true_word trace j) xs y (get_or (identifiers config) j None) ≡ false
    go j None e = rw e refl
    go j (Some plain) e =
        ap (untrue_if config (true_word trace j) xs y) e
        ∙ not_untrue config trace j plain genuine e xs y ys stand (last_of (filter (is_of (source_of config plain)) xs)) refl

none_in : (config : Settings) (trace : List InputData) → IsGenuine config trace → (xs ys : List Timed) → frames_from 1 trace ≡ xs ++ ys
    → first_wrong_in config trace xs ys ≡ None
unfolding first_wrong_in
none_in config trace genuine xs [] stand = refl
none_in config trace genuine xs (y ∷ ys) stand =
    rw (none_wrong config trace genuine xs y ys stand)
    (none_in config trace genuine (xs ++ y ∷ []) ys (stand ∙ sym (append_assoc xs (y ∷ []) ys)))

pub none_if : (config : Settings) (trace : List InputData) → IsGenuine config trace → first_wrong_pair config trace ≡ None
none_if config trace genuine = none_in config trace genuine [] (frames_from 1 trace) refl

-- ---- how old a live value is

abbrev Pair : Type 0
Pair = Timed × Timed

pub record Young (config : Settings) (trace : List InputData) (n plain : ℕ) : Type 0 where
  pub first : Timed
  pub second : Timed
  pub pair : pair_of (source_of config plain) (frames_of (source_of config plain) (take n trace)) ≡ Some (first, second)
  pub not_old : n ≤ first.tick + config.sct + config.srvt

young : (config : Settings) (trace : List InputData) (n plain v : ℕ)
    → live_value (source_of config plain) (frames_of (source_of config plain) (take n trace)) n ≡ Some v → Young config trace n plain
unfolding is_pair
young config trace n plain v e = go (pair_of (source_of config plain) (frames_of (source_of config plain) (take n trace))) refl e where
  go : (o : Option Pair) → pair_of (source_of config plain) (frames_of (source_of config plain) (take n trace)) ≡ o
      → value_while (source_of config plain) n o ≡ Some v → Young config trace n plain
  go None k e = absurd (cc)
  go (Some pair) k e = two (leb n (pair.1.tick + config.sct)) refl e where
    two : (b : Bool) → leb n (pair.1.tick + config.sct) ≡ b → cond b (Some (value_of pair.0.frame)) None ≡ Some v
        → Young config trace n plain
    two true l e =
        let w = found-ends (source_of config plain) (frames_of (source_of config plain) (take n trace)) pair.0 pair.1 k in
        let near : pair.1.tick ≤ pair.0.tick + config.srvt = leb-true pair.1.tick (pair.0.tick + config.srvt) (and_parts _ _ w.pair).1 in
        let live : n ≤ pair.1.tick + config.sct = leb-true _ _ l in
        record { first = pair.0; second = pair.1; pair = k; not_old = omega arith }
    two false l e = absurd (cc)

-- the value of a source where a kind was granted
live_at : (config : Settings) (trace : List InputData) (n j plain : ℕ) → n ≤ length trace
    → is_off (verdict_at_end config (take n trace)).kind ≡ false
    → get_or (identifiers config) j None ≡ Some plain
    → (v : ℕ) × (get_or (image_at_end config (take n trace)).values j None ≡ Some v)
    × (live_value (source_of config plain) (frames_of (source_of config plain) (take n trace)) n ≡ Some v)
live_at config trace n j plain h on named =
    let w = granted_live config (take n trace) j plain on named in
    let long : length (take n trace) ≡ n = length-take-le n trace h in (
      w.0,
      w.1,
      ap (live_value (source_of config plain) (frames_of (source_of config plain) (take n trace))) (sym long)
          ∙ (sym (image_value config (take n trace) j plain named) ∙ w.1),
    )

-- ---- bounds

abbrev Below : ℕ → Option ℕ → Type 0
Below most o = IfSome o (λ a. a ≤ most)

greatest_below : (most : ℕ) (a b : Option ℕ) → Below most a → Below most b → Below most (greatest a b)
greatest_below most None b h k = k
greatest_below most (Some x) None h k = h
greatest_below most (Some x) (Some y) h k = go (leb x y) where
  go : (t : Bool) → cond t y x ≤ most
  go true = k
  go false = h

all_below : (most : ℕ) (ids : List (Option ℕ)) (age : Option ℕ → Option ℕ) → age None ≡ None
    → ((k plain : ℕ) → get_or ids k None ≡ Some plain → Below most (age (Some plain))) → Below most (greatest_of ids age)
all_below most [] age none h = tt
all_below most (None ∷ ids) age none h = greatest_below most (age None) (greatest_of ids age) (rw none tt)
    (all_below most ids age none (λ k plain e. h (suc k) plain e))
all_below most (Some id ∷ ids) age none h =
    greatest_below most (age (Some id)) (greatest_of ids age) (h zero id refl)
    (all_below most ids age none (λ k plain e. h (suc k) plain e))

-- the age of a source's pair
age_is : (config : Settings) (trace : List InputData) (n plain : ℕ) (x y : Timed)
    → pair_of (source_of config plain) (frames_of (source_of config plain) (take n trace)) ≡ Some (x, y)
    → age_at config trace n (Some plain) ≡ Some (n - x.tick)
age_is config trace n plain x y e = ap (λ o. age_of n (first_tick o)) e

oldest_below : (config : Settings) (trace : List InputData) (n : ℕ) → n ≤ length trace
    → is_off (verdict_at_end config (take n trace)).kind ≡ false
    → Below (config.sct + config.srvt) (oldest_at config trace n)
unfolding oldest_at
oldest_below config trace n h on = all_below (config.sct + config.srvt) (identifiers config) (age_at config trace n) refl (λ j plain named.
    let w = live_at config trace n j plain h on named in
    let z = young config trace n plain w.0 w.2 in
    subst (Below (config.sct + config.srvt)) (sym (age_is config trace n plain z.first z.second z.pair)) (omega (arith, z.not_old)))

-- what a healthy side's command stands on while power is on
record Stands (config : Settings) (trace : List InputData) (n t : ℕ) : Type 0 where
  early : n < t
  on : is_off (verdict_at_end config (take n trace)).kind ≡ false

stands : (config : Settings) (trace : List InputData) (t : ℕ) (st : Settled) (side : Side) → is_off st.power ≡ false
    → Backed config trace t st side
    → Stands config trace (stamp_of (out_at side st).word) t
stands config trace t st side on (inl off) = absurd (true≢false (sym (ap is_off off) ∙ on))
stands config trace t st side on (inr b) = record {
  early = elim b.age [ inl e ↦ omega (arith, e) | inr e ↦ omega (arith, e) ];
  on = ap is_off b.granted ∙ on;
}

side_below : (config : Settings) (trace : List InputData) (t : ℕ) (st : Settled) (side : Side) → t ≤ length trace
    → (is_healthy_by_script side trace t ≡ true → Backed config trace t st side)
    → Below (config.sct + config.srvt) (side_age config trace t st side)
side_below config trace t st side h backed = go (is_off st.power) refl (is_healthy_by_script side trace t) refl where
  go : (off : Bool) → is_off st.power ≡ off → (healthy : Bool) → is_healthy_by_script side trace t ≡ healthy
      → Below (config.sct + config.srvt) (cond (not off && healthy) (oldest_at config trace (stamp_of (out_at side st).word)) None)
  go true e healthy k = tt
  go false e false k = tt
  go false e true k = let s = stands config trace t st side e (backed k) in oldest_below config trace (stamp_of (out_at side st).word)
      (omega (arith, s.early, h)) s.on

path_below : (config : Settings) (trace : List InputData) (path : List Settled) (t : ℕ) → t + length path ≤ length trace + 1
    → ((k : ℕ) → k < length path → (side : Side) → is_healthy_by_script side trace (t + k) ≡ true
    → Backed config trace (t + k) (get_or path k no_settled) side)
    → Below (config.sct + config.srvt) (oldest_from config trace t path)
unfolding oldest_from
path_below config trace [] t h backed = tt
path_below config trace (st ∷ path) t h backed =
    let here : t + 0 ≡ t = omega arith in
    let now : (side : Side) → is_healthy_by_script side trace t ≡ true → Backed config trace t st side =
    λ side. subst (λ (u : ℕ). is_healthy_by_script side trace u ≡ true
    → Backed config trace u st side) here (backed 0 (omega arith) side) in
    greatest_below (config.sct + config.srvt) (greatest (side_age config trace t st A) (side_age config trace t st B))
    (oldest_from config trace (t + 1) path)
    (greatest_below (config.sct + config.srvt) (side_age config trace t st A) (side_age config trace t st B)
    (side_below config trace t st A (omega arith) (now A)) (side_below config trace t st B (omega arith) (now B)))
    (path_below config trace path (t + 1) (omega arith) (λ k few side.
    let on : t + suc k ≡ t + 1 + k = omega arith in
    subst (λ (u : ℕ). is_healthy_by_script side trace u ≡ true
    → Backed config trace u (get_or path k no_settled) side) on (backed (suc k) (omega arith) side)))

pub oldest_is_below : (config : Settings) (trace : List InputData) (path : List Settled) → length path ≡ length trace
    → AreBacked config trace path
    → IfSome (oldest_age config trace path) (λ a. a ≤ config.sct + config.srvt)
oldest_is_below config trace path long backed = path_below config trace path 1 (omega arith) (λ k few side.
    let back : 1 + k - 1 ≡ k = omega arith in
    subst (λ (i : ℕ). is_healthy_by_script side trace (1 + k) ≡ true → Backed config trace (1 + k) (get_or path i no_settled) side) back
    (backed (1 + k) (omega arith) (omega arith) side))

-- ---- the oldest age is at least each

-- where the one is there, the other is and is not less
Above : Option ℕ → Option ℕ → Type 0
Above o whole = (x : ℕ) → o ≡ Some x → (a : ℕ) × (whole ≡ Some a) × (x ≤ a)

above_trans : (a b c : Option ℕ) → Above a b → Above b c → Above a c
unfolding Above
above_trans a b c h k x e = let m = h x e in let n = k m.0 m.1 in (n.0, n.1, omega (arith, m.2, n.2))

left : (a b : Option ℕ) → Above a (greatest a b)
unfolding Above
left None b x e = absurd (cc)
left (Some y) None x e = (x, e, omega arith)
left (Some y) (Some z) x e = go (leb y z) refl where
  same : y ≡ x
  same = cc

  go : (t : Bool) → leb y z ≡ t → (a : ℕ) × (Some (cond t z y) ≡ Some a) × (x ≤ a)
  go true k = (z, refl, (let l : y ≤ z = leb-true y z k in omega (arith, same, l)))
  go false k = (y, refl, omega (arith, same))

right : (a b : Option ℕ) → Above b (greatest a b)
unfolding Above
right None b x e = (x, e, omega arith)
right (Some y) None x e = absurd (cc)
right (Some y) (Some z) x e = go (leb y z) refl where
  same : z ≡ x
  same = cc

  go : (t : Bool) → leb y z ≡ t → (a : ℕ) × (Some (cond t z y) ≡ Some a) × (x ≤ a)
  go true k = (z, refl, omega (arith, same))
  go false k = (y, refl, (let l : z < y = leb-false y z k in omega (arith, same, l)))

each_above : (ids : List (Option ℕ)) (age : Option ℕ → Option ℕ) (k plain : ℕ) → get_or ids k None ≡ Some plain
    → Above (age (Some plain)) (greatest_of ids age)
each_above [] age k plain e = absurd (cc)
each_above (id ∷ ids) age zero plain e = subst (λ o. Above (age o) (greatest (age id) (greatest_of ids age))) e
    (left (age id) (greatest_of ids age))
each_above (id ∷ ids) age (suc k) plain e =
    above_trans (age (Some plain)) (greatest_of ids age) (greatest (age id) (greatest_of ids age)) (each_above ids age k plain e)
    (right (age id) (greatest_of ids age))

side_above : (config : Settings) (trace : List InputData) (t : ℕ) (st : Settled) (side : Side)
    → Above (side_age config trace t st side) (greatest (side_age config trace t st A) (side_age config trace t st B))
side_above config trace t st A = left (side_age config trace t st A) (side_age config trace t st B)
side_above config trace t st B = right (side_age config trace t st A) (side_age config trace t st B)

path_above : (config : Settings) (trace : List InputData) (path : List Settled) (t k : ℕ) (side : Side) → k < length path
    → Above (side_age config trace (t + k) (get_or path k no_settled) side) (oldest_from config trace t path)
unfolding oldest_from
path_above config trace [] t k side h = absurd (omega arith)
path_above config trace (st ∷ path) t zero side h =
    let here : t ≡ t + 0 = omega arith in
    let sides = greatest (side_age config trace t st A) (side_age config trace t st B) in
    let rest = oldest_from config trace (t + 1) path in
    subst (λ (u : ℕ). Above (side_age config trace u st side) (greatest sides rest)) here
    (above_trans (side_age config trace t st side) sides (greatest sides rest) (side_above config trace t st side) (left sides rest))
path_above config trace (st ∷ path) t (suc k) side h =
    let on : t + 1 + k ≡ t + suc k = omega arith in
    let sides = greatest (side_age config trace t st A) (side_age config trace t st B) in
    let rest = oldest_from config trace (t + 1) path in
    subst (λ (u : ℕ). Above (side_age config trace u (get_or path k no_settled) side) (greatest sides rest)) on
    (above_trans (side_age config trace (t + 1 + k) (get_or path k no_settled) side) rest (greatest sides rest)
    (path_above config trace path (t + 1) k side (omega arith)) (right sides rest))

oldest_above : (config : Settings) (trace : List InputData) (n j plain : ℕ) → get_or (identifiers config) j None ≡ Some plain
    → Above (age_at config trace n (Some plain)) (oldest_at config trace n)
unfolding oldest_at
oldest_above config trace n j plain named = each_above (identifiers config) (age_at config trace n) j plain named

pub all_true : (config : Settings) (trace : List InputData) (path : List Settled) → length path ≡ length trace → AreBacked config trace path
    → IsGenuine config trace → AllTrueWithin config trace path (oldest_age config trace path)
unfolding Above
all_true config trace path long backed genuine t some old on side healthy j plain named =
    let st : Settled = get_or path (t - 1) no_settled in
    let n = stamp_of (out_at side st).word in
    let powered : is_off st.power ≡ false = is_on st.power on in
    let s = stands config trace t st side powered (backed t some old side healthy) in
    let fits : n ≤ length trace = omega (arith, s.early, old, long) in
    let w = live_at config trace n j plain fits s.on named in
    let z = live-truth config trace j plain n w.0 genuine named fits w.2 in
    let this_side : side_age config trace t st side ≡ oldest_at config trace n = rw (powered, healthy) refl in
    let first : 1 + (t - 1) ≡ t = omega arith in
    let up : Above (side_age config trace t st side) (oldest_age config trace path) =
    subst (λ (u : ℕ). Above (side_age config trace u st side) (oldest_age config trace path)) first
    (path_above config trace path 1 (t - 1) side (omega arith)) in
    let m = oldest_above config trace n j plain named (n - z.first.tick) (age_is config trace n plain z.first z.second z.pair) in
    let a = up m.0 (this_side ∙ m.1) in (
      a.0,
      a.1,
      record {
        first = z.first;
        second = z.second;
        pair = z.pair;
        value = w.1 ∙ ap Some z.was;
        not_late = z.past;
        not_old = omega (arith, a.2, m.2, z.past);
      },
    )

-- ---- the source of a wrong pair

first_is_source : (a b c d e f : Bool) → IfSome (first_of a b c d e f) (λ j. j < SOURCES)
first_is_source true b c d e f = omega arith
first_is_source false true c d e f = omega arith
first_is_source false false true d e f = omega arith
first_is_source false false false true e f = omega arith
first_is_source false false false false true f = omega arith
first_is_source false false false false false true = omega arith
first_is_source false false false false false false = tt

of_source : (tick : ℕ) (place : Option ℕ) → IfSome place (λ j. j < SOURCES) → IfSome (wrong_by tick place) IsOfSource
of_source tick None h = tt
of_source tick (Some j) h = record { from = omega arith; to = omega (arith, h) }

or_of_source : (a b : Option Wrong) → IfSome a IsOfSource → IfSome b IsOfSource → IfSome (or_else a b) IsOfSource
or_of_source None b h k = k
or_of_source (Some a) b h k = h

named_in : (config : Settings) (trace : List InputData) (before xs : List Timed) → IfSome (first_wrong_in config trace before xs) IsOfSource
unfolding first_wrong_in
named_in config trace before [] = tt
named_in config trace before (y ∷ xs) = or_of_source (wrong_at config trace before y) (first_wrong_in config trace (before ++ y ∷ []) xs)
    (of_source y.tick (first_below SOURCES (ends_wrong config trace before y))
    (subst (λ o. IfSome o (λ j. j < SOURCES)) (sym (six_tests (ends_wrong config trace before y)))
    (first_is_source (ends_wrong config trace before y 0) (ends_wrong config trace before y 1) (ends_wrong config trace before y 2)
    (ends_wrong config trace before y 3) (ends_wrong config trace before y 4) (ends_wrong config trace before y 5))))
    (named_in config trace (before ++ y ∷ []) xs)

pub says_what_is : AuditsSayWhatIs
says_what_is config trace path long backed = record {
  named = named_in config trace [] (frames_from 1 trace);
  bound = oldest_is_below config trace path long backed;
  genuine = (genuine_if config trace, none_if config trace);
  within = λ none. all_true config trace path long backed (genuine_if config trace none);
}
