-- What is wrong first, as frames come one after another; and what is oldest.
use Rattle.std.proofs.Common.{◌≡◌, ℕ, ◌+◌, ◌<◌, Bool, true, false, refl, sym, ap, ◌∙◌, cond, List, [], ◌∷◌, ◌++◌, length, map, take, get_or, Option, Some, None}
use Rattle.std.proofs.lemmas.List.{append_assoc, append-nil, map-append, take_more}
use Rattle.lift_base.specs.declared.TheConstants.{SOURCES}
use Rattle.lift_model.specs.Bits.{first_below, or_else}
use Rattle.lift_model.specs.Live.{Timed}
use Rattle.lift_model.specs.Records.{Settings, InputData, FrameData}
use Rattle.lift_model.specs.Trace.{frames_from}
use Rattle.lift_model.specs.Truth.{true_word}
use Rattle.node_sim.specs.Audited.{at_tick, untrue_if, ends_wrong, wrong_at, first_wrong_in, age_of, age_at, greatest, oldest_at}
use Rattle.node_sim.specs.Heard.{HeardOf}
use Rattle.node_sim.specs.Hearing.{first_of}
use Rattle.node_sim.specs.declared.listener.Listener.{Listener}

pub six_tests : (p : ℕ → Bool) → first_below 6 p ≡ first_of (p 0) (p 1) (p 2) (p 3) (p 4) (p 5)
unfolding first_below
six_tests p = go (p 0) (p 1) (p 2) (p 3) (p 4) (p 5) where
  none : Option ℕ
  none = None

  go : (a b c d e f : Bool)
      → or_else (or_else (or_else (or_else (or_else (or_else None (cond a (Some 0) None)) (cond b (Some 1) None)) (cond c (Some 2) None))
      (cond d (Some 3) None)) (cond e (Some 4) None)) (cond f (Some 5) None)
      ≡ first_of a b c d e f
  go true b c d e f = refl
  go false true c d e f = refl
  go false false true d e f = refl
  go false false false true e f = refl
  go false false false false true f = refl
  go false false false false false true = refl
  go false false false false false false = refl

-- the first source whose pair is wrong
pub first_source : (config : Settings) (trace : List InputData) (before : List Timed) (y : Timed) (a b c d e f : Bool)
    → a ≡ untrue_if config (true_word trace 0) before y (Some config.roof)
    → b ≡ untrue_if config (true_word trace 1) before y (Some config.pit)
    → c ≡ untrue_if config (true_word trace 2) before y config.car → d ≡ untrue_if config (true_word trace 3) before y (Some config.doors)
    → e ≡ untrue_if config (true_word trace 4) before y (Some config.panel)
    → f ≡ untrue_if config (true_word trace 5) before y config.platform
    → first_of a b c d e f ≡ first_below SOURCES (ends_wrong config trace before y)
first_source config trace before y a b c d e f ea eb ec ed ee ef =
    rw (ea, eb, ec, ed, ee, ef) (sym (six_tests (ends_wrong config trace before y)))

or_assoc : {X : Type 0} (a b c : Option X) → or_else (or_else a b) c ≡ or_else a (or_else b c)
or_assoc None b c = refl
or_assoc (Some a) b c = refl

or_none : {X : Type 0} (a : Option X) → or_else a None ≡ a
or_none None = refl
or_none (Some a) = refl

pub first_wrong-append : (config : Settings) (trace : List InputData) (before xs ys : List Timed)
    → first_wrong_in config trace before (xs ++ ys)
    ≡ or_else (first_wrong_in config trace before xs) (first_wrong_in config trace (before ++ xs) ys)
unfolding first_wrong_in
first_wrong-append config trace before [] ys = rw (append-nil before) refl
first_wrong-append config trace before (x ∷ xs) ys =
    ap (or_else (wrong_at config trace before x)) (first_wrong-append config trace (before ++ x ∷ []) xs ys)
    ∙ (rw (append_assoc before (x ∷ []) xs)
    (sym (or_assoc (wrong_at config trace before x) (first_wrong_in config trace (before ++ x ∷ []) xs)
    (first_wrong_in config trace (before ++ x ∷ xs) ys))))

pub first_wrong-one : (config : Settings) (trace : List InputData) (before : List Timed) (y : Timed)
    → first_wrong_in config trace before (y ∷ []) ≡ wrong_at config trace before y
unfolding first_wrong_in
first_wrong-one config trace before y = or_none (wrong_at config trace before y)

pub first_wrong-none : (config : Settings) (trace : List InputData) (before : List Timed) → first_wrong_in config trace before [] ≡ None
unfolding first_wrong_in
first_wrong-none config trace before = refl

-- the frames of a tick, one more
pub map_more : (t : ℕ) (frames : List FrameData) (k : ℕ) (x : FrameData) → k < length frames → x ≡ get_or frames k x
    → map (at_tick t) (take (k + 1) frames) ≡ map (at_tick t) (take k frames) ++ at_tick t x ∷ []
map_more t frames k x h e =
    ap (map (at_tick t)) (take_more frames k x h) ∙ (map-append (at_tick t) (take k frames) (get_or frames k x ∷ [])
    ∙ ap (λ (z : FrameData). map (at_tick t) (take k frames) ++ at_tick t z ∷ []) (sym e))

pub wrong_more : (config : Settings) (trace : List InputData) (before : List Timed) (t : ℕ) (frames : List FrameData) (k : ℕ)
    (x : FrameData)
    → k < length frames → x ≡ get_or frames k x
    → first_wrong_in config trace before (map (at_tick t) (take (k + 1) frames))
    ≡ or_else (first_wrong_in config trace before (map (at_tick t) (take k frames)))
    (wrong_at config trace (before ++ map (at_tick t) (take k frames)) (at_tick t x))
wrong_more config trace before t frames k x h e =
    ap (first_wrong_in config trace before) (map_more t frames k x h e)
    ∙ (first_wrong-append config trace before (map (at_tick t) (take k frames)) (at_tick t x ∷ [])
    ∙ ap (or_else (first_wrong_in config trace before (map (at_tick t) (take k frames))))
    (first_wrong-one config trace (before ++ map (at_tick t) (take k frames)) (at_tick t x)))

-- ---- ages

pub age_of_heard : (it : Listener) (config : Settings) (plain : ℕ) (words : ℕ → ℕ) (trace : List InputData) (n : ℕ)
    → HeardOf it config plain words (frames_from 1 (take n trace)) → age_of n it.pair ≡ age_at config trace n (Some plain)
age_of_heard it config plain words trace n h = ap (age_of n) h.pair

pub oldest_is : (config : Settings) (trace : List InputData) (n : ℕ)
    → greatest (age_at config trace n (Some config.roof)) (greatest (age_at config trace n (Some config.pit))
    (greatest (age_at config trace n config.car) (greatest (age_at config trace n (Some config.doors))
    (greatest (age_at config trace n (Some config.panel)) (greatest (age_at config trace n config.platform) None)))))
    ≡ oldest_at config trace n
unfolding oldest_at
oldest_is config trace n = refl
