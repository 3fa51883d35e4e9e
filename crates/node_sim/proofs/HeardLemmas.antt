-- One frame more for what is kept of a source.
use Rattle.std.proofs.Common.{◌≡◌, ℕ, Bool, true, false, refl, sym, ◌∙◌, subst, cond, List, [], ◌∷◌, ◌++◌, reverse, Option, Some, None}
use Rattle.std.specs.Prelude.{◌&&◌, ◌==◌, not, filter, is_some, slice_get}
use Rattle.std.proofs.lemmas.Bool.{and_parts, true≢false, false_from_ne_true, or_right}
use Rattle.std.proofs.lemmas.List.{append-nil, reverse-append}
use Rattle.std.proofs.lemmas.List.Elements.{filter-append}
use Rattle.lift_model.specs.Bits.{or_else}
use Rattle.lift_model.specs.Live.{Timed, Source, is_plain, is_inverted, is_pair, front_pair, value_of, and_frame}
use Rattle.lift_model.specs.Records.{Settings}
use Rattle.lift_model.specs.Truth.{source_of}
use Rattle.node_sim.specs.Audited.{is_of, last_of, is_untrue, untrue_if, first_tick}
use Rattle.node_sim.specs.Heard.{ending, tells, word_of, Heard, HeardOf, HeardIf}
use Rattle.node_sim.specs.declared.listener.Listener.{Listener}

abbrev Pair : Type 0
Pair = Timed × Timed

pub inverted_in : (source : Source) (x y : Timed) → is_pair source x y ≡ true → is_inverted source y ≡ true
unfolding is_pair
inverted_in source x y h = (and_parts _ _ (and_parts _ _ (and_parts _ _ h).0).0).1

pub no_pair : (source : Source) (x y : Timed) → is_of source y ≡ false → is_pair source x y ≡ false
no_pair source x y h = false_from_ne_true (is_pair source x y) (λ e.
    true≢false (sym (or_right (is_plain source y) (is_inverted source y) (inverted_in source x y e)) ∙ h))

-- a frame of another source
pub not_its : (source : Source) (words : ℕ → ℕ) (frames : List Timed) (y : Timed) → is_of source y ≡ false
    → false ≡ is_untrue source words (last_of frames) y
not_its source words frames y h = go (last_of frames) where
  go : (o : Option Timed) → false ≡ is_untrue source words o y
  go None = refl
  go (Some x) = rw (no_pair source x y h) refl

pub same_frames : (source : Source) (frames : List Timed) (y : Timed) → is_of source y ≡ false → and_frame source frames y ≡ frames
same_frames source frames y h = rw h refl

pub one_more_frame : (source : Source) (frames : List Timed) (y : Timed) → is_of source y ≡ true
    → and_frame source frames y ≡ frames ++ y ∷ []
one_more_frame source frames y h = rw h refl

-- whether it is wrong
pub is_wrong_is : (source : Source) (words : ℕ → ℕ) (o : Option Timed) (y : Timed)
    → (is_some (ending source o y) && not (tells o (word_of words o))) ≡ is_untrue source words o y
is_wrong_is source words None y = refl
is_wrong_is source words (Some x) y = go (is_pair source x y) where
  go : (b : Bool) → (is_some (cond b (Some x.tick) None) && not (value_of x.frame == words x.tick))
      ≡ (b && not (value_of x.frame == words x.tick))
  go true = refl
  go false = refl

-- the tick of the pair that the newest two frames are, h having the newest first
ending_is : (source : Source) (h : List Timed) (y : Timed) → ending source (slice_get h 0) y ≡ first_tick (front_pair source (y ∷ h))
ending_is source [] y = refl
ending_is source (x ∷ h) y = go (is_pair source x y) where
  go : (b : Bool) → cond b (Some x.tick) None ≡ first_tick (cond {A = Option Pair} b (Some (x, y)) None)
  go true = refl
  go false = refl

or_tick : (a b : Option Pair) (p : Bool) → or_else (first_tick a) (cond p (first_tick b) None) ≡ first_tick (or_else a (cond p b None))
or_tick None b true = refl
or_tick None b false = refl
or_tick (Some x) b p = refl

backwards : (frames : List Timed) (y : Timed) → reverse (frames ++ y ∷ []) ≡ y ∷ reverse frames
backwards frames y = reverse-append frames (y ∷ [])

-- the source's frame joins
pub heard_more : (it new : Listener) (source : Source) (words : ℕ → ℕ) (frames : List Timed) (y : Timed) (word : ℕ)
    → Heard it source words frames
    → is_of source y ≡ true → word ≡ words y.tick
    → new.asked ≡ it.asked → new.newest ≡ Some y → new.word ≡ word → new.ended ≡ ending it.asked it.newest y
    → new.pair ≡ or_else (ending it.asked it.newest y) (cond (is_plain it.asked y) it.ended None)
    → Heard new source words (frames ++ y ∷ [])
heard_more it new source words frames y word h own told asked newest kept ended pair =
    let end : ending it.asked it.newest y ≡ first_tick (front_pair source (y ∷ reverse frames)) =
    rw (h.asked, h.newest) (ending_is source (reverse frames) y) in
    let back = backwards frames y in
    record {
      asked = asked ∙ h.asked;
      newest = newest ∙ (rw back refl);
      word = kept ∙ (told ∙ (rw back refl));
      ended = ended ∙ (end ∙ (rw back refl));
      pair = pair ∙ (rw (end, h.asked, h.ended, back)
          (or_tick (front_pair source (y ∷ reverse frames)) (front_pair source (reverse frames)) (is_plain source y)));
    }

-- ---- beside the frames of the other sources

pub filtered : (source : Source) (before : List Timed) (y : Timed)
    → and_frame source (filter (is_of source) before) y ≡ filter (is_of source) (before ++ y ∷ [])
filtered source before y = sym (filter-append (is_of source) before (y ∷ []) ∙ go (is_of source y)) where
  go : (b : Bool) → filter (is_of source) before ++ cond b (y ∷ []) []
      ≡ cond b (filter (is_of source) before ++ y ∷ []) (filter (is_of source) before)
  go true = refl
  go false = append-nil (filter (is_of source) before)

abbrev pub Steps : Listener → Listener → Timed → ℕ → Bool → Type 0
Steps old new y word wrong = (source : Source) (words : ℕ → ℕ) (frames : List Timed) → Heard old source words frames → word ≡ words y.tick
    → (wrong ≡ is_untrue source words (last_of frames) y) × Heard new source words (and_frame source frames y)

pub step_of : (old new : Listener) (y : Timed) (word : ℕ) (wrong : Bool) → Steps old new y word wrong
    → (config : Settings) (plain : ℕ) (words : ℕ → ℕ) (before : List Timed) → HeardOf old config plain words before → word ≡ words y.tick
    → (wrong ≡ untrue_if config words before y (Some plain)) × HeardOf new config plain words (before ++ y ∷ [])
step_of old new y word wrong step config plain words before h e =
    let source = source_of config plain in
    let w = step source words (filter (is_of source) before) h e in
    (w.0, subst (Heard new source words) (filtered source before y) w.1)

pub step_if : (old new : Listener) (y : Timed) (word : ℕ) (wrong : Bool) → Steps old new y word wrong
    → (config : Settings) (plain : Option ℕ) (words : ℕ → ℕ) (before : List Timed) → HeardIf (Some old) config plain words before
    → word ≡ words y.tick
    → (wrong ≡ untrue_if config words before y plain) × HeardIf (Some new) config plain words (before ++ y ∷ [])
step_if old new y word wrong step config None words before h e = absurd h
step_if old new y word wrong step config (Some plain) words before h e = step_of old new y word wrong step config plain words before h e

pub heard_asked : (it : Listener) (plain sct srvt : ℕ) (config : Settings) (words : ℕ → ℕ) → sct ≡ config.sct → srvt ≡ config.srvt
    → Heard it (record { plain = plain; sct = sct; srvt = srvt }) words [] → HeardOf it config plain words []
heard_asked it plain sct srvt config words e f h = rw (← e, ← f) h
