-- What the producers send at a tick are the frames of that tick, one tick after another.
use Rattle.std.proofs.Common.{◌≡◌, ◌≢◌, ℕ, ◌+◌, ◌-◌, ◌<◌, ◌≤◌, false, refl, sym, ap, ◌∙◌, arith, inl, inr, cond, add-one, List, [], ◌∷◌, ◌++◌, length, drop, get_or, Option, Some, None}
use Rattle.std.specs.Prelude.{◌==◌, slice_get, option_map, option_and_then}
use Rattle.std.proofs.lemmas.Bool.{cases_lt, ne_eqb}
use Rattle.std.proofs.lemmas.List.{append_assoc, append-nil, get_or-map, drop_all}
use Rattle.std.proofs.lemmas.Option.{slice_get_within, get_or_from_slice_get}
use Rattle.std.proofs.Math.Seq.{drop-cons}
use Rattle.lift_base.specs.declared.sources.TheConstants.{ROOF, PIT, CAR, DOORS, PANEL, PLATFORM}
use Rattle.lift_model.specs.Records.{Settings, InputData, FrameData, FaultData}
use Rattle.lift_model.specs.Trace.{identifiers}
use Rattle.lift_model.specs.Truth.{true_word}
use Rattle.script_model.specs.Faults.{no_faults}
use Rattle.script_model.specs.Judging.{ScriptData}
use Rattle.core_model.specs.Schedule.{StepData}
use Rattle.node_sim.proofs.Recent.{too_early}
use Rattle.node_sim.specs.Produced.{is_due, frame_due, given, frames_due, produced_from}
use Rattle.node_sim.specs.Producing.{ProducerData, next_frame, one_on}
use Rattle.node_sim.specs.Standing.{after_ticks}

-- what the source with index i sends at tick n
abbrev pub sends : ℕ → List InputData → ℕ → ℕ → ℕ → Option FrameData
sends cycle trace n i plain = frame_due cycle (i + 1) plain n (true_word trace i n) (true_word trace i (n - 1))

-- where no inverted frame is due, the word before is not looked at
no_inverse : (cycle j plain n now b c : ℕ) → is_due cycle j (n - 1) ≡ false
    → frame_due cycle j plain n now b ≡ frame_due cycle j plain n now c
no_inverse cycle j plain n now b c h = rw h refl

pub sends_next : (cycle : ℕ) (trace : List InputData) (n i plain truth : ℕ) → truth ≡ true_word trace i (n + 1)
    → next_frame (after_ticks cycle trace n i plain) truth ≡ sends cycle trace (n + 1) i plain
sends_next cycle trace n i plain truth e =
    ap (λ w. frame_due cycle (i + 1) plain (n + 1) w (cond (n == 0) 0 (true_word trace i n))) e
    ∙ elim (cases_lt 0 n) [
      | inl l ↦
          (let not_first : n ≢ 0 = λ x. omega arith in
          let back : n ≡ n + 1 - 1 = omega arith in
          let word : cond (n == 0) 0 (true_word trace i n) ≡ true_word trace i (n + 1 - 1) =
          ap (λ b. cond b 0 (true_word trace i n)) (ne_eqb n 0 not_first) ∙ ap (true_word trace i) back in
          ap (frame_due cycle (i + 1) plain (n + 1) (true_word trace i (n + 1))) word)
      | inr l ↦
          no_inverse cycle (i + 1) plain (n + 1) (true_word trace i (n + 1)) (cond (n == 0) 0 (true_word trace i n))
          (true_word trace i (n + 1 - 1))
          (too_early cycle (i + 1) (n + 1 - 1) (omega arith))
    ]

pub one_more : (cycle : ℕ) (trace : List InputData) (n i plain truth : ℕ) → truth ≡ true_word trace i (n + 1)
    → one_on (after_ticks cycle trace n i plain) truth ≡ after_ticks cycle trace (n + 1) i plain
one_more cycle trace n i plain truth e = rw (ne_eqb (n + 1) 0 (λ x. omega arith), e) refl

pub sends_next_if : (cycle : ℕ) (trace : List InputData) (n i truth : ℕ) (plain : Option ℕ) → truth ≡ true_word trace i (n + 1)
    → option_and_then (λ p. next_frame p truth) (option_map (after_ticks cycle trace n i) plain)
    ≡ option_and_then (sends cycle trace (n + 1) i) plain
sends_next_if cycle trace n i truth None e = refl
sends_next_if cycle trace n i truth (Some plain) e = sends_next cycle trace n i plain truth e

pub one_more_if : (cycle : ℕ) (trace : List InputData) (n i truth : ℕ) (plain : Option ℕ) → truth ≡ true_word trace i (n + 1)
    → option_map (λ p. one_on p truth) (option_map (after_ticks cycle trace n i) plain)
    ≡ option_map (after_ticks cycle trace (n + 1) i) plain
one_more_if cycle trace n i truth None e = refl
one_more_if cycle trace n i truth (Some plain) e = ap Some (one_more cycle trace n i plain truth e)

-- the frames of a tick, source by source
pub in_order : (config : Settings) (cycle : ℕ) (trace : List InputData) (n : ℕ)
    → ((((([] ++ given (sends cycle trace n ROOF config.roof)) ++ given (sends cycle trace n PIT config.pit))
    ++ given (option_and_then (sends cycle trace n CAR) config.car)) ++ given (sends cycle trace n DOORS config.doors))
    ++ given (sends cycle trace n PANEL config.panel)) ++ given (option_and_then (sends cycle trace n PLATFORM) config.platform)
    ≡ frames_due cycle trace n 0 (identifiers config)
unfolding frames_due
in_order config cycle trace n = go config.car config.platform where
  go : (car platform : Option ℕ)
      → ((((([] ++ given (sends cycle trace n ROOF config.roof)) ++ given (sends cycle trace n PIT config.pit))
      ++ given (option_and_then (sends cycle trace n CAR) car)) ++ given (sends cycle trace n DOORS config.doors))
      ++ given (sends cycle trace n PANEL config.panel)) ++ given (option_and_then (sends cycle trace n PLATFORM) platform)
      ≡ frames_due cycle trace n 0 (Some config.roof ∷ Some config.pit ∷ car ∷ Some config.doors ∷ Some config.panel ∷ platform ∷ [])
  go None None = simp (append_assoc, append-nil)
  go None (Some platform) = simp (append_assoc, append-nil)
  go (Some car) None = simp (append_assoc, append-nil)
  go (Some car) (Some platform) = simp (append_assoc, append-nil)

-- the true word of a tick
pub word_is : (trace : List InputData) (n i : ℕ) (x : InputData) → Some x ≡ slice_get trace n
    → get_or x.truth i 0 ≡ true_word trace i (n + 1)
word_is trace n i x e =
    let back : n + 1 - 1 ≡ n = omega arith in
    let few : n < length trace = slice_get_within trace n x (sym e) in
    rw back (sym (get_or-map (λ (input : InputData). get_or input.truth i 0) trace n x 0 few
    ∙ ap (λ (input : InputData). get_or input.truth i 0) (get_or_from_slice_get trace n x x (sym e))))

-- the inputs so far and those to come, one tick on
pub produced_more : (cycle : ℕ) (ids : List (Option ℕ)) (trace made whole : List InputData) (n : ℕ) (x y : InputData)
    → Some x ≡ slice_get trace n
    → y ≡ record { frames = frames_due cycle trace (n + 1) 0 ids; words = x.words; truth = x.truth; faults = no_faults }
    → made ++ produced_from cycle ids trace (n + 1) (drop n trace) ≡ whole
    → (made ++ y ∷ []) ++ produced_from cycle ids trace (n + 1 + 1) (drop (n + 1) trace) ≡ whole
unfolding produced_from
produced_more cycle ids trace made whole n x y e is h =
    let few : n < length trace = slice_get_within trace n x (sym e) in
    let here : drop n trace ≡ x ∷ drop (n + 1) trace =
    drop-cons trace n x few ∙ (rw (get_or_from_slice_get trace n x x (sym e), add-one) refl) in
    append_assoc made (y ∷ []) (produced_from cycle ids trace (n + 1 + 1) (drop (n + 1) trace))
    ∙ (rw is (ap (λ xs. made ++ produced_from cycle ids trace (n + 1) xs) (sym here)) ∙ h)

pub produced_end : (cycle : ℕ) (ids : List (Option ℕ)) (trace made whole : List InputData) (n : ℕ) → length trace ≤ n
    → made ++ produced_from cycle ids trace (n + 1) (drop n trace) ≡ whole → made ≡ whole
unfolding produced_from
produced_end cycle ids trace made whole n h e = sym (append-nil made)
    ∙ (ap (λ xs. made ++ produced_from cycle ids trace (n + 1) xs) (sym none) ∙ e) where
      none : drop n trace ≡ []
      none = drop_all n trace h

pub sent : (cycle : ℕ) (trace : List InputData) (n i plain : ℕ) (p : ProducerData) (truth : ℕ) (f : Option FrameData)
    → f ≡ next_frame p truth
    → p ≡ after_ticks cycle trace n i plain → truth ≡ true_word trace i (n + 1) → f ≡ sends cycle trace (n + 1) i plain
sent cycle trace n i plain p truth f a b e = a ∙ (ap (λ p. next_frame p truth) b ∙ sends_next cycle trace n i plain truth e)

pub sent_if : (cycle : ℕ) (trace : List InputData) (n i : ℕ) (plain : Option ℕ) (p : Option ProducerData) (truth : ℕ) (f : Option FrameData)
    → f ≡ option_and_then (λ p. next_frame p truth) p
    → p ≡ option_map (after_ticks cycle trace n i) plain → truth ≡ true_word trace i (n + 1)
    → f ≡ option_and_then (sends cycle trace (n + 1) i) plain
sent_if cycle trace n i plain p truth f a b e = a
    ∙ (ap (option_and_then (λ p. next_frame p truth)) b ∙ sends_next_if cycle trace n i truth plain e)

pub went_on : (cycle : ℕ) (trace : List InputData) (n i plain : ℕ) (p q : ProducerData) (truth : ℕ) → q ≡ one_on p truth
    → p ≡ after_ticks cycle trace n i plain → truth ≡ true_word trace i (n + 1) → q ≡ after_ticks cycle trace (n + 1) i plain
went_on cycle trace n i plain p q truth a b e = a ∙ (ap (λ p. one_on p truth) b ∙ one_more cycle trace n i plain truth e)

pub went_on_if : (cycle : ℕ) (trace : List InputData) (n i : ℕ) (plain : Option ℕ) (p q : Option ProducerData) (truth : ℕ)
    → q ≡ option_map (λ p. one_on p truth) p
    → p ≡ option_map (after_ticks cycle trace n i) plain → truth ≡ true_word trace i (n + 1)
    → q ≡ option_map (after_ticks cycle trace (n + 1) i) plain
went_on_if cycle trace n i plain p q truth a b e = a ∙ (ap (option_map (λ p. one_on p truth)) b ∙ one_more_if cycle trace n i truth plain e)

-- an input that is put together anew
pub made_of : (x : InputData) (a b : ℕ) (truth : List ℕ) (frames others : List FrameData) (faults now : FaultData)
    → record { frames = others; words = record { a = a; b = b }; truth = truth; faults = faults } ≡ x
    → (due : List FrameData) → frames ≡ due → now ≡ no_faults
    → ◌≡◌ {A = InputData} (record { frames = frames; words = record { a = a; b = b }; truth = truth; faults = now })
    (record { frames = due; words = x.words; truth = x.truth; faults = no_faults })
made_of x a b truth frames others faults now h due f e =
    rw (f, e) (ap (λ (i : InputData). record { frames = due; words = i.words; truth = i.truth; faults = no_faults }) h)

pub same_script : (s t : ScriptData) → s.config ≡ t.config → s.inputs ≡ t.inputs → s.steps ≡ t.steps → s ≡ t
same_script s t a b e =
    ap (λ (x : Settings). record { config = x; inputs = s.inputs; steps = s.steps }) a
    ∙ (ap (λ (x : List InputData). record { config = t.config; inputs = x; steps = s.steps }) b
    ∙ ap (λ (x : List StepData). record { config = t.config; inputs = t.inputs; steps = x }) e)
