-- The machine looks at no faults of an input.
use Rattle.lift_base.specs.declared.wires.TheConstants.{RESET, PIT_RESET}
use Rattle.std.proofs.Common.{◌≡◌, ℕ, zero, suc, ◌+◌, ◌-◌, false, refl, ap, ◌∙◌, List, [], ◌∷◌, ◌++◌, length, take, map, Option, Some, None}
use Rattle.std.specs.Prelude.{◌||◌, ◌&&◌, filter, option_and_then}
use Rattle.std.proofs.lemmas.Bool.{true≢false}
use Rattle.lift_base.specs.declared.Override.TheVariants.{Keep}
use Rattle.lift_base.specs.declared.Phase.TheVariants.{Published}
use Rattle.lift_base.specs.declared.Side.TheVariants.{A, B}
use Rattle.lift_model.proofs.TickLemmas.{latched-same, row-same}
use Rattle.lift_model.specs.Grant.{facts_of, verdict_of, verdict_at_end, grant}
use Rattle.lift_model.specs.Latches.{is_pit_inspecting, is_good_for_pit_reset, is_pit_latched, is_door_stuck, are_doors_faulty}
use Rattle.lift_model.specs.Live.{Source, live_value, is_plain, is_inverted}
use Rattle.lift_model.specs.Records.{Settings, InputData, SideFaultData}
use Rattle.lift_model.specs.Ticks.{row, latched}
use Rattle.lift_model.specs.Trace.{frames_from, frames_of, value_at_end, words_of, identifiers, image_at_end}
use Rattle.lift_model.specs.Wires.{rises, has_contact_fault}
use Rattle.core_model.specs.Machine.{Channel, State, Event, Tick, Step, Exchange, with_side, told_at, commanded, published, sampled, does, next}
use Rattle.core_model.specs.Runs.{is_tick}
use Rattle.core_model.specs.Settling.{Settled}
use Rattle.core_model.specs.Words.{publish_word}
use Rattle.core_model.specs.declared.SideStep.{SideStep}
use Rattle.core_model.specs.declared.SideStep.TheVariants.{Fail, Sample, Publish, Look, Command, RoguePublish, RogueCommand, RogueContactor}

abbrev pub quiet : SideFaultData
quiet = record {
  fail = false;
  hold = false;
  exchange = false;
  publish = None;
  command = None;
  contactor = Keep;
  dismiss = false;
  give = None;
}

abbrev pub bare : InputData → InputData
bare input = record { frames = input.frames; words = input.words; truth = input.truth; faults = record { a = quiet; b = quiet } }

abbrev pub bares : List InputData → List InputData
bares [] = []
bares (x ∷ xs) = bare x ∷ bares xs

pub length-bares : (xs : List InputData) → length (bares xs) ≡ length xs
length-bares [] = refl
length-bares (x ∷ xs) = ap suc (length-bares xs)

pub bares-append : (xs ys : List InputData) → bares (xs ++ ys) ≡ bares xs ++ bares ys
bares-append [] ys = refl
bares-append (x ∷ xs) ys = ap (λ zs. bare x ∷ zs) (bares-append xs ys)

take-bares : (n : ℕ) (xs : List InputData) → take n (bares xs) ≡ bares (take n xs)
take-bares zero xs = refl
take-bares (suc n) [] = refl
take-bares (suc n) (x ∷ xs) = ap (λ zs. bare x ∷ zs) (take-bares n xs)

pub words-bares : (xs : List InputData) → words_of (bares xs) ≡ words_of xs
words-bares [] = refl
words-bares (x ∷ xs) = ap (λ ws. x.words ∷ ws) (words-bares xs)

frames-bares : (n : ℕ) (xs : List InputData) → frames_from n (bares xs) ≡ frames_from n xs
frames-bares n [] = refl
frames-bares n (x ∷ xs) = ap (λ fs. map (λ frame. record { frame = frame; tick = n }) x.frames ++ fs) (frames-bares (n + 1) xs)

value-bares : (config : Settings) (plain : ℕ) (xs : List InputData) → value_at_end config plain (bares xs) ≡ value_at_end config plain xs
value-bares config plain xs =
    let source : Source = record { plain = plain; sct = config.sct; srvt = config.srvt } in
    ap (λ fs. live_value source (filter (λ x. is_plain source x || is_inverted source x) fs) (length (bares xs))) (frames-bares 1 xs)
    ∙ ap (live_value source (frames_of source xs)) (length-bares xs)

values-bares : (config : Settings) (xs : List InputData) (ids : List (Option ℕ))
    → map (option_and_then (λ plain. value_at_end config plain (bares xs))) ids
    ≡ map (option_and_then (λ plain. value_at_end config plain xs)) ids
values-bares config xs [] = refl
values-bares config xs (None ∷ ids) = ap (λ vs. None ∷ vs) (values-bares config xs ids)
values-bares config xs (Some plain ∷ ids) = ap (λ v. v ∷ map (option_and_then (λ plain. value_at_end config plain (bares xs))) ids)
    (value-bares config plain xs) ∙ ap (λ vs. value_at_end config plain xs ∷ vs) (values-bares config xs ids)

image-bares : (config : Settings) (xs : List InputData) → image_at_end config (bares xs) ≡ image_at_end config xs
unfolding image_at_end
image-bares config xs = rw (values-bares config xs (identifiers config), words-bares xs, length-bares xs) refl

module _ (config : Settings) (xs : List InputData) where
  image_take : (u : ℕ) → image_at_end config (take u (bares xs)) ≡ image_at_end config (take u xs)
  image_take u = ap (image_at_end config) (take-bares u xs) ∙ image-bares config (take u xs)

  rises-bares : (w u : ℕ) → rises (words_of (bares xs)) w u ≡ rises (words_of xs) w u
  rises-bares w u = ap (λ ws. rises ws w u) (words-bares xs)

  pit-bares : is_pit_latched config (bares xs) ≡ is_pit_latched config xs
  unfolding is_pit_latched
  pit-bares =
      latched-same _ _ _ _ (length (bares xs)) (λ t a b. ap is_pit_inspecting (image_take t))
      (λ t a b. ap (λ r. r && is_good_for_pit_reset (image_at_end config (take t (bares xs)))) (rises-bares 10 t)
      ∙ ap (λ i. rises (words_of xs) PIT_RESET t && is_good_for_pit_reset i) (image_take t))
      ∙ ap (latched (λ u. is_pit_inspecting (image_at_end config (take u xs)))
      (λ u. rises (words_of xs) PIT_RESET u && is_good_for_pit_reset (image_at_end config (take u xs)))) (length-bares xs)

  doors-bares : are_doors_faulty config (bares xs) ≡ are_doors_faulty config xs
  unfolding are_doors_faulty
  doors-bares =
      latched-same _ _ _ _ (length (bares xs)) (λ t a b. row-same config.door _ _ t (λ u c d. ap is_door_stuck (image_take u)))
      (λ t a b. rises-bares RESET t)
      ∙ ap (latched (row config.door (λ t. is_door_stuck (image_at_end config (take t xs)))) (rises (words_of xs) RESET)) (length-bares xs)

  contact-bares : has_contact_fault config.disc (words_of (bares xs)) (length (bares xs))
      ≡ has_contact_fault config.disc (words_of xs) (length xs)
  contact-bares = ap (λ ws. has_contact_fault config.disc ws (length (bares xs))) (words-bares xs)
      ∙ ap (has_contact_fault config.disc (words_of xs)) (length-bares xs)

  facts-bares : facts_of config (bares xs) ≡ facts_of config xs
  facts-bares = rw (image-bares config xs, contact-bares, pit-bares, doors-bares) refl

verdict-bares : (config : Settings) (xs : List InputData) → verdict_at_end config (bares xs) ≡ verdict_at_end config xs
unfolding verdict_at_end
verdict-bares config [] = refl
verdict-bares config (x ∷ xs) = ap verdict_of (facts-bares config (x ∷ xs))

pub grant-bares : (config : Settings) (xs : List InputData) (n : ℕ) → grant config (bares xs) n ≡ grant config xs n
grant-bares config xs n = ap (verdict_at_end config) (take-bares n xs) ∙ verdict-bares config (take n xs)

-- ---- states

abbrev pub erase : State → State
erase s = record { trace = bares s.trace; path = s.path; a = s.a; b = s.b }

told-erase : (config : Settings) (xs : List InputData) (path : List Settled) (n seen : ℕ)
    → told_at config (bares xs) path n seen ≡ told_at config xs path n seen
told-erase config xs path n seen = rw (grant-bares config xs n, grant-bares config xs (n - 1), words-bares xs) refl

-- a step looks at no faults
does-erase : (config : Settings) (xs : List InputData) (path : List Settled) (peer : ℕ) (step : SideStep) (c : Channel)
    → does config (bares xs) path peer step c ≡ does config xs path peer step c
does-erase config xs path peer Fail c = refl
does-erase config xs path peer Sample c = ap (sampled c) (length-bares xs)
does-erase config xs path peer Publish c = ap (λ v. published c Published (publish_word c.stamp v)) (grant-bares config xs c.stamp)
does-erase config xs path peer Look c = refl
does-erase config xs path peer Command c = ap (commanded c) (told-erase config xs path c.stamp c.looked)
does-erase config xs path peer (RoguePublish word) c = refl
does-erase config xs path peer (RogueCommand word) c = refl
does-erase config xs path peer (RogueContactor order) c = refl

pub next-erase : (config : Settings) (s : State) (e : Event) → is_tick e ≡ false → next config (erase s) e ≡ erase (next config s e)
next-erase config s (Tick input) n = absurd (true≢false n)
next-erase config s (Step A step) n = ap (with_side A (erase s)) (does-erase config s.trace s.path s.b.publish step s.a)
next-erase config s (Step B step) n = ap (with_side B (erase s)) (does-erase config s.trace s.path s.a.publish step s.b)
next-erase config s (Exchange A) n = refl
next-erase config s (Exchange B) n = refl

pub tick-erase : (config : Settings) (s : State) (input : InputData)
    → next config (erase s) (Tick (bare input)) ≡ erase (next config s (Tick input))
tick-erase config s input = rw (length-bares s.trace, bares-append s.trace (input ∷ [])) refl
