-- The inputs so far and those to come, one tick on.
use Rattle.std.proofs.Common.{◌≡◌, ℕ, ◌+◌, ◌<◌, ◌≤◌, refl, sym, ap, ◌∙◌, add-one, List, [], ◌∷◌, ◌++◌, length, drop, if◌then◌else◌, Some}
use Rattle.std.specs.Prelude.{◌==◌, slice_get}
use Rattle.std.proofs.lemmas.List.{append_assoc, append-nil, drop_all}
use Rattle.std.proofs.lemmas.Option.{slice_get_within, get_or_from_slice_get}
use Rattle.std.proofs.Math.Seq.{drop-cons}
use Rattle.lift_model.specs.Records.{Settings, InputData, FrameData, FaultData}
use Rattle.core_model.specs.Schedule.{StepData}
use Rattle.script_model.specs.Judging.{ScriptData}
use Rattle.fault_plan.specs.Doing.{faults_in}
use Rattle.fault_plan.specs.Made.{inputs_with, inputs_reset, reset_made}
use Rattle.fault_plan.specs.declared.single.SingleFault.{SingleFault}
use Rattle.fault_plan.specs.declared.words.TickWords.{TickWords}

pub with_more : (words : List TickWords) (f : SingleFault) (trace made whole : List InputData) (n : ℕ) (x y : InputData)
    → Some x ≡ slice_get trace n → y ≡ record x { faults = faults_in words f (n + 1) }
    → made ++ inputs_with words f (n + 1) (drop n trace) ≡ whole
    → (made ++ y ∷ []) ++ inputs_with words f (n + 1 + 1) (drop (n + 1) trace) ≡ whole
unfolding inputs_with
with_more words f trace made whole n x y e is h =
    let few : n < length trace = slice_get_within trace n x (sym e) in
    let here : drop n trace ≡ x ∷ drop (n + 1) trace =
    drop-cons trace n x few ∙ (rw (get_or_from_slice_get trace n x x (sym e), add-one) refl) in
    append_assoc made (y ∷ []) (inputs_with words f (n + 1 + 1) (drop (n + 1) trace))
    ∙ (rw is (ap (λ xs. made ++ inputs_with words f (n + 1) xs) (sym here)) ∙ h)

pub with_end : (words : List TickWords) (f : SingleFault) (trace made whole : List InputData) (n : ℕ) → length trace ≤ n
    → made ++ inputs_with words f (n + 1) (drop n trace) ≡ whole → made ≡ whole
unfolding inputs_with
with_end words f trace made whole n h e = sym (append-nil made)
    ∙ (ap (λ xs. made ++ inputs_with words f (n + 1) xs) (sym none) ∙ e) where
      none : drop n trace ≡ []
      none = drop_all n trace h

pub reset_more : (r : ℕ) (trace made whole : List InputData) (n : ℕ) (x y : InputData)
    → Some x ≡ slice_get trace n → y ≡ (if n + 1 == r then record x { words = reset_made x.words } else x)
    → made ++ inputs_reset r (n + 1) (drop n trace) ≡ whole
    → (made ++ y ∷ []) ++ inputs_reset r (n + 1 + 1) (drop (n + 1) trace) ≡ whole
unfolding inputs_reset
reset_more r trace made whole n x y e is h =
    let few : n < length trace = slice_get_within trace n x (sym e) in
    let here : drop n trace ≡ x ∷ drop (n + 1) trace =
    drop-cons trace n x few ∙ (rw (get_or_from_slice_get trace n x x (sym e), add-one) refl) in
    append_assoc made (y ∷ []) (inputs_reset r (n + 1 + 1) (drop (n + 1) trace))
    ∙ (rw is (ap (λ xs. made ++ inputs_reset r (n + 1) xs) (sym here)) ∙ h)

pub reset_end : (r : ℕ) (trace made whole : List InputData) (n : ℕ) → length trace ≤ n
    → made ++ inputs_reset r (n + 1) (drop n trace) ≡ whole → made ≡ whole
unfolding inputs_reset
reset_end r trace made whole n h e = sym (append-nil made)
    ∙ (ap (λ xs. made ++ inputs_reset r (n + 1) xs) (sym none) ∙ e) where
      none : drop n trace ≡ []
      none = drop_all n trace h

-- an input that is put together anew, with other faults
pub made_of : (x : InputData) (a b : ℕ) (truth : List ℕ) (frames others : List FrameData) (faults now : FaultData)
    → record { frames = others; words = record { a = a; b = b }; truth = truth; faults = faults } ≡ x
    → frames ≡ others
    → ◌≡◌ {A = InputData} (record { frames = frames; words = record { a = a; b = b }; truth = truth; faults = now })
    (record x { faults = now })
made_of x a b truth frames others faults now h same = rw same (ap (λ (i : InputData). record i { faults = now }) h)

pub same_script : (s t : ScriptData) → s.config ≡ t.config → s.inputs ≡ t.inputs → s.steps ≡ t.steps → s ≡ t
same_script s t a b e =
    ap (λ (x : Settings). record { config = x; inputs = s.inputs; steps = s.steps }) a
    ∙ (ap (λ (x : List InputData). record { config = t.config; inputs = x; steps = s.steps }) b
    ∙ ap (λ (x : List StepData). record { config = t.config; inputs = t.inputs; steps = x }) e)
