-- One tick and one moment more.
use Rattle.std.proofs.Common.{◌≡◌, ◌+◌, ◌-◌, ◌<◌, ◌++◌, ◌∙◌, ℕ, List, [], ◌∷◌, length, take, slice_get, get_or, Some, sym, ap, subst, inl, inr, arith}
use Rattle.std.proofs.lemmas.Bool.{cases_lt}
use Rattle.std.proofs.lemmas.List.{get_or_append_left, get_or_push, length_push}
use Rattle.std.proofs.lemmas.Option.{get_or_from_slice_get, slice_get-get_or, slice_get_within}
use Rattle.grant_model.proofs.Taken.{take_got}
use Rattle.lift_model.specs.Records.{InputData}
use Rattle.lift_run.specs.Records.{RunData}
use Rattle.script_model.specs.Judging.{ScriptData}
use Rattle.ride_lanes.specs.Moments.{IsMoment}
use Rattle.ride_lanes.specs.declared.moments.Moment.{Moment}

pub one_more : (inputs : List InputData) (at : ℕ) (input : InputData) → Some input ≡ slice_get inputs (at + 1 - 1)
    → take (at + 1) inputs ≡ take at inputs ++ input ∷ []
one_more inputs at input got =
    let same : at ≡ at + 1 - 1 = omega arith in
    take_got inputs at input (ap (slice_get inputs) same ∙ sym got)

pub each_pushed : (script : ScriptData) (run : RunData) (moments : List Moment) (last : Moment)
    → ((i : ℕ) (moment : Moment) → slice_get moments i ≡ Some moment → IsMoment script run (i + 1) moment)
    → IsMoment script run (length moments + 1) last
    → (i : ℕ) (moment : Moment) → slice_get (moments ++ last ∷ []) i ≡ Some moment → IsMoment script run (i + 1) moment
each_pushed script run moments last each new i moment got =
    let here : get_or (moments ++ last ∷ []) i moment ≡ moment = get_or_from_slice_get (moments ++ last ∷ []) i moment moment got in
    elim (cases_lt i (length moments)) [
      | inl early ↦
          (let same : get_or moments i moment ≡ moment = sym (get_or_append_left moments (last ∷ []) moment i early) ∙ here in
          each i moment (slice_get-get_or moments i moment early ∙ ap Some same))
      | inr late ↦
          (let within : i < length (moments ++ last ∷ []) = slice_get_within (moments ++ last ∷ []) i moment got in
          let at : length moments ≡ i = omega (arith, length_push moments last, within, late) in
          let same : last ≡ moment = sym (get_or_push moments last moment i at) ∙ here in
          subst (λ n. IsMoment script run (n + 1) moment) at (subst (IsMoment script run (length moments + 1)) same new))
    ]
