use Rattle.std.proofs.Common.{◌≡◌, ℕ, ◌++◌, ◌∷◌, [], sym, ap, ◌∙◌, subst, List, map, take, get_or, length, ◌<◌}
use Rattle.std.proofs.lemmas.List.{append_assoc, append-nil, take_all}
use Rattle.lift_model.specs.Records.{InputData, FrameData}
use Rattle.lift_model.specs.Truth.{true_word}
use Rattle.node_sim.specs.Audited.{at_tick, first_wrong_in}
use Rattle.node_sim.specs.Hearing.{Hears}
use Rattle.node_sim.proofs.WrongLemmas.{first_wrong-none, wrong_more, map_more}
use Rattle.node_sim.proofs.listeners.Listeners.take_tick.Goals as goal

pub loop-frame-init : goal.loop-frame-init
loop-frame-init c config trace before h words =
    (sym (first_wrong-none config trace before), subst (Hears c.args.self.now config trace) (sym (append-nil before)) h)

pub loop-frame-preserved : goal.loop-frame-preserved
loop-frame-preserved c config trace before h words =
    let items : List FrameData = c.as_slice-frame-items.result.now in
    let k : ℕ = c.loop-frame.frame-index in
    let t : ℕ = c.args.tick in
    let x : FrameData = c.frame-item.result in
    let w = c.loop-frame.invariant config trace before h words in
    let s = c.take-next.ensures config trace (before ++ map (at_tick t) (take k items)) w.1 words in
    let few : k < length items = c.loop-frame-test.true in (
      c.first_wrong-wrong.ensures ∙ (rw (w.0, s.0) (sym (wrong_more config trace before t items k x few c.frame-item.is))),
      subst (Hears c.take-next.new.self config trace)
          (append_assoc before (map (at_tick t) (take k items)) (at_tick t x ∷ [])
          ∙ ap (λ xs. before ++ xs) (sym (map_more t items k x few c.frame-item.is))) s.1,
    )

pub returns : goal.returns
returns c config trace before h words =
    let items : List FrameData = c.as_slice-frame-items.result.now in
    let all : take c.loop-frame.frame-index items ≡ c.args.input.now.frames =
    take_all c.loop-frame.frame-index items c.loop-frame-test.false
    ∙ (c.as_slice-frame-items.ensures.value ∙ ap (λ (i : InputData). i.frames) c.input.view_is) in
    let words : (i : ℕ) → get_or c.input.inside.truth i 0 ≡ true_word trace i c.args.tick =
    λ i. ap (λ (v : InputData). get_or v.truth i 0) c.input.view_is ∙ words i in
    let w = c.loop-frame.invariant config trace before h words in (
      w.0 ∙ ap (λ xs. first_wrong_in config trace before (map (at_tick c.args.tick) xs)) all,
      subst (λ xs. Hears c.loop-frame.self config trace (before ++ map (at_tick c.args.tick) xs)) all w.1,
    )
