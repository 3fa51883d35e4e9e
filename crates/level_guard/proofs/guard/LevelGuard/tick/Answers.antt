use Rattle.std.proofs.Common.{◌≡◌, ◌<◌, ◌≤◌, ℕ, ◌+◌, ◌-◌, [], ◌∷◌, ◌++◌, List, take, slice_get, Some, sym, ap, ◌∙◌, subst, arith}
use Rattle.std.proofs.lemmas.List.{length-take-le}
use Rattle.lift_model.specs.Records.{InputData}
use Rattle.grant_model.proofs.Taken.{take_got}
use Rattle.level_guard.specs.StandsFor.{Parts, StandsFor}
use Rattle.level_guard.proofs.guard.LevelGuard.tick.Goals as goal

pub returns : goal.returns
returns g c config at lt h =
    let inputs = c.args.trace.now.inputs in
    let x = c.get-input.result.now in
    let taken = take at inputs in
    let here : c.at-n.result ≡ at =
    c.at-n.ensures config taken h.parts.channel ∙ length-take-le at inputs (omega (arith, lt)) in
    let got : slice_get inputs at ≡ Some x =
    ap (slice_get inputs) (let e : at ≡ c.at-n.result + 1 - 1 = omega (arith, here) in e) ∙ sym c.get-input.ensures in
    let more : take (at + 1) inputs ≡ taken ++ x ∷ [] = take_got inputs at x got in
    let next : c.at-n.result + 1 ≡ at + 1 = omega (arith, here) in
    let le : at ≤ c.at-n.result + 1 = omega (arith, here) in
    let caught = c.catch_up.ensures config at le h.parts.channel in
    let channel : g.H.Channel.stands c.catch_up.new.self config (taken ++ x ∷ []) =
    subst (g.H.Channel.stands c.catch_up.new.self config) (ap (λ n. take n inputs) next ∙ more) caught in
    let Done : List InputData → Type 0 = λ later. StandsFor g.H.Channel.stands g.C.Consumer.stands c.judge.new.self config later in
    subst Done (sym more) (c.judge.ensures config taken x (sym (ap (λ (i : InputData). i.words) c.input.view_is))
    (record {
      channel = channel;
      doors = c.take.ensures config config.doors taken h.parts.doors;
      platform = c.take_if.ensures config config.platform taken h.parts.platform;
      there = h.parts.there;
    }) (record { in_zone = h.told.in_zone; moved = h.told.moved; level = h.told.level }))
