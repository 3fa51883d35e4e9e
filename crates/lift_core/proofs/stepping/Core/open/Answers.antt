use Rattle.std.proofs.Common.{◌<◌, ◌^◌, [], ap, ◌∙◌, subst, ℕ}
use Rattle.lift_core.proofs.StepLemmas.{starts}
use Rattle.lift_core.proofs.stepping.Core.open.Goals as goal

pub invariant_of-result : goal.invariant_of-result
invariant_of-result g c =
    let ticks = c.most_ticks-ticks.ensures.value in (
      [],
      starts g.CA.Channel.stands g.CB.Channel.stands c.args.config c.in_ok-trace.trace c.in_ok-path.path c.new.result c.new-2.result
          (subst (λ (n : ℕ). n < 2 ^ 24) ticks c.most_ticks-ticks.ensures.small)
          (c.in_ok-trace.ensures ∙ ap (λ (n : ℕ). record { inputs = []; room = n }) ticks)
          (c.in_ok-path.ensures ∙ ap (λ (n : ℕ). record {
            settled = [];
            room =
                n;
          }) ticks) c.new.ensures c.new-2.ensures c.requires.a c.requires.b,
    )

pub returns : goal.returns
returns g c =
    let ticks = c.most_ticks-ticks.ensures.value in
    starts g.CA.Channel.stands g.CB.Channel.stands c.args.config c.in_ok-trace.trace c.in_ok-path.path c.new.result c.new-2.result
    (subst (λ (n : ℕ). n < 2 ^ 24) ticks c.most_ticks-ticks.ensures.small)
    (c.in_ok-trace.ensures ∙ ap (λ (n : ℕ). record { inputs = []; room = n }) ticks)
    (c.in_ok-path.ensures ∙ ap (λ (n : ℕ). record { settled = []; room = n }) ticks) c.new.ensures c.new-2.ensures c.requires.a c.requires.b
