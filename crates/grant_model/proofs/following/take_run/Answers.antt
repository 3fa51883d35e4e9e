use Rattle.std.proofs.Common.{◌≡◌, ℕ, ◌+◌, List, [], ◌∷◌, ◌++◌, length, take, slice_get, Some, sym, ap, ◌∙◌, subst, arith}
use Rattle.std.proofs.lemmas.List.{length-take-le, nil_from_length}
use Rattle.lift_model.specs.Records.{InputData}
use Rattle.grant_model.proofs.Taken.{take_got}
use Rattle.grant_model.proofs.following.take_run.Goals as goal

-- one tick more
one_more : (P : List InputData → Type 0) (inputs : List InputData) (n : ℕ) (x : InputData) → slice_get inputs n ≡ Some x
    → P (take n inputs ++ x ∷ []) → P (take (n + 1) inputs)
one_more P inputs n x got h = subst P (sym (take_got inputs n x got)) h

pub loop-tick-init : goal.loop-tick-init
loop-tick-init g c config inputs h a b all = h

pub loop-tick-preserved : goal.loop-tick-preserved
loop-tick-preserved g c config inputs h a b all =
    let n = c.loop-tick._tick in
    let x = c.args.input.now in
    let none : c.input.inside.frames ≡ [] = nil_from_length _ (sym c.len.ensures.value ∙ c.if-len-eq0.true) in
    one_more (g.F.Follower.stands c.pass.new.self config) inputs n x (all n c.loop-tick.auto._tick c.loop-tick-test.true)
    (c.pass.ensures config (take n inputs) x (ap (λ (i : InputData). i.frames) (sym c.input.view_is) ∙ none)
    (ap (λ (i : InputData). i.words) (sym c.input.view_is)) (c.loop-tick.invariant config inputs h a b all))

pub pass-requires : goal.pass-requires
pass-requires g c =
    let told = c.requires in
    let n = c.loop-tick._tick in
    let none : c.input.inside.frames ≡ [] = nil_from_length _ (sym c.len.ensures.value ∙ c.if-len-eq0.true) in
    let long : length (take n told.1) ≡ n = length-take-le n told.1 (omega (arith, c.loop-tick-test.true, told.4)) in (
      told.0,
      take n told.1,
      c.args.input.now,
      ap (λ (i : InputData). i.frames) (sym c.input.view_is) ∙ none,
      ap (λ (i : InputData). i.words) (sym c.input.view_is),
      c.loop-tick.invariant told.0 told.1 told.2 told.3 told.4 told.6,
      omega (arith, long, c.loop-tick-test.true, told.4, told.5),
    )

pub returns-after-loop-tick : goal.returns-after-loop-tick
returns-after-loop-tick g c config inputs h a b all =
    let end : c.loop-tick._tick ≡ c.args.end = omega (arith, c.loop-tick-test.false, a, c.loop-tick.auto._tick-end) in
    rw (← end) (c.loop-tick.invariant config inputs h a b all)

pub loop-tick-else-len-eq0-init : goal.loop-tick-else-len-eq0-init
loop-tick-else-len-eq0-init g c config inputs h a b all = h

pub take-requires : goal.take-requires
take-requires g c =
    let told = c.requires in
    let loop = c.loop-tick-else-len-eq0 in
    let long : length (take loop._tick told.1) ≡ loop._tick =
    length-take-le loop._tick told.1 (omega (arith, c.loop-tick-else-len-eq0-test.true, told.4)) in (
      told.0,
      take loop._tick told.1,
      loop.invariant told.0 told.1 told.2 told.3 told.4 told.6,
      omega (arith, long, c.loop-tick-else-len-eq0-test.true, told.4, told.5),
    )

pub loop-tick-else-len-eq0-preserved : goal.loop-tick-else-len-eq0-preserved
loop-tick-else-len-eq0-preserved g c config inputs h a b all =
    let loop = c.loop-tick-else-len-eq0 in
    one_more (g.F.Follower.stands c.take.new.self config) inputs loop._tick c.args.input.now
    (all loop._tick loop.auto._tick c.loop-tick-else-len-eq0-test.true)
    (c.take.ensures config (take loop._tick inputs) (loop.invariant config inputs h a b all))

pub returns-after-loop-tick-else-len-eq0 : goal.returns-after-loop-tick-else-len-eq0
returns-after-loop-tick-else-len-eq0 g c config inputs h a b all =
    let loop = c.loop-tick-else-len-eq0 in
    let end : loop._tick ≡ c.args.end = omega (arith, c.loop-tick-else-len-eq0-test.false, a, loop.auto._tick-end) in
    rw (← end) (loop.invariant config inputs h a b all)
