use Rattle.std.proofs.Common.{◌≡◌, ◌<◌, ◌≤◌, ◌+◌, ◌-◌, ℕ, [], ◌∷◌, ◌++◌, List, length, take, get_or, refl, sym, ap, ◌∙◌, subst, arith, Bool}
use Rattle.std.specs.Prelude.{◌&&◌, ◌||◌}
use Rattle.std.proofs.lemmas.List.{length_push, length-take-le}
use Rattle.lift_model.specs.Levelling.{has_moved, may_level}
use Rattle.lift_model.specs.Records.{Settings}
use Rattle.core_model.specs.Settling.{no_settled}
use Rattle.core_model.specs.Supplies.{GivenData, gated, given_at}
use Rattle.level_guard.specs.Given.{GivenSoFar}
use Rattle.level_guard.specs.Supplies.{SuppliesData}
use Rattle.level_guard.proofs.SupplyLemmas.{none_given, one_given, all_given, and_same, or_same, gate-next}
use Rattle.level_guard.proofs.asking.give.Goals as goal

pub loop-before-init : goal.loop-before-init
loop-before-init g c = record {
  room = refl;
  count = ap length c.requires.empty;
  guards = λ config a b.
      (let trace = c.args.trace.now.inputs in
      let path = c.args.path.now.settled in (
        a,
        b,
        subst (λ (given : List GivenData). GivenSoFar config trace path 0 given) (sym c.requires.empty)
            (none_given config trace path),
      ));
}

pub loop-before-preserved : goal.loop-before-preserved
loop-before-preserved g c =
    let trace = c.args.trace.now.inputs in
    let path = c.args.path.now.settled in
    let before = c.loop-before.before in
    let lt : before < length path = omega (arith, c.loop-before-test.true, c.len-before-end.ensures.value) in
    let lt' : before < length trace = omega (arith, lt, c.requires.inputs) in
    let pushed : c.push.new.self.given ≡ c.loop-before.supplies.given ++ c.gate.result ∷ [] =
    ap (λ (s : SuppliesData). s.given) c.push.ensures in
    record {
      room = ap (λ (s : SuppliesData). s.room) c.push.ensures ∙ c.loop-before.invariant.room;
      count = ap length pushed ∙ (length_push c.loop-before.supplies.given c.gate.result
          ∙ ap (λ (n : ℕ). n + 1) c.loop-before.invariant.count);
      guards = λ config a b.
          (let now = c.loop-before.invariant.guards config a b in
          let front = take before trace in
          let says_a = c.said_by.ensures config front now.0 in
          let says_b = c.said_by-in-loop-before.ensures config front now.1 in
          let level : c.both-said.result.level ≡ may_level config front =
          rw (c.both-said.ensures, says_a, says_b) (and_same (may_level config front)) in
          let moved : c.both-said.result.moved ≡ has_moved config front =
          rw (c.both-said.ensures, says_a, says_b) (or_same (has_moved config front)) in
          let back : before + 1 - 1 ≡ before = omega arith in
          let settled : c.get.result ≡ get_or path before no_settled =
          c.get.ensures ∙ ap (λ (n : ℕ). get_or path n no_settled) back in
          let given : c.gate.result ≡ given_at config trace (before + 1) (get_or path before no_settled) =
          c.gate.ensures ∙ (ap (λ s. gated s c.both-said.result.level c.both-said.result.moved) settled
          ∙ gate-next config trace before (get_or path before no_settled) c.both-said.result.level c.both-said.result.moved level
          moved) in (
            c.tick.ensures config before lt' now.0,
            c.tick-in-loop-before.ensures config before lt' now.1,
            subst (λ (given : List GivenData). GivenSoFar config trace path (before + 1) given) (sym pushed)
                (one_given config trace path before c.loop-before.supplies.given c.gate.result lt given now.2),
          ));
    }

pub returns : goal.returns
returns g c config a b =
    let now = c.loop-before.invariant.guards config a b in
    all_given config c.args.trace.now.inputs c.args.path.now.settled c.loop-before.before c.loop-before.supplies.given
    (omega (arith, c.loop-before-test.false, c.len-before-end.ensures.value)) now.2

pub tick-requires : goal.tick-requires
tick-requires g c =
    let told = c.requires.guards in
    let now = c.loop-before.invariant.guards told.0 told.1 told.2 in (
      told.0,
      c.loop-before.before,
      omega (arith, c.loop-before-test.true, c.len-before-end.ensures.value, c.requires.inputs),
      now.0,
    )
