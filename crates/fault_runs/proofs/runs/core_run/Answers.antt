use Rattle.std.proofs.Common.{◌≡◌, ◌≤◌, ◌+◌, ◌-◌, ◌++◌, ◌∙◌, [], ◌∷◌, length, take, slice_get, Some, refl, sym, ap, subst, arith}
use Rattle.std.proofs.lemmas.List.{take_all}
use Rattle.channel_masks.specs.StandsFor.{StandsFor as MaskStands}
use Rattle.channel_walker.specs.StandsFor.{StandsFor as WalkerStands}
use Rattle.grant_model.proofs.Taken.{take_got}
use Rattle.lift_core.specs.StandsFor.{StandsFor}
use Rattle.fault_runs.specs.Rounds.{words_at}
use Rattle.fault_runs.proofs.RoundLemmas.{IsSoFar, begun, ended, gone_on}
use Rattle.fault_runs.proofs.runs.core_run.Goals as goal

pub loop-before-init : goal.loop-before-init
loop-before-init c =
    let script = c.args.script.now in
    let core = c.in_ok-core.core in
    let h : StandsFor MaskStands WalkerStands core script.config [] =
    subst (λ config. StandsFor MaskStands WalkerStands core config []) c.config.ensures c.in_ok-core.ensures in
    record { config = c.in_ok-core.ensures.settings; so_far = rw c.new-words.ensures.items (begun script.config c.args.looks core h) }

pub loop-before-preserved : goal.loop-before-preserved
loop-before-preserved c =
    let script = c.args.script.now in
    let at = c.loop-before.before in
    let core = c.loop-before.core in
    let input = c.get-input.result.now in
    let so_far = c.loop-before.invariant.so_far in
    let same : at + 1 - 1 ≡ at = omega arith in
    let got : slice_get script.inputs at ≡ Some input = rw (sym c.trace-in-loop-before.ensures, sym same) (sym c.get-input.ensures) in
    let more : take (at + 1) script.inputs ≡ take at script.inputs ++ input ∷ [] = take_got script.inputs at input got in
    let later = gone_on script.config c.args.looks (take at script.inputs) c.loop-before.words.items core c.take_round.new.core input so_far
    c.in_ok-take_round.ensures.leads in
    record {
      config = c.take_round.ensures.config ∙ c.loop-before.invariant.config;
      so_far = rw (more, c.in_ok-push.ensures, c.tick_words.ensures) later;
    }

pub returns : goal.returns
returns c =
    let script = c.args.script.now in
    let so_far = c.loop-before.invariant.so_far in
    let core = c.loop-before.core in
    let long = ap (λ l. length l) c.trace.ensures in
    let at = c.loop-before.before in
    let many : length script.inputs ≤ at = omega (arith, long, c.len-before-end.ensures.value, c.loop-before-test.false) in
    let all : take at script.inputs ≡ script.inputs = take_all at script.inputs many in
    ended script.config c.args.looks script.inputs c.loop-before.words.items core c.into_path.result.settled c.into_path.ensures
    (subst (λ inputs. IsSoFar MaskStands WalkerStands script.config c.args.looks inputs c.loop-before.words.items core) all so_far)
