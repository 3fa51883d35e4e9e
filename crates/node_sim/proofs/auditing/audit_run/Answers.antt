use Rattle.std.proofs.Common.{ℕ, ◌≡◌, ◌+◌, ◌-◌, ◌<◌, ◌≤◌, [], Some, refl, sym, ap, ◌∙◌, subst, arith, length, take, get_or, List, true}
use Rattle.std.specs.Prelude.{slice_get}
use Rattle.std.proofs.lemmas.List.{length-take-le, take_all}
use Rattle.lift_model.specs.Enums.{A, B, Side}
use Rattle.lift_model.specs.Records.{Settings, InputData}
use Rattle.lift_model.specs.Trace.{frames_from}
use Rattle.core_model.specs.Backed.{Backed}
use Rattle.core_model.specs.Settling.{Settled, no_settled}
use Rattle.round_model.specs.Parts.{is_healthy_by_script}
use Rattle.node_sim.specs.Audited.{oldest_at, side_age, first_wrong_in, first_wrong_pair, oldest_age, unhealthy_ticks}
use Rattle.node_sim.specs.Hearing.{Hears}
use Rattle.node_sim.proofs.AuditLemmas.{next_frames, failed_next, side_age_is, oldest_more, oldest_end, unhealthy_is, unhealthy_more, unhealthy_end, wrong_next, at_most_one, none_at_start}
use Rattle.node_sim.proofs.WrongLemmas.{first_wrong-none}
use Rattle.node_sim.proofs.TickFrames.{word_is}
use Rattle.node_sim.proofs.auditing.audit_run.Goals as goal

pub loop-n-init : goal.loop-n-init
loop-n-init c =
    let config : Settings = c.args.script.now.config in
    let trace : List InputData = c.args.script.now.inputs in
    record {
      hears = subst (λ (k : Settings). Hears c.new-listeners.result k trace []) c.config.ensures (c.new-listeners.ensures trace);
      wrong = sym (first_wrong-none config trace []);
      last = none_at_start config trace;
      before = none_at_start config trace;
      failed_a = refl;
      failed_b = refl;
      oldest = refl;
      count = omega arith;
      few = omega arith;
    }

pub loop-n-preserved : goal.loop-n-preserved
loop-n-preserved c =
    let config : Settings = c.args.script.now.config in
    let trace : List InputData = c.args.script.now.inputs in
    let path : List Settled = c.args.path.now.settled in
    let n : ℕ = c.loop-n.n in
    let x : InputData = c.get-input.result.now in
    let st : Settled = c.get-settled.result in
    let back : n + 1 - 1 ≡ n = omega arith in
    let e : Some x ≡ slice_get trace n = c.get-input.ensures
    ∙ (ap (λ xs. slice_get xs (n + 1 - 1)) c.trace.ensures ∙ ap (slice_get trace) back) in
    let is : st ≡ get_or path n no_settled = c.get-settled.ensures ∙ ap (λ k. get_or path k no_settled) back in
    let few : n < length path = omega (arith, c.loop-n-test.true, c.len-n-end.ensures.value) in
    let fits : n ≤ length trace = omega (arith, few, c.requires.long) in
    let long : length (take n trace) ≡ n = length-take-le n trace fits in
    let inv = c.loop-n.invariant in
    let backed : (side : Side) → is_healthy_by_script side trace (n + 1) ≡ true → Backed config trace (n + 1) st side =
    λ side h. subst (λ (s : Settled). Backed config trace (n + 1) s side) (sym c.get-settled.ensures)
    (c.requires.backed (n + 1) (omega arith) (omega (arith, few)) side h) in
    let a : c.side_age-a.result ≡ side_age config trace (n + 1) st A =
    c.side_age-a.ensures ∙ (rw (c.is_on-on.ensures, c.word_of.ensures)
    (side_age_is config trace n st A c.loop-n.failed_a c.loop-n.last c.loop-n.before inv.failed_a inv.last inv.before (backed A))) in
    let b : c.side_age-b.result ≡ side_age config trace (n + 1) st B =
    c.side_age-b.ensures ∙ (rw (c.is_on-on.ensures, c.word_of-in-loop-n.ensures)
    (side_age_is config trace n st B c.loop-n.failed_b c.loop-n.last c.loop-n.before inv.failed_b inv.last inv.before (backed B))) in
    let one = c.unhealthy-count.ensures
    ∙ (rw c.is_on-on.ensures (unhealthy_is trace n st c.loop-n.failed_a c.loop-n.failed_b inv.failed_a inv.failed_b)) in
    let took = c.take_tick.ensures config trace (frames_from 1 (take n trace)) inv.hears (λ i. word_is trace n i x e) in
    let hears : Hears c.take_tick.new.self config trace (frames_from 1 (take (n + 1) trace)) =
    subst (Hears c.take_tick.new.self config trace) (sym (next_frames trace n x fits long e)) took.1 in
    record {
      hears = hears;
      wrong = c.first_wrong-wrong.ensures ∙ wrong_next config trace n x c.loop-n.wrong c.take_tick.result fits long e inv.wrong took.0;
      last = c.oldest-last.ensures config trace hears;
      before = inv.last ∙ ap (oldest_at config trace) (sym back);
      failed_a = c.is_failed-failed_a.ensures ∙ failed_next A trace n x c.loop-n.failed_a inv.failed_a e;
      failed_b = c.is_failed-failed_b.ensures ∙ failed_next B trace n x c.loop-n.failed_b inv.failed_b e;
      oldest = rw (c.older-oldest.ensures, c.older.ensures)
          (oldest_more config trace path n st c.loop-n.oldest
          (oldest_age config trace path) c.side_age-a.result c.side_age-b.result few is a b inv.oldest);
      count = unhealthy_more trace path n st c.loop-n.count (unhealthy_ticks trace path) c.unhealthy-count.result few is one inv.count;
      few = omega (arith, at_most_one _ c.unhealthy-count.result one, inv.few);
    }

pub returns : goal.returns
returns c =
    let config : Settings = c.args.script.now.config in
    let trace : List InputData = c.args.script.now.inputs in
    let path : List Settled = c.args.path.now.settled in
    let last : length path ≤ c.loop-n.n = omega (arith, c.loop-n-test.false, c.len-n-end.ensures.value) in
    let done : length trace ≤ c.loop-n.n = omega (arith, last, c.requires.long) in
    let wrong : c.loop-n.wrong ≡ first_wrong_pair config trace =
    c.loop-n.invariant.wrong ∙ ap (λ xs. first_wrong_in config trace [] (frames_from 1 xs)) (take_all c.loop-n.n trace done) in
    let oldest : c.loop-n.oldest ≡ oldest_age config trace path =
    oldest_end config trace path c.loop-n.n c.loop-n.oldest (oldest_age config trace path) last c.loop-n.invariant.oldest in
    let unhealthy : c.loop-n.count ≡ unhealthy_ticks trace path =
    unhealthy_end trace path c.loop-n.n c.loop-n.count (unhealthy_ticks trace path) last c.loop-n.invariant.count in
    rw (wrong, oldest, unhealthy) refl
