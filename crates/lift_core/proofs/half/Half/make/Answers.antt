use Rattle.lift_base.specs.declared.wires.TheConstants.{RESET}
use Rattle.std.proofs.Common.{◌≡◌, ◌-◌, ◌≤◌, refl, sym, ap, ◌∙◌, take, length}
use Rattle.core_model.specs.Decision.{Told}
use Rattle.core_model.specs.Machine.{Channel, commanded, told_at, does}
use Rattle.lift_model.specs.Grant.{grant}
use Rattle.lift_model.specs.Trace.{words_of}
use Rattle.lift_model.specs.Wires.{rises}
use Rattle.lift_model.proofs.GrantLemmas.{before_is, rises_front}
use Rattle.supervisor.specs.Round.{told}
use Rattle.lift_core.specs.Parts.{HalfData}
use Rattle.core_model.specs.declared.SideStep.{SideStep}
use Rattle.lift_core.proofs.StepLemmas.{commanded_is}
use Rattle.lift_core.proofs.half.Half.make.Goals as goal

pub returns-in-Command-clause-side : goal.returns-in-Command-clause-side
returns-in-Command-clause-side g c config stands =
    let trace = c.args.trace.now.inputs in
    let n = c.self.inside.stamp in
    let stamp = ap (λ (h : HalfData g.row.C.Denot). h.side.stamp) c.self.view_is in
    let side = ap (λ (h : HalfData g.row.C.Denot). h.side) c.self.view_is in
    let took : g.C.Channel.stands c.self.inside.channel config (take n trace) =
    rw (ap (λ (h : HalfData g.row.C.Denot). h.channel) c.self.view_is, stamp) stands in
    let past : n ≤ length trace = rw stamp c.requires.past in
    let own : c.verdict-own.result ≡ grant config trace n = c.verdict-own.ensures config (take n trace) took in
    let before : c.before-before.result ≡ grant config trace (n - 1) = c.before-before.ensures config (take n trace) took
    ∙ before_is config trace n past in
    let rise : c.reset_rise-rise.result ≡ rises (words_of trace) RESET n = c.reset_rise-rise.ensures config (take n trace) took
    ∙ rises_front trace 9 n past in
    let path = c.args.path.now.settled in
    let closed = c.feedback_of-closed in
    let it = c.self.inside in
    let inner : Channel = record {
      failed = it.failed;
      phase = it.phase;
      stamp = it.stamp;
      kept = it.supervisor;
      forced =
          it.contactor;
      publish = it.publish;
      command = it.command;
      looked = it.looked;
      seen = it.seen;
    } in
    let heard : Told = told n c.verdict-own.result c.before-before.result it.looked closed.result c.reset_rise-rise.result in
    let is : heard ≡ told_at config trace path inner.stamp inner.looked = rw (own, before, rise, closed.ensures.a, closed.ensures.b) refl in
    let here = commanded_is inner heard _ c.decide-self-inside.result c.decide-self-inside.new.self c.decide-self-inside.ensures.command
    c.decide-self-inside.ensures.kept is in
    here ∙ (ap (λ (x : Channel). commanded x (told_at config trace path x.stamp x.looked)) side
    ∙ sym (ap (λ (x : SideStep). does config trace path c.args.peer x c.args.self.now.side) c.in-Command.is))
