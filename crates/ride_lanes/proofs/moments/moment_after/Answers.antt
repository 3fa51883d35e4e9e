use Rattle.std.proofs.Common.{◌≡◌, ◌+◌, ◌-◌, ◌∙◌, refl, sym, ap, Some, slice_get, inl, inr, arith}
use Rattle.std.proofs.lemmas.Option.{slice_get_cases}
use Rattle.contactor_pair.specs.Settles.{PathData}
use Rattle.lift_model.specs.Records.{InputData}
use Rattle.report.specs.Ticks.{settled_at}
use Rattle.ride_lanes.proofs.moments.moment_after.Goals as goal

pub returns : goal.returns
returns c = λ sight.
    let rounds = c.args.run.now.rounds in
    let at = c.args.at in
    let input = c.get-2.result.now in
    let got : slice_get c.trace.result.now.inputs (at + 1 - 1) ≡ Some input = sym c.get-2.ensures in
    record {
      tick = refl;
      settled = c.get.ensures ∙ ap (λ (path : PathData). settled_at path.settled (at + 1)) c.path.ensures;
      round = elim (slice_get_cases rounds (at + 1 - 1)).1 [
        | inl there ↦ rw (c.turn.ensures there.0 there.2, c.turn-2.ensures there.0 there.2) there.2
        | inr past ↦ absurd (omega (arith, past.0, c.requires.rounds))
      ];
      faults = (input, rw (sym c.trace.ensures) got, ap (λ (i : InputData). i.faults) c.behind-trace.view_is);
      sight = sight;
    }
