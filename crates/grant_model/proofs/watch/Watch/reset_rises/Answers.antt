use Rattle.std.proofs.Common.{ap, ◌∙◌}
use Rattle.std.proofs.lemmas.List.{length-map}
use Rattle.lift_base.specs.declared.wires.TheConstants.{RESET}
use Rattle.lift_model.specs.Records.{InputData}
use Rattle.lift_model.specs.Trace.{words_of}
use Rattle.lift_model.specs.Wires.{rises}
use Rattle.grant_model.proofs.watch.Watch.reset_rises.Goals as goal

pub returns : goal.returns
returns c config inputs h =
    c.rose.ensures config.disc (words_of inputs) h.wires
    ∙ ap (rises (words_of inputs) RESET) (length-map inputs (λ (i : InputData). i.words))
