use Rattle.std.proofs.Common.{ap, ◌∙◌}
use Rattle.std.proofs.lemmas.List.{length-map}
use Rattle.lift_model.specs.Records.{InputData}
use Rattle.lift_model.specs.Trace.{words_of}
use Rattle.lift_model.specs.Wires.{has_contact_fault}
use Rattle.grant_model.proofs.watch.Watch.has_contact_fault.Goals as goal

pub returns : goal.returns
returns c config inputs h =
    c.faulted.ensures config.disc (words_of inputs) h.wires
    ∙ ap (has_contact_fault config.disc (words_of inputs)) (length-map inputs (λ (i : InputData). i.words))
