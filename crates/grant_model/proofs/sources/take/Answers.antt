use Rattle.std.proofs.Common.{length, ap, ◌∙◌}
use Rattle.lift_model.specs.Records.{InputData}
use Rattle.lift_model.specs.Trace.{frames_of}
use Rattle.lift_model.specs.Truth.{source_of}
use Rattle.grant_model.proofs.SteadyLemmas.{took_more}
use Rattle.grant_model.proofs.sources.take.Goals as goal

pub returns : goal.returns
returns g c config plain inputs h =
    took_more {C = g.row.C.Denot} g.C.Consumer.stands _ config plain inputs c.args.input.now c.as_slice.result.now
    (c.as_slice.ensures.value ∙ ap (λ (i : InputData). i.frames) c.input.view_is)
    (c.take_tick.ensures (source_of config plain) (frames_of (source_of config plain) inputs) (length inputs) h)
