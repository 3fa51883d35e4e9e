use Rattle.std.proofs.Common.{[], length, sym}
use Rattle.lift_model.specs.Trace.{frames_of}
use Rattle.lift_model.specs.Truth.{source_of}
use Rattle.grant_model.proofs.SteadyLemmas.{took_more}
use Rattle.grant_model.proofs.sources.pass.Goals as goal

pub returns : goal.returns
returns g c config plain inputs x none h =
    took_more {C = g.row.C.Denot} g.C.Consumer.stands _ config plain inputs x [] (sym none)
    (c.end_tick.ensures (source_of config plain) (frames_of (source_of config plain) inputs) (length inputs) h)
