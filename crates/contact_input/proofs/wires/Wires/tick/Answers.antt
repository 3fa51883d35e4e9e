use Rattle.std.proofs.Common.{refl, ◌∙◌}
use Rattle.contact_input.proofs.Push.{StandsFor-push}
use Rattle.contact_input.proofs.wires.Wires.tick.Goals as goal

pub returns : goal.returns
returns c disc ticks h =
    StandsFor-push c.args.self.now disc ticks h
    (record { a = c.args.a; b = c.args.b }) c.count_rows-ended.new.rows c.latch_after-self.result _
    c.count_rows-ended.ensures.rows
    (c.latch_after-self.ensures ∙ (rw (c.count_rows-ended.ensures.ended, c.rises-cleared.ensures) refl))
