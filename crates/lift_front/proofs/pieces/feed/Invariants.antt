use Rattle.std.proofs.Common.{◌≡◌, Bool, List, [], length}
use Rattle.lift_base.specs.declared.forms.Form.{Form}
use Rattle.fault_script.specs.Reads.{HasRead}
use Rattle.lift_front.specs.Feeding.{GoesOn}
use Rattle.lift_front.proofs.pieces.feed.Given as goal

abbrev pub invariant-reads : goal.invariant-reads
invariant-reads g l = record {
  fed : (form : Form) (places : List Bool) → HasRead l.fn.reader form places []
      → GoesOn form places l.reader (g.S.Source.left l.fn.source) (g.S.Source.left l.source);
  buffer : length l.piece ≡ 4096;
  calm : g.S.Source.faults l.source ≡ g.S.Source.faults l.fn.source;
}
