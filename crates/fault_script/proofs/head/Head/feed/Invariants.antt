use Rattle.std.proofs.Common.{◌≡◌, ◌+◌, take}
use Rattle.script_model.specs.Meaning.{take_bytes}
use Rattle.fault_script.specs.Views.{in_head}
use Rattle.fault_script.proofs.HeadBytes.{size_of}
use Rattle.fault_script.proofs.head.Head.feed.Given as goal

abbrev pub invariant-loop-i : goal.invariant-loop-i
invariant-loop-i l = record {
  so_far : take_bytes (in_head l.fn.self) (take l.i l.piece) ≡ in_head l.self;
  count : size_of l.self ≡ size_of l.fn.self + l.i;
}
