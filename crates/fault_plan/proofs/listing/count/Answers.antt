use Rattle.std.proofs.Common.{arith}
use Rattle.fault_plan.proofs.ListedLemmas.{long_list}
use Rattle.fault_plan.proofs.listing.count.Goals as goal

pub returns : goal.returns
returns c = omega (arith, long_list 1 c.args.ticks, c.from.ensures)
