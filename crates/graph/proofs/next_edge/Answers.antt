use Rattle.std.proofs.Common.{arith, sym}
use Rattle.graph.specs.PlaceLaws.{nexts_more, nexts_last}
use Rattle.graph.proofs.next_edge.Goals as goal

pub returns-then-i-d : goal.returns-then-i-d
returns-then-i-d c = sym (nexts_more c.args.d c.args.e c.args.i c.if-i-d.true)

pub returns-else-i-d : goal.returns-else-i-d
returns-else-i-d c = sym (nexts_last c.args.d c.args.e c.args.i (omega arith))
