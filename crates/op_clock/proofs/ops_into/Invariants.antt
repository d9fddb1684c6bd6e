-- Each entry is that of the first k nodes.
use Rattle.std.proofs.Common.{length}
use Rattle.op_clock.specs.OpClockLaws.{Passing}
use Rattle.op_clock.proofs.ops_into.Given as goal

abbrev pub invariant-loop-k : goal.invariant-loop-k
invariant-loop-k l = Passing l.nodes l.clock l.n (length l.fn.out) l.out l.k
