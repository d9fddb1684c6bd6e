use Rattle.std.proofs.Common.{refl, arith}
use Rattle.edges.specs.EdgesLaws.{unpacking_next}
use Rattle.edges.proofs.unpack.Goals as goal

pub loop-i-preserved : goal.loop-i-preserved
loop-i-preserved c = unpacking_next c.loop-i.invariant (omega arith) refl refl
