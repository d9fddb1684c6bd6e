use Rattle.std.proofs.Common.{refl, arith}
use Rattle.edges.specs.EdgesLaws.{packing_next}
use Rattle.edges.proofs.pack.Goals as goal

pub loop-i-preserved : goal.loop-i-preserved
loop-i-preserved c = packing_next c.loop-i.invariant (omega arith) refl
