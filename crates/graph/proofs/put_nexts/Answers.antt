use Rattle.list_laws.specs.Paste.{pasted_start, pasted_next, pasted_end}
use Rattle.graph.specs.PlaceLaws.{nexts_long}
use native.Mathlib.Omega.{arith}
use Rattle.graph.proofs.put_nexts.Goals as goal

pub loop-i-init : goal.loop-i-init
loop-i-init c = pasted_start _ _ _

pub loop-i-preserved : goal.loop-i-preserved
loop-i-preserved c = pasted_next c.loop-i.invariant _ (omega arith) (rw (nexts_long c.args.d c.args.e) c.loop-i-test.true) c.next_edge.ensures

pub shape_of-nexts : goal.shape_of-nexts
shape_of-nexts c = c.loop-i.invariant.long

pub returns : goal.returns
returns c = pasted_end c.loop-i.invariant c.args.d (omega arith)
