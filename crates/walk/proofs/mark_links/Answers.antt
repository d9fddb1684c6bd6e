use Rattle.walk.specs.MarkLaws.{marking_next, marking_less, marking_end}
use native.Mathlib.Omega.{arith}
use Rattle.walk.proofs.mark_links.Goals as goal

pub loop-e-smaller : goal.loop-e-smaller
loop-e-smaller c = marking_less c.loop-e.invariant (omega arith)

pub loop-e-preserved : goal.loop-e-preserved
loop-e-preserved c = marking_next c.loop-e.invariant (omega arith)

pub returns : goal.returns
returns c = marking_end c.loop-e.invariant c.loop-e-test.false
