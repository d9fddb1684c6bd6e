-- The invariant, `Seeking`: no dependency so far is the preceding change, so the edges left decide. The measure is the number of edges left.
use lib.ListN.{length}
use Rattle.tables.specs.Tables.{along}
use Rattle.chained.specs.Chained.{precedes}
use Rattle.chained.specs.ChainedLaws.{Seeking}
use Rattle.chained.proofs.names_preceding.Given as goal

abbrev pub invariant-loop-e : goal.invariant-loop-e
invariant-loop-e l = Seeking (precedes l.nodes l.k) l.targets l.nexts l.k l.first l.e

abbrev pub decreases-loop-e : goal.decreases-loop-e
decreases-loop-e l = length (along l.targets l.nexts l.e)
