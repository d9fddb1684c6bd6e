-- The invariant, `Marking`: what is to be marked from link e on, with what is marked, is what was to be marked. The measure is the number of edges left.
use lib.ListN.{length}
use Rattle.tables.specs.Tables.{along}
use Rattle.walk.specs.MarkLaws.{Marking}
use Rattle.walk.proofs.mark_links.Given as goal

abbrev pub invariant-loop-e : goal.invariant-loop-e
invariant-loop-e l = Marking l.targets l.nexts l.initial.marks l.first l.marks l.e

abbrev pub decreases-loop-e : goal.decreases-loop-e
decreases-loop-e l = length (along l.targets l.nexts l.e)
