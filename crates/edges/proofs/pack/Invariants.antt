use Rattle.edges.specs.EdgesLaws.{Packing}
use Rattle.edges.proofs.pack.Given as goal

abbrev pub invariant-loop-i : goal.invariant-loop-i
invariant-loop-i l = Packing l.targets l.nexts l.initial.edges l.i l.edges
