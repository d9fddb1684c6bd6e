use Rattle.edges.specs.EdgesLaws.{Unpacking}
use Rattle.edges.proofs.unpack.Given as goal

abbrev pub invariant-loop-i : goal.invariant-loop-i
invariant-loop-i l = Unpacking l.edges l.initial.targets l.initial.nexts l.i l.targets l.nexts
