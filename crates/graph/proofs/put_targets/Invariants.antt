-- The invariant, `Pasted`: the nodes of the first i dependencies are written, and the length stays. None is unknown, so each is found, below n, and the early return is never taken.
use Rattle.list_laws.specs.Paste.{Pasted}
use Rattle.graph.specs.Place.{nodes_of}
use Rattle.graph.proofs.put_targets.Given as goal

abbrev pub invariant-loop-i : goal.invariant-loop-i
invariant-loop-i l = Pasted l.initial.targets l.e (nodes_of l.hashes l.n l.deps) l.i l.targets
