-- The invariant, `LaidTo`: the lists of the first k nodes are the first c of the e edges. Each refusal is right: in laid tables node k has no list, or one of at most 32 edges that starts at edge c and ends within the e edges.
use Prim.Native.Nat.{◌-◌}
use Rattle.tables.specs.LaidLaws.{LaidTo}
use Rattle.tables.proofs.laid.Given as goal

abbrev pub invariant-loop-k : goal.invariant-loop-k
invariant-loop-k l = LaidTo l.nodes l.targets l.nexts l.n l.e l.c l.k
