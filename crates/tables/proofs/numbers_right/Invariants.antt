-- The invariant: each of the first k nodes has an actor below w, and an op count not above its max op.
use Prim.Native.Nat.{◌-◌}
use Rattle.list_laws.specs.Iff.{Below}
use Rattle.tables.specs.Valid.{NumbersAt}
use Rattle.tables.proofs.numbers_right.Given as goal

abbrev pub invariant-loop-k : goal.invariant-loop-k
invariant-loop-k l = Below (NumbersAt l.nodes l.w) l.k
