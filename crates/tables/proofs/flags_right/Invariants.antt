-- The invariant: each of the first k nodes has the flag 1 where its mark is 0, and else 0.
use Prim.Native.Nat.{◌-◌}
use Rattle.list_laws.specs.Iff.{Below}
use Rattle.tables.specs.CheckLaws.{FlagAt}
use Rattle.tables.proofs.flags_right.Given as goal

abbrev pub invariant-loop-k : goal.invariant-loop-k
invariant-loop-k l = Below (FlagAt l.nodes l.marks) l.k
