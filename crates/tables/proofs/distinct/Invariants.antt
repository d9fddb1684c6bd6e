-- The invariant: each of the first j hashes differs from those before it.
use Prim.Native.Nat.{◌-◌}
use Rattle.list_laws.specs.Iff.{Below}
use Rattle.tables.specs.CheckLaws.{Fresh}
use Rattle.tables.proofs.distinct.Given as goal

abbrev pub invariant-loop-j : goal.invariant-loop-j
invariant-loop-j l = Below (Fresh l.hashes) l.j
