-- The invariant: `seen` has how many of the first k nodes each actor has, and each of these nodes has its actor's next sequence.
use Prim.Native.Nat.{◌-◌}
use Rattle.list_laws.specs.Iff.{Below}
use Rattle.tables.specs.CheckLaws.{Next, Counted}
use Rattle.tables.proofs.sequences_run.Given as goal

abbrev pub invariant-loop-k : goal.invariant-loop-k
invariant-loop-k l = Counted l.nodes l.k l.seen × Below (Next l.nodes) l.k
