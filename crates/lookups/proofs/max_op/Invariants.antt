-- The most is the largest of the first k.
use Rattle.std.proofs.Common.{ℕ, ◌≡◌}
use Rattle.tables.specs.Tables.{max_op_at}
use Rattle.lookups.specs.Lookups.{largest}
use Rattle.lookups.proofs.max_op.Given as goal

abbrev pub invariant-loop-k : goal.invariant-loop-k
invariant-loop-k l = l.most ≡ largest (λ (j : ℕ). max_op_at l.tables.nodes.now j) l.k
