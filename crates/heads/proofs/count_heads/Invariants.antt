-- c of the first k nodes have the flag.
use Rattle.std.proofs.Common.{ℕ, ◌≡◌}
use Rattle.std.specs.Prelude.{eqb}
use Rattle.paper.specs.Lists.{tally}
use Rattle.tables.specs.Tables.{head_at}
use Rattle.heads.proofs.count_heads.Given as goal

abbrev pub invariant-loop-k : goal.invariant-loop-k
invariant-loop-k l = l.c ≡ tally (λ (j : ℕ). eqb (head_at l.nodes j) 1) l.k
