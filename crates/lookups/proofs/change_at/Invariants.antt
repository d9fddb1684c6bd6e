-- The first among the nodes from k on is the first of all.
use Rattle.std.proofs.Common.{ℕ, ◌≡◌, ◌-◌}
use Rattle.std.specs.Prelude.{◌&&◌, eqb}
use Rattle.paper.specs.Lists.{first_from, first_below}
use Rattle.tables.specs.Tables.{actor_at, seq_at}
use Rattle.lookups.proofs.change_at.Given as goal

abbrev pub invariant-loop-k : goal.invariant-loop-k
invariant-loop-k l = first_from (λ (j : ℕ). eqb (actor_at l.nodes j) l.actor && eqb (seq_at l.nodes j) l.seq) (l.n - l.k) l.k ≡ first_below (λ (j : ℕ). eqb (actor_at l.nodes j) l.actor && eqb (seq_at l.nodes j) l.seq) l.n
