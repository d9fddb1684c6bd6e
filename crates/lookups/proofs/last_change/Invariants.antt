-- The nodes below k hold all of the actor's changes.
use Rattle.std.proofs.Common.{ℕ, ◌≡◌}
use Rattle.std.specs.Prelude.{eqb}
use Rattle.paper.specs.Lists.{tally}
use Rattle.paper.specs.Adding.{seq_for_actor}
use Rattle.tables.specs.Tables.{graph, actor_at}
use Rattle.tables.specs.Lent.{lists}
use Rattle.lookups.proofs.last_change.Given as goal

abbrev pub invariant-loop-k : goal.invariant-loop-k
invariant-loop-k l = tally (λ (j : ℕ). eqb (actor_at l.tables.nodes.now j) l.actor) l.k ≡ seq_for_actor (graph (lists l.tables)) l.actor
