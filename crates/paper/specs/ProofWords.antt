-- Words of the proofs over the paper's graph: what a walk has still to do, closed sets, a larger graph, a renumbered one. No promise of a public operation
-- speaks of them, so who reads what is promised can leave this file out.
-- Assumes nothing.
use Rattle.std.specs.Prelude.{◌≡◌, Bool, true, cond, [], ◌∷◌, ℕ, zero, suc, ◌≤◌, ◌<◌, max}
use Rattle.paper.specs.Lists.{mem}
use Rattle.paper.specs.Graph.{Graph, clock}

-- what a walk has still to bring in: the clocks of the nodes below m that w marks, joined
unfoldable pub front : Graph → (ℕ → Bool) → ℕ → ℕ → ℕ
front g w zero a = 0
front g w (suc m) a = max (front g w m a) (cond (w m) (clock g (m ∷ []) a) 0)

-- with a node, the set holds its dependencies
unfoldable pub Closed : Graph → (ℕ → Bool) → Type 0
Closed g h = (k j : ℕ) → k < g.size → h k ≡ true → mem j (g.deps k) ≡ true → h j ≡ true

-- the larger graph g' is g, with more nodes after g's
pub record Extends (g g' : Graph) : Type 0 where
  pub longer : g.size ≤ g'.size
  pub hashes : (k : ℕ) → k < g.size → g'.hash k ≡ g.hash k
  pub max_ops : (k : ℕ) → k < g.size → g'.max_op k ≡ g.max_op k
  pub op_counts : (k : ℕ) → k < g.size → g'.ops k ≡ g.ops k
  pub actors : (k : ℕ) → k < g.size → g'.actor k ≡ g.actor k
  pub seqs : (k : ℕ) → k < g.size → g'.seq k ≡ g.seq k
  pub depss : (k : ℕ) → k < g.size → g'.deps k ≡ g.deps k

-- g' is g with its actors renumbered by f, which keeps those that have nodes apart
pub record Relabels (f : ℕ → ℕ) (g g' : Graph) : Type 0 where
  pub sizes : g'.size ≡ g.size
  pub actors : (k : ℕ) → k < g.size → g'.actor k ≡ f (g.actor k)
  pub hashes : (k : ℕ) → k < g.size → g'.hash k ≡ g.hash k
  pub seqs : (k : ℕ) → k < g.size → g'.seq k ≡ g.seq k
  pub max_ops : (k : ℕ) → k < g.size → g'.max_op k ≡ g.max_op k
  pub op_counts : (k : ℕ) → k < g.size → g'.ops k ≡ g.ops k
  pub depss : (k : ℕ) → k < g.size → g'.deps k ≡ g.deps k
  pub apart : (j k : ℕ) → j < g.size → k < g.size → f (g.actor j) ≡ f (g.actor k) → g.actor j ≡ g.actor k
