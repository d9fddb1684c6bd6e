-- The heads' history is the whole graph.
-- Assumes nothing.
use mathlib.Core.Path.{◌≡◌, ap}
use mathlib.Core.Bool.{true, false, not}
use mathlib.Core.List.{List}
use Prim.Native.Nat.{ℕ, zero, suc, ◌+◌, ◌≤◌, ◌<◌}
use native.Mathlib.Omega.{arith}
use lib.Dec.{eqb, ltb}
use borrow.Author.Tests.{ltb-true, ltb-false}
use Rattle.paper.specs.Lists.{mem, tally}
use Rattle.paper.specs.Graph.{Graph, hist, clock, wanted, head_nodes, ValidGraph}
use Rattle.paper.proofs.Bools.{by_bool, not_is, mem_pick, of_some}
use Rattle.paper.proofs.History.{hist_start, hist_closed}
use Rattle.paper.proofs.Clock.{clock_upper}
use Rattle.paper.proofs.Chain.{node_at, clock_le_count}

module _ (g : Graph) (v : ValidGraph g) (s : List ℕ) (all : (k : ℕ) → k < g.size → wanted g k ≡ false → mem k s ≡ true) where
  -- d bounds how many nodes stand above k
  above_in : (d k : ℕ) → k < g.size → g.size ≤ k + d → hist g s k ≡ true
  unfolding wanted
  above_in zero k l b = absurd (omega arith)
  above_in (suc d) k l b =
      by_bool (wanted g k)
      (λ t.
      let r = of_some (λ m. mem k (g.deps m)) g.size t in
      let lt = v.down r.0 k r.1 r.2 in
      hist_closed g v s r.0 k (above_in d r.0 r.1 (omega arith)) r.2)
      (λ f. hist_start g s k l (all k l f))

  -- a list that has every head has every node in its history
  pub whole : (k : ℕ) → k < g.size → hist g s k ≡ true
  whole k l = above_in g.size k l (omega arith)

  -- and for its clock how many nodes each actor has
  pub whole_clock : (a : ℕ) → clock g s a ≡ tally (λ k. eqb (g.actor k) a) g.size
  whole_clock a =
      let u = clock_le_count g v s a in
      by_bool (ltb 0 (tally (λ k. eqb (g.actor k) a) g.size))
      (λ t.
      let r = node_at g v a (tally (λ k. eqb (g.actor k) a) g.size) (ltb-true 0 (tally (λ k. eqb (g.actor k) a) g.size) t) (omega arith) in
      let w = clock_upper g v s r.node (whole r.node r.low) in
      let y = ap (clock g s) r.whose in
      omega (arith, r.value))
      (λ f. let b = ltb-false 0 (tally (λ k. eqb (g.actor k) a) g.size) f in omega arith)

pub heads_whole : (g : Graph) → ValidGraph g → (k : ℕ) → k < g.size → hist g (head_nodes g) k ≡ true
unfolding head_nodes
heads_whole g v = whole g v (head_nodes g) (λ k l f. mem_pick (λ j. not (wanted g j)) g.size k l (not_is (wanted g k) f))
