-- What an accepted change leaves as it was, and what it brings: histories and clocks of the older nodes, its own clock, the heads.
-- Assumes nothing.
use Rattle.std.specs.Prelude.{◌≡◌, Bool, true, ◌||◌, ℕ, ◌<◌, max, Ok}
use Rattle.std.proofs.Common.{◌∙◌}
use Rattle.std.proofs.Math.Path.{ap}
use Rattle.std.proofs.Math.Bool.{not, cond}
use mathlib.Core.List.{List, [], ◌∷◌, ◌++◌}
use Rattle.paper.specs.Lists.{mem, pick}
use Rattle.paper.specs.Graph.{own, hist, clock, wanted, head_nodes}
use Rattle.paper.specs.Adding.{Change, Hub, added as paper-added}
use Rattle.paper.specs.Samples.{all_added}
use Rattle.paper.proofs.Bools.{pick_ext}
use Rattle.paper.proofs.Extend.{hist_extend, clock_extend, clock_new, wanted_add, new_unwanted}
use Rattle.paper.proofs.Same.{SameHub, hub_trans, added_same}
use Rattle.tables.specs.Tables.{Tables, changes, graph}
use Rattle.tables.specs.Valid.{Valid}
use Rattle.judge.specs.Judge.{tables_judged}
use Rattle.judge.specs.JudgeLaws.{Accepted}
use Rattle.judge.proofs.Accepted.{accepted}
use Rattle.judge.specs.Hub.{hub}
use Rattle.graph.specs.Place.{deps_of, placed, added_tables, adds}
use Rattle.graph.specs.Grown.{new_changes, new_deps}
use Rattle.graph.specs.Growth.{extended, low, next, old_valid, new_valid}
use Rattle.graph.specs.HubGrown.{added_hub}
use Rattle.graph.specs.Life.{added_valid}

module _ (t : Tables) (x : Change) (v : Valid t) (d : tables_judged t x ≡ Ok tt) where
  a : Accepted t x
  a = accepted t x d

  -- a list of older nodes has the history that it had
  pub kept_history : (s : List ℕ) → ((k : ℕ) → mem k s ≡ true → k < changes t) → (k : ℕ) → hist (graph (placed t x)) s k ≡ hist (graph t) s k
  kept_history s old k = hist_extend (graph t) (graph (placed t x)) (old_valid t x v a) (new_valid t x v a) (extended t x v a) s old k

  -- and the clock that it had
  pub kept_clock : (s : List ℕ) → ((k : ℕ) → mem k s ≡ true → k < changes t) → (i : ℕ) → clock (graph (placed t x)) s i ≡ clock (graph t) s i
  kept_clock s old i = clock_extend (graph t) (graph (placed t x)) (old_valid t x v a) (new_valid t x v a) (extended t x v a) s old i

  -- the new node's clock: its own sequence over its dependencies' clock
  pub new_clock : (i : ℕ) → clock (graph (placed t x)) (changes t ∷ []) i ≡ max (own (graph (placed t x)) (changes t) i) (clock (graph t) (deps_of t x) i)
  new_clock i =
      clock_new (graph t) (graph (placed t x)) (old_valid t x v a) (extended t x v a) (new_changes t x v a) (low t x v a) (next t x v a) i
      ∙ ap (λ (ds : List ℕ). max (own (graph (placed t x)) (changes t) i) (clock (graph t) ds i)) (new_deps t x v a)

  -- the heads are the old ones that it does not depend on, and itself
  pub new_heads : head_nodes (graph (placed t x)) ≡ pick (λ k. not (wanted (graph t) k || mem k (deps_of t x))) (changes t) ++ (changes t ∷ [])
  unfolding head_nodes pick
  new_heads =
      ap (pick (λ k. not (wanted (graph (placed t x)) k))) (new_changes t x v a)
      ∙ ap (λ (b : Bool). cond (not b) (pick (λ k. not (wanted (graph (placed t x)) k)) (changes t) ++ (changes t ∷ [])) (pick (λ k. not (wanted (graph (placed t x)) k)) (changes t)))
      (new_unwanted (graph t) (graph (placed t x)) (old_valid t x v a) (extended t x v a) (new_changes t x v a) (low t x v a) (next t x v a))
      ∙ ap (λ (l : List ℕ). l ++ (changes t ∷ []))
      (pick_ext (λ k. not (wanted (graph (placed t x)) k)) (λ k. not (wanted (graph t) k || mem k (deps_of t x))) (changes t)
      (λ k l.
      ap not
      (wanted_add (graph t) (graph (placed t x)) (old_valid t x v a) (extended t x v a) (new_changes t x v a) (low t x v a) (next t x v a) k
      ∙ ap (λ (ds : List ℕ). wanted (graph t) k || mem k ds) (new_deps t x v a))))

-- any list of changes, refused ones among them: the tables hold the paper's graph
pub adds_hub : (t : Tables) (u : Hub) (xs : List Change) → Valid t → SameHub u (hub t) → SameHub (all_added u xs) (hub (adds t xs))
unfolding adds all_added
adds_hub t u [] v e = e
adds_hub t u (x ∷ xs) v e = adds_hub (added_tables t x) (paper-added u x) xs (added_valid t x v) (hub_trans (added_same u (hub t) x e) (added_hub t x v))
