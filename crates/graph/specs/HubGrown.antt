-- Adding to the tables is the paper's adding to the graph that they hold.
-- Assumes nothing.
use Rattle.std.specs.Prelude.{◌≡◌, refl, List, ◌∷◌, map, ℕ, zero, suc, ◌+◌, ◌/◌, ◌<◌, Some, None, Option, Ok}
use Rattle.std.proofs.Common.{sym, ap₂, subst, ◌∙◌, arith}
use Rattle.std.proofs.Math.Path.{ap}
use Rattle.std.proofs.Math.Decide.{ℕ_discrete}
use borrow.Author.Tests.{eq-eqb, ne_eqb}
use Rattle.paper.specs.Lists.{hash_at, hashes_from, hashes_of}
use Rattle.paper.specs.Graph.{Graph, node, nodes}
use Rattle.paper.specs.Adding.{Change, accepts, put, grown, added as paper-added}
use Rattle.paper.proofs.Bools.{below_suc}
use Rattle.paper.proofs.Same.{SameGraph, SameHub, same_hub}
use Rattle.hash.specs.Hash.{find_hash}
use Rattle.tables.specs.Tables.{Tables, changes, graph}
use Rattle.tables.specs.Valid.{Valid}
use Rattle.tables.specs.NodeLaws.{node_at}
use Rattle.judge.specs.Judge.{deps_given, tables_judged, judged_number}
use Rattle.judge.specs.JudgeLaws.{Accepted, is_done}
use Rattle.judge.proofs.Accepted.{accepted}
use Rattle.judge.specs.Hub.{hub}
use Rattle.judge.specs.HubLaws.{judged_agrees}
use Rattle.graph.specs.Place.{node_of, nodes_from, deps_of, placed, added_tables}
use Rattle.graph.specs.PlaceLaws.{none_missing, added_done, added_refused}
use Rattle.graph.specs.Grown.{hashes_long, targets_long, new_actors}
use Rattle.graph.specs.Growth.{Grows, stored_grows}

-- ---- the dependencies' nodes

nodes_from_lem : (t : Tables) (ds : List ℕ) (left i : ℕ) → ((j : ℕ) → j < i + left → find_hash t.hashes (changes t) (hash_at ds j) ≡ None → ⊥)
    → nodes_from t.hashes (changes t) ds left i ≡ map (node (graph t)) (hashes_from ds left i)
unfolding nodes_from hashes_from
nodes_from_lem t ds zero i h = refl
nodes_from_lem t ds (suc left) i h =
    ap₂ (λ (k : ℕ) (ks : List ℕ). k ∷ ks) (one (find_hash t.hashes (changes t) (hash_at ds i)) refl) (nodes_from_lem t ds left (suc i) (λ j l. h j (omega arith)))
  where
    one : (f : Option ℕ) → find_hash t.hashes (changes t) (hash_at ds i) ≡ f → node_of (find_hash t.hashes (changes t) (hash_at ds i)) ≡ node (graph t) (hash_at ds i)
    one (Some k) e = ap node_of e ∙ sym (node_at t (hash_at ds i) k e)
    one None e = absurd (h i (omega arith) e)

deps_nodes : (t : Tables) (x : Change) → Accepted t x → deps_of t x ≡ nodes (graph t) (hashes_of x.deps)
unfolding nodes hashes_of
deps_nodes t x a = nodes_from_lem t x.deps (deps_given x) 0 (λ j l e. none_missing t.hashes (changes t) x.deps a.all_known j (omega arith) e)

-- ---- a graph that grew by a change is the paper's grown graph

module _ (g g' : Graph) (x : Change) (w : Grows g x (nodes g (hashes_of x.deps)) g') where
  column {ℓ} : {A : Type ℓ} (v : A) (f f' : ℕ → A) → ((k : ℕ) → k < g.size → f' k ≡ f k) → f' g.size ≡ v → (k : ℕ) → k < suc g.size → f' k ≡ put g.size v f k
  column v f f' old new k l =
      below_suc (λ (j : ℕ). f' j ≡ put g.size v f j) g.size k l (λ b. rw (ne_eqb k g.size (λ y. omega arith)) (old k b)) (rw (eq-eqb g.size g.size refl) new)

  pub grows_grown : SameGraph (grown g x) g'
  unfolding grown
  grows_grown =
      let e = w.extends in
      record {
        extends =
            record {
              longer = let n = w.one_more in omega arith;
              hashes = column x.hash g.hash g'.hash e.hashes w.hash;
              max_ops = column x.max_op g.max_op g'.max_op e.max_ops w.max_op;
              op_counts = column x.ops g.ops g'.ops e.op_counts w.ops;
              actors = column x.actor g.actor g'.actor e.actors w.actor;
              seqs = column x.seq g.seq g'.seq e.seqs w.seq;
              depss = column (nodes g (hashes_of x.deps)) g.deps g'.deps e.depss w.deps;
            };
        sizes = w.one_more;
      }

module _ (t : Tables) (x : Change) (v : Valid t) where
  -- the graph after placing
  pub placed_grown : tables_judged t x ≡ Ok tt → SameGraph (grown (graph t) x) (graph (placed t x))
  placed_grown d =
      grows_grown (graph t) (graph (placed t x)) x
      (subst (λ (ds : List ℕ). Grows (graph t) x ds (graph (placed t x))) (deps_nodes t x (accepted t x d)) (stored_grows t x v d))

  -- the graph and its room after adding, whatever the answer is
  pub added_hub : SameHub (paper-added (hub t) x) (hub (added_tables t x))
  unfolding paper-added accepts
  added_hub = elim (ℕ_discrete (judged_number (tables_judged t x)) 0) [
    | yes e ↦ (
        let d = is_done (tables_judged t x) e in
        let a = accepted t x d in
        let h = hashes_long t x v a in
        rw (added_done t x d, ← judged_agrees t x v.sound, d)
        (record { graphs = placed_grown d; actors = new_actors t x v a; change_rooms = ap (λ (n : ℕ). n / 32) h; edge_rooms = targets_long t x v a })
        )
    | no n ↦ rw (added_refused t x n, ← judged_agrees t x v.sound, ne_eqb (judged_number (tables_judged t x)) 0 n) (same_hub (hub t))
  ]
