-- Adding a change: the graph with its room, the judgement by cases in the paper's order, and the graph afterwards.
-- Assumes nothing.
use Rattle.std.specs.Prelude.{Bool, not, cond, ◌||◌, List, [], ◌∷◌, ℕ, suc, ◌+◌, ◌%◌, eqb, ltb, leb, length}
use Rattle.paper.specs.Lists.{tally, sum_below, hashes_of}
use Rattle.paper.specs.Numbers.{Outcome, number, done, malformed, already_known, unknown_dependency, no_actor, wrong_sequence, wrong_ops, many_dependencies, no_node_room, no_edge_room}
use Rattle.paper.specs.Graph.{Graph, node, nodes}

-- a graph, the number of its actors, and the room for changes and edges
pub record Hub : Type 0 where
  pub graph : Graph
  pub actors : ℕ
  pub change_room : ℕ
  pub edge_room : ℕ

-- a change as it is handed over: the dependencies are their hashes' bytes, one after the other
pub record Change : Type 0 where
  pub hash : List ℕ
  pub actor : ℕ
  pub seq : ℕ
  pub max_op : ℕ
  pub ops : ℕ
  pub deps : List ℕ

-- how many changes the actor has
unfoldable pub seq_for_actor : Graph → ℕ → ℕ
seq_for_actor g a = tally (λ k. eqb (g.actor k) a) g.size

-- edges in use: one for each dependency listed
unfoldable pub edges_used : Graph → ℕ
edges_used g = sum_below (λ k. length (g.deps k)) g.size

-- the place of the first unknown one among the hashes, or how many there are
unfoldable pub first_unknown_place : Graph → List (List ℕ) → ℕ
first_unknown_place g [] = 0
first_unknown_place g (h ∷ hs) = cond (ltb (node g h) g.size) (suc (first_unknown_place g hs)) 0

-- what adding comes to; an unknown dependency is named by its place in the order listed
pub data Verdict : Type 0 where
  plain : Outcome → Verdict
  unknown : ℕ → Verdict

abbrev pub outcome : Verdict → Outcome
outcome (plain o) = o
outcome (unknown i) = unknown_dependency

unfoldable pub accepts : Verdict → Bool
accepts v = eqb (number (outcome v)) (number done)

-- numbers 2 to 10 in this order, each where its condition holds and none before does
unfoldable pub judged : Hub → Change → Verdict
judged u x =
    cond (not (eqb (length x.hash) 32) || not (eqb (length x.deps % 32) 0)) (plain malformed)
    (cond (ltb (node u.graph x.hash) u.graph.size) (plain already_known)
    (cond (ltb (first_unknown_place u.graph (hashes_of x.deps)) (length (hashes_of x.deps))) (unknown (first_unknown_place u.graph (hashes_of x.deps)))
    (cond (leb u.actors x.actor) (plain no_actor)
    (cond (not (eqb x.seq (suc (seq_for_actor u.graph x.actor)))) (plain wrong_sequence)
    (cond (ltb 4294967295 x.max_op || ltb x.max_op x.ops) (plain wrong_ops)
    (cond (ltb 32 (length (hashes_of x.deps))) (plain many_dependencies)
    (cond (leb u.change_room u.graph.size) (plain no_node_room)
    (cond (ltb u.edge_room (edges_used u.graph + length (hashes_of x.deps))) (plain no_edge_room) (plain done)))))))))

-- f with the value v at the node n
abbrev pub put {ℓ} : {A : Type ℓ} → ℕ → A → (ℕ → A) → ℕ → A
put n v f k = cond (eqb k n) v (f k)

-- the graph with the change as its last node
unfoldable pub grown : Graph → Change → Graph
grown g x =
    record {
      size = suc g.size;
      hash = put g.size x.hash g.hash;
      actor = put g.size x.actor g.actor;
      seq = put g.size x.seq g.seq;
      max_op = put g.size x.max_op g.max_op;
      ops = put g.size x.ops g.ops;
      deps = put g.size (nodes g (hashes_of x.deps)) g.deps;
    }

-- the graph where it is accepted with 0, and else as it was
unfoldable pub added : Hub → Change → Hub
added u x = cond (accepts (judged u x)) (record { graph = grown u.graph x; actors = u.actors; change_room = u.change_room; edge_room = u.edge_room }) u
