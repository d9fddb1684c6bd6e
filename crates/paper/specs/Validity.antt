-- What valid means, of a graph with its room and of a queue or batch, as far as it can be said without tables. What remains is about the tables alone.
-- Of a graph: the lengths of the tables agree and none ends inside a record; there is room for at most 64 actors and for those that are counted; the edges
-- that are counted lie in the edge table, and read node by node the lists give edges 0, 1, 2 ..; a node's head flag is 1 exactly if no node depends on
-- it, and else 0; each row of cached clocks is all 0 or its node's clock.
-- Of a queue: the lengths of the tables agree, and there is one count.
-- Assumes nothing.
use Rattle.std.specs.Prelude.{◌≡◌, Bool, not, ◌&&◌, ◌||◌, ℕ, ◌≤◌, ◌<◌, eqb, ltb, leb, length}
use Rattle.paper.specs.Lists.{some_below, all_below, same_list}
use Rattle.paper.specs.Graph.{Graph, ValidGraph, valid_test}
use Rattle.paper.specs.Adding.{Hub, edges_used}
use Rattle.paper.specs.Queue.{Queue, Distinct, has_hash, has_actor_seq}

-- ---- a graph

-- a change of the graph by itself: a hash of 32 bytes, an actor below the count, rule 7, rule 8
pub record ValidNode (a : ℕ) (g : Graph) (k : ℕ) : Type 0 where
  pub hash_whole : length (g.hash k) ≡ 32
  pub actor_low : g.actor k < a
  pub max_low : g.max_op k ≤ 4294967295
  pub ops_low : g.ops k ≤ g.max_op k
  pub few : length (g.deps k) ≤ 32

-- the graph with its room
pub record ValidHub (u : Hub) : Type 0 where
  -- room within the limits, and counts within the room
  pub changes_limit : u.change_room ≤ 4096
  pub edges_limit : u.edge_room ≤ 16384
  pub actors_limit : u.actors ≤ 64
  pub changes_fit : u.graph.size ≤ u.change_room
  pub edges_fit : edges_used u.graph ≤ u.edge_room
  pub each : (k : ℕ) → k < u.graph.size → ValidNode u.actors u.graph k
  -- hashes distinct
  pub distinct : (j k : ℕ) → j < k → k < u.graph.size → u.graph.hash j ≡ u.graph.hash k → ⊥
  -- dependencies below their node, sequences of an actor run 1, 2, 3 in node order
  pub graph : ValidGraph u.graph

-- the same as tests: room and counts
unfoldable pub rooms_test : Hub → Bool
rooms_test u =
    leb u.change_room 4096 && (leb u.edge_room 16384 && (leb u.actors 64 && (leb u.graph.size u.change_room && leb (edges_used u.graph) u.edge_room)))

-- one change by itself
unfoldable pub node_test : ℕ → Graph → ℕ → Bool
node_test a g k =
    eqb (length (g.hash k)) 32 && (ltb (g.actor k) a && (leb (g.max_op k) 4294967295 && (leb (g.ops k) (g.max_op k) && leb (length (g.deps k)) 32)))

-- no hash stands twice
unfoldable pub distinct_test : Graph → Bool
distinct_test g = all_below (λ k. not (some_below (λ j. same_list (g.hash j) (g.hash k)) k)) g.size

-- all of it
unfoldable pub hub_test : Hub → Bool
hub_test u = rooms_test u && (all_below (node_test u.actors u.graph) u.graph.size && (distinct_test u.graph && valid_test u.graph))

-- ---- a queue or batch with room for m

-- the first n waiting changes
abbrev pub first_of : ℕ → Queue → Queue
first_of n q = record { size = n; at = q.at }

-- hashes distinct, (actor, sequence) distinct, at most 32 dependencies each
pub record ValidQueue (m : ℕ) (q : Queue) : Type 0 where
  pub limit : m ≤ 256
  pub fits : q.size ≤ m
  pub hashes_whole : (i : ℕ) → i < q.size → length (q.at i).hash ≡ 32
  pub few : (i : ℕ) → i < q.size → length (q.at i).deps ≤ 32
  pub distinct : Distinct q

-- the same as a test: no change has the hash, or the actor and sequence, of one before it
unfoldable pub queue_test : ℕ → Queue → Bool
queue_test m q =
    leb m 256 && (leb q.size m && all_below (λ i. eqb (length (q.at i).hash) 32 && (leb (length (q.at i).deps) 32
    && not (has_hash (first_of i q) (q.at i).hash || has_actor_seq (first_of i q) (q.at i).key (q.at i).seq))) q.size)
