-- The lent tables as lists of numbers, and the graph that they hold.
-- Assumes nothing.
use Rattle.std.specs.Prelude.{List, [], ◌∷◌, ℕ, zero, suc, ◌+◌, ◌*◌, ◌/◌, length, get_or}
use Rattle.paper.specs.Lists.{hash_at}
use Rattle.paper.specs.Graph.{Graph}

pub record Tables : Type 0 where
  -- node k's hash, 32 bytes at 32 k
  pub hashes : List ℕ
  -- six numbers a node, at 6 k: actor, sequence, max op, op count, first edge + 1 or 0, head (1 or 0)
  pub nodes : List ℕ
  -- an edge's target, and its next edge + 1 or 0
  pub targets : List ℕ
  pub nexts : List ℕ
  -- node k's cached clock or zeros, a row of as many entries as there is actor room
  pub clocks : List ℕ
  -- changes, edges and actors in use
  pub counts : List ℕ

abbrev pub tables : List ℕ → List ℕ → List ℕ → List ℕ → List ℕ → List ℕ → Tables
tables hs ns ts xs cs us = record { hashes = hs; nodes = ns; targets = ts; nexts = xs; clocks = cs; counts = us }

-- ---- what is in use

abbrev pub changes : Tables → ℕ
changes t = get_or t.counts 0 0

abbrev pub edges : Tables → ℕ
edges t = get_or t.counts 1 0

abbrev pub actors : Tables → ℕ
actors t = get_or t.counts 2 0

-- ---- room

abbrev pub change_room_of : Tables → ℕ
change_room_of t = length t.hashes / 32

abbrev pub edge_room_of : Tables → ℕ
edge_room_of t = length t.targets

-- entries to a row of the clock table, and 0 where there is no change room
unfoldable pub width_of : List ℕ → List ℕ → ℕ
width_of hs cs = length cs / (length hs / 32)

abbrev pub actor_room : Tables → ℕ
actor_room t = width_of t.hashes t.clocks

-- ---- a node's record

abbrev pub actor_at : List ℕ → ℕ → ℕ
actor_at ns k = get_or ns (6 * k) 0

abbrev pub seq_at : List ℕ → ℕ → ℕ
seq_at ns k = get_or ns (6 * k + 1) 0

abbrev pub max_op_at : List ℕ → ℕ → ℕ
max_op_at ns k = get_or ns (6 * k + 2) 0

abbrev pub ops_at : List ℕ → ℕ → ℕ
ops_at ns k = get_or ns (6 * k + 3) 0

abbrev pub first_at : List ℕ → ℕ → ℕ
first_at ns k = get_or ns (6 * k + 4) 0

abbrev pub head_at : List ℕ → ℕ → ℕ
head_at ns k = get_or ns (6 * k + 5) 0

-- entry a of row k of the clock table
abbrev pub entry_at : Tables → ℕ → ℕ → ℕ
entry_at t k a = get_or t.clocks (k * actor_room t + a) 0

-- ---- the graph

-- the targets along the list that starts at edge e - 1, in at most fuel steps; e is 0 at its end
unfoldable pub links : List ℕ → List ℕ → ℕ → ℕ → List ℕ
links ts xs zero e = []
links ts xs (suc fuel) zero = []
links ts xs (suc fuel) (suc i) = get_or ts i 0 ∷ links ts xs fuel (get_or xs i 0)

-- no list is longer than the edge table, so this is all of it
abbrev pub along : List ℕ → List ℕ → ℕ → List ℕ
along ts xs e = links ts xs (length ts) e

abbrev pub graph : Tables → Graph
graph t =
    record {
      size = changes t;
      hash = λ k. hash_at t.hashes k;
      actor = λ k. actor_at t.nodes k;
      seq = λ k. seq_at t.nodes k;
      max_op = λ k. max_op_at t.nodes k;
      ops = λ k. ops_at t.nodes k;
      deps = λ k. along t.targets t.nexts (first_at t.nodes k);
    }
