-- How the dependencies of a hash are found: where its list of edges begins, and the nodes that a walk along that list puts down.
-- Assumes nothing.
use Rattle.std.specs.Prelude.{◌≡◌, cond, ◌&&◌, List, [], ℕ, ◌*◌, ◌≤◌, ltb, leb, length, get_or, take, Some, None, Option}
use Rattle.paper.specs.Graph.{Graph, node}
use Rattle.hash.specs.Hash.{find_hash}
use Rattle.tables.specs.Tables.{Tables, graph, first_at}
use Rattle.answer_buffer.specs.Answers.{one_hash}

-- the number + 1 of the first edge of a node that was found, or 0
abbrev pub found_edge : List ℕ → Option ℕ → ℕ
found_edge ns (Some k) = first_at ns k
found_edge ns None = 0

-- the same of a hash: 0 also where it is none, or the table has fewer hashes than are counted
unfoldable pub edge_of_hash : List ℕ → List ℕ → List ℕ → List ℕ → ℕ
edge_of_hash hs ns us h = cond (one_hash h && leb (32 * get_or us 0 0) (length hs)) (found_edge ns (find_hash hs (get_or us 0 0) h)) 0

-- the nodes that the hash h depends on; an unknown hash depends on none
unfoldable pub deps_nodes : Graph → List ℕ → List ℕ
deps_nodes g h = cond (ltb (node g h) g.size) (g.deps (node g h)) []

-- the first n of ps are the nodes that the hash h depends on
pub record DepsListed (t : Tables) (h ps : List ℕ) (n : ℕ) : Type 0 where
  pub long : n ≤ length ps
  pub listed : length h ≡ 32 → take n ps ≡ deps_nodes (graph t) h
