-- The heads as an answer: their hashes as bytes, and their nodes.
-- Assumes nothing.
use Rattle.std.specs.Prelude.{List, ℕ, ◌*◌, ◌≤◌, length}
use Rattle.paper.specs.Lists.{same_list, hash_at, first_below}
use Rattle.paper.specs.Text.{flat}
use Rattle.paper.specs.Graph.{Graph, nodes, heads}

-- the heads' hashes, ascending, one after the other
unfoldable pub head_hashes : Graph → List ℕ
head_hashes g = flat (heads g)

-- the heads' nodes, in the order of their hashes
unfoldable pub head_places : Graph → List ℕ
head_places g = nodes g (heads g)

-- which of the first n hashes of the bytes is h, or n
unfoldable pub node_in : List ℕ → ℕ → List ℕ → ℕ
node_in hs n h = first_below (λ k. same_list (hash_at hs k) h) n

-- the first n hashes lie in their table, the first c of the list in theirs, and there is room for c nodes
pub record Askable (hs : List ℕ) (n : ℕ) (list : List ℕ) (c room : ℕ) : Type 0 where
  pub inside : 32 * n ≤ length hs
  pub few : n ≤ 4096
  pub listed : 32 * c ≤ length list
  pub fits : c ≤ room
