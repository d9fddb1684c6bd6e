-- The known nodes of a list of hashes, by marks.
-- Assumes nothing.
use Rattle.std.specs.Prelude.{◌≡◌, Bool, cond, ◌&&◌, List, ℕ, eqb, ltb, length, get_or}
use Rattle.paper.specs.Lists.{some_below, hash_at}
use Rattle.paper.specs.Graph.{Graph, node}

-- one of the first i hashes of the bytes is node j's
unfoldable pub named_node : Graph → List ℕ → ℕ → ℕ → Bool
named_node g bytes i j = some_below (λ x. ltb j g.size && eqb (node g (hash_at bytes x)) j) i

-- m is m₀ with a 1 at each of those
pub record KnownMarks (g : Graph) (bytes : List ℕ) (i : ℕ) (m₀ m : List ℕ) : Type 0 where
  pub long : length m ≡ length m₀
  pub each : (j : ℕ) → get_or m j 0 ≡ cond (named_node g bytes i j) 1 (get_or m₀ j 0)
