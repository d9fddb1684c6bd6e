-- A node's number as the answer of a search.
-- Assumes nothing.
use Rattle.std.specs.Prelude.{cond, ℕ, ltb, Some, None, Option}

-- the node k of n as the answer of a search: n and above stand for none
unfoldable pub found_as : ℕ → ℕ → Option ℕ
found_as n k = cond (ltb k n) (Some k) None
