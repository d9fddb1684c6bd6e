-- What the public question for a change's dependencies comes to.
-- Assumes nothing.
use Rattle.std.specs.Prelude.{List, ℕ, length}
use Rattle.tables.specs.Tables.{Tables, graph}
use Rattle.deps.specs.Deps.{deps_told, deps_filled}
use Rattle.hub_answer.specs.Asks.{of_listed, Asks}

-- asking the tables t for the dependencies of the hash answers r and leaves out' and told'
abbrev pub DepsForHash : List ℕ → List ℕ → List ℕ → ℕ → List ℕ → List ℕ → Tables → Type 0
DepsForHash hash out told r out' told' t = Asks of_listed (λ t. deps_told (graph t) hash (length out)) (λ t. deps_filled (graph t) hash out) out told r out' told' t
