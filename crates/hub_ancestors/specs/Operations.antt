-- What the public question for the listed hashes outside a history comes to.
-- Assumes nothing.
use Rattle.std.specs.Prelude.{List, ℕ, length}
use Rattle.tables.specs.Tables.{Tables, graph}
use Rattle.ancestors.specs.Ancestors.{removed_told, removed_filled}
use Rattle.hub_answer.specs.Asks.{of_listed, Asks}

-- asking the tables t for the hashes of the list outside the heads' history answers r and leaves out' and told'
abbrev pub RemoveAncestors : List ℕ → List ℕ → List ℕ → List ℕ → ℕ → List ℕ → List ℕ → Tables → Type 0
RemoveAncestors list heads out told r out' told' t = Asks of_listed (λ t. removed_told (graph t) list heads (length out)) (λ t. removed_filled (graph t) list heads out) out told r out' told' t
