-- What the public question for the missing list comes to.
-- Assumes nothing.
use Rattle.std.specs.Prelude.{List, ℕ, length}
use Rattle.tables.specs.Tables.{Tables, graph}
use Rattle.missing.specs.Missing.{missing_told, missing_filled}
use Rattle.hub_answer.specs.Asks.{of_listed, Asks}

-- asking the tables t for what is missing to who has the have-list answers r and leaves out' and told'
abbrev pub MissingFrom : List ℕ → List ℕ → List ℕ → ℕ → List ℕ → List ℕ → Tables → Type 0
MissingFrom have out told r out' told' t = Asks of_listed (λ t. missing_told (graph t) have (length out)) (λ t. missing_filled (graph t) have out) out told r out' told' t
