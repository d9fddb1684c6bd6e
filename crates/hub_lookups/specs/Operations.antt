-- What each public question that looks a hash up comes to.
-- Assumes nothing.
use Rattle.std.specs.Prelude.{List, ℕ}
use Rattle.tables.specs.Tables.{Tables, graph}
use Rattle.lookups.specs.Lookups.{looked_up, has}
use Rattle.hub_answer.specs.Asks.{of_place, of_yes_no, Tells}

-- asking the tables t for the node of the hash answers r and leaves told'
abbrev pub HashToIndex : List ℕ → List ℕ → ℕ → List ℕ → Tables → Type 0
HashToIndex hash told r told' t = Tells of_place (λ t. looked_up (graph t) hash) told r told' t

-- asking whether the hash is known
abbrev pub HasChange : List ℕ → List ℕ → ℕ → List ℕ → Tables → Type 0
HasChange hash told r told' t = Tells of_yes_no (λ t. has (graph t) hash) told r told' t
