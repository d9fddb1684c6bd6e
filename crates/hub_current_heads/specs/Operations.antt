-- What the public question whether a list is the heads' comes to.
-- Assumes nothing.
use Rattle.std.specs.Prelude.{List, ℕ}
use Rattle.tables.specs.Tables.{Tables, graph}
use Rattle.current_heads.specs.Current.{current_told}
use Rattle.hub_answer.specs.Asks.{of_yes_no, Tells}

-- asking the tables t whether the list is the heads' answers r and leaves told'
abbrev pub HeadsAreCurrent : List ℕ → List ℕ → ℕ → List ℕ → Tables → Type 0
HeadsAreCurrent list told r told' t = Tells of_yes_no (λ t. current_told (graph t) list) told r told' t
