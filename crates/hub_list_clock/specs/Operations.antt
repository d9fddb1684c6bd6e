-- What the public question for the clock of a list comes to.
-- Assumes nothing.
use Rattle.std.specs.Prelude.{List, ℕ, length}
use Rattle.tables.specs.Tables.{Tables}
use Rattle.list_clock.specs.Clocks.{clock_told, clock_filled}
use Rattle.hub_answer.specs.Asks.{of_listed, Asks}

-- asking the tables t for the clock of the list answers r and leaves out' and told'
abbrev pub ClockOf : List ℕ → List ℕ → List ℕ → ℕ → List ℕ → List ℕ → Tables → Type 0
ClockOf list out told r out' told' t = Asks of_listed (λ t. clock_told t list (length out)) (λ t. clock_filled t list out) out told r out' told' t
