-- What the public question for the op clock of a list comes to.
-- Assumes nothing.
use Rattle.std.specs.Prelude.{List, ℕ, length}
use Rattle.tables.specs.Tables.{Tables}
use Rattle.op_clock.specs.OpClocks.{op_clock_told, op_clock_filled}
use Rattle.hub_answer.specs.Asks.{of_listed, Asks}

-- asking the tables t for the op clock of the list answers r and leaves out' and told'
abbrev pub ClockAt : List ℕ → List ℕ → List ℕ → ℕ → List ℕ → List ℕ → Tables → Type 0
ClockAt list out told r out' told' t = Asks of_listed (λ t. op_clock_told t list (length out)) (λ t. op_clock_filled t list out) out told r out' told' t
