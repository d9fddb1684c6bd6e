-- What demand 1 asks of one call: its number is one of the paper's table, and every number but that of done leaves the memory that it may change.
-- Assumes nothing.
use Rattle.std.specs.Prelude.{◌≡◌, List, [], ◌∷◌, ℕ}
use Rattle.paper.specs.Numbers.{Outcome, number, done}
use Rattle.tables.specs.Tables.{Tables}
use Rattle.waiting.specs.Valid.{Store}
use Rattle.hub_release.specs.Operations.{Stock}

-- r is a number of the paper's table
pub record InTable (r : ℕ) : Type 0 where
  pub which : Outcome
  pub is : r ≡ number which

-- every number but that of done
abbrev pub NotDone : ℕ → Type 0
NotDone r = r ≡ number done → ⊥

-- the call answers r, and the memory that it may change held `before` and holds `after`
pub record DemandOne (r : ℕ) (before after : List (List ℕ)) : Type 0 where
  pub numbered : InTable r
  pub keeps : NotDone r → after ≡ before

-- the lists of a graph's tables
abbrev pub table_lists : Tables → List (List ℕ)
table_lists t = t.hashes ∷ t.nodes ∷ t.targets ∷ t.nexts ∷ t.clocks ∷ t.counts ∷ []

-- the lists of a queue or a batch
abbrev pub store_lists : Store → List (List ℕ)
store_lists s = s.hashes ∷ s.numbers ∷ s.deps ∷ s.count ∷ []

-- the lists of what a release may change
abbrev pub stock_lists : Stock → List (List ℕ)
stock_lists m = m.hashes ∷ m.numbers ∷ m.deps ∷ m.count ∷ m.thashes ∷ m.tnumbers ∷ m.tdeps ∷ m.told ∷ []
