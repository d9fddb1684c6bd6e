-- What a walk along next over the edge records puts down, and when that is what a hash depends on.
-- Assumes nothing.
use Rattle.std.specs.Prelude.{◌≡◌, List, ◌++◌, ℕ, ◌≤◌, length, drop, replicate}
use Rattle.tables.specs.Tables.{Tables}
use Rattle.tables.specs.Valid.{Valid}
use Rattle.edges.specs.Edges.{parents_in}
use Rattle.edges.specs.Told.{cut}
use Rattle.edges.specs.declared.Edge.{Edge}
use Rattle.deps.specs.Parents.{DepsListed}

-- the table that the walk puts nodes down in: as many as a change may have dependencies, and zeros at first
abbrev pub parent_room : ℕ
parent_room = 32

abbrev pub no_parents : List ℕ
no_parents = replicate parent_room 0

-- where the tables are valid, the first n of ps are the nodes that the hash h depends on; and so of the first e edges alone
abbrev pub ListedIfValid : Tables → List ℕ → List ℕ → ℕ → Type 0
ListedIfValid t h ps n = Valid t → DepsListed t h ps n

abbrev pub ListedOfFirst : ℕ → Tables → List ℕ → List ℕ → ℕ → Type 0
ListedOfFirst e t h ps n = e ≤ length t.targets → e ≤ length t.nexts → ListedIfValid (cut e t) h ps n

-- what the walk leaves in the table, and that it met n nodes
abbrev pub PutDown : List Edge → ℕ → ℕ → List ℕ → Type 0
PutDown es first n ps = (n ≡ length (parents_in es first no_parents)) × (ps ≡ parents_in es first no_parents ++ drop n no_parents)
