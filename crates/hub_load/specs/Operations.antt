-- What loading comes to, of the lent tables before and after.
-- Assumes nothing.
use Rattle.std.specs.Prelude.{refl, ℕ, ◌<◌}
use Rattle.paper.specs.Numbers.{number, not_valid}
use Rattle.paper.specs.Loading.{Columns}
use Rattle.tables.specs.Tables.{Tables, edge_room_of}
use Rattle.tables.specs.Valid.{Lengths}
use Rattle.load.specs.Load.{loading, loaded}
use Rattle.edges.specs.Told.{Checked, lengths_bounding, checked_refused}

-- the number that loading the columns gives
abbrev pub load_number : Columns → Tables → ℕ
load_number c t = number (loading t c)

-- and the tables afterwards
abbrev pub load_tables : Columns → Tables → Tables
load_tables c t = loaded t c

-- loading the columns into the tables t answers r and leaves t': checked are the lengths alone
abbrev pub Loaded : Columns → Tables → ℕ → Tables → Type 0
Loaded c t r t' = Checked Lengths (load_number c) (load_tables c) t r t'

pub loaded_refused : (c : Columns) (t : Tables) → 16384 < edge_room_of t → Loaded c t (number not_valid) t
loaded_refused c t l = checked_refused Lengths lengths_bounding t l (load_number c) (load_tables c) (number not_valid) t (refl, refl)
