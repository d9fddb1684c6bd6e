-- What the graph's public operations come to, of the lent tables before and after.
-- Assumes nothing.
use Rattle.std.specs.Prelude.{◌≡◌, List, ℕ, ◌<◌}
use Rattle.std.proofs.Common.{ap}
use Rattle.paper.specs.Numbers.{number, not_valid}
use Rattle.tables.specs.Tables.{Tables, tables, edge_room_of}
use Rattle.tables.specs.Valid.{Lengths}
use Rattle.edges.specs.Told.{Checked, lengths_bounding, checked_refused}
use Rattle.actors.specs.Actors.{actor_number, opening, opened, if_actors_done}

-- the tables with the counts us
abbrev pub counted : Tables → List ℕ → Tables
counted t us = tables t.hashes t.nodes t.targets t.nexts t.clocks us

-- the number that opening for a actors gives, and the tables afterwards
abbrev pub open_number : ℕ → Tables → ℕ
open_number a t = actor_number (opening t a)

abbrev pub open_tables : ℕ → Tables → Tables
open_tables a t = if_actors_done (opening t a) (opened t a) t

-- opening the tables t for a actors answers r and leaves the counts us: checked are the lengths alone
abbrev pub Opened : ℕ → ℕ → List ℕ → Tables → Type 0
Opened a r us t = Checked Lengths (open_number a) (open_tables a) t r (counted t us)

pub opened_refused : (a r : ℕ) (us : List ℕ) (t : Tables) → 16384 < edge_room_of t → (r ≡ number not_valid) × (us ≡ t.counts) → Opened a r us t
opened_refused a r us t l o = checked_refused Lengths lengths_bounding t l (open_number a) (open_tables a) r (counted t us) (o.0, ap (counted t) o.1)
