-- What the public operations on actors come to, of the lent tables before and after.
-- Assumes nothing.
use Rattle.std.specs.Prelude.{◌≡◌, List, ℕ, ◌<◌}
use Rattle.paper.specs.Numbers.{number, not_valid}
use Rattle.tables.specs.Tables.{Tables, tables, edge_room_of}
use Rattle.tables.specs.Valid.{Valid}
use Rattle.edges.specs.Told.{Checked, valid_bounding, checked_refused}
use Rattle.actors.specs.Actors.{actor_number, inserting, actor_inserted, removing, actor_removed, if_actors_done}

-- the tables with the nodes ns, the clocks cs and the counts us
abbrev pub renewed : Tables → List ℕ → List ℕ → List ℕ → Tables
renewed t ns cs us = tables t.hashes ns t.targets t.nexts cs us

same : (t : Tables) {ns cs us : List ℕ} → ns ≡ t.nodes → cs ≡ t.clocks → us ≡ t.counts → renewed t ns cs us ≡ t
same t a b c = rw (a, b, c)

-- one more at place p: the number, and the tables afterwards
abbrev pub insert_number : ℕ → Tables → ℕ
insert_number p t = actor_number (inserting t p)

abbrev pub insert_tables : ℕ → Tables → Tables
insert_tables p t = if_actors_done (inserting t p) (actor_inserted t p) t

-- the tables t are valid, the answer is r, and the nodes ns, the clocks cs and the counts us are left; or they are not, and the answer is 1
abbrev pub Inserted : ℕ → ℕ → List ℕ → List ℕ → List ℕ → Tables → Type 0
Inserted p r ns cs us t = Checked Valid (insert_number p) (insert_tables p) t r (renewed t ns cs us)

pub inserted_refused : (p r : ℕ) (ns cs us : List ℕ) (t : Tables) → 16384 < edge_room_of t → (r ≡ number not_valid) × (ns ≡ t.nodes) × (cs ≡ t.clocks) × (us ≡ t.counts) → Inserted p r ns cs us t
inserted_refused p r ns cs us t l o = checked_refused Valid valid_bounding t l (insert_number p) (insert_tables p) r (renewed t ns cs us) (o.0, same t o.1 o.2 o.3)

-- the one at place p away: the number, and the tables afterwards
abbrev pub remove_number : ℕ → Tables → ℕ
remove_number p t = actor_number (removing t p)

abbrev pub remove_tables : ℕ → Tables → Tables
remove_tables p t = if_actors_done (removing t p) (actor_removed t p) t

-- the tables t are valid, the answer is r, and the nodes ns, the clocks cs and the counts us are left; or they are not, and the answer is 1
abbrev pub Removed : ℕ → ℕ → List ℕ → List ℕ → List ℕ → Tables → Type 0
Removed p r ns cs us t = Checked Valid (remove_number p) (remove_tables p) t r (renewed t ns cs us)

pub removed_refused : (p r : ℕ) (ns cs us : List ℕ) (t : Tables) → 16384 < edge_room_of t → (r ≡ number not_valid) × (ns ≡ t.nodes) × (cs ≡ t.clocks) × (us ≡ t.counts) → Removed p r ns cs us t
removed_refused p r ns cs us t l o = checked_refused Valid valid_bounding t l (remove_number p) (remove_tables p) r (renewed t ns cs us) (o.0, same t o.1 o.2 o.3)
