-- What throwing the cached clocks away comes to, of the lent tables before and after.
-- Assumes nothing.
use Rattle.std.specs.Prelude.{◌≡◌, List, ℕ, ◌<◌}
use Rattle.std.proofs.Common.{ap}
use Rattle.paper.specs.Numbers.{number, done, not_valid}
use Rattle.tables.specs.Tables.{Tables, tables, edge_room_of}
use Rattle.tables.specs.Valid.{Valid}
use Rattle.cache.specs.Cache.{forgotten}
use Rattle.edges.specs.Told.{Checked, valid_bounding, checked_refused}

-- the tables with the clocks cs
abbrev pub clocked : Tables → List ℕ → Tables
clocked t cs = tables t.hashes t.nodes t.targets t.nexts cs t.counts

-- the tables t are valid, the answer is 0 and the clocks cs are left, with no row of a change cached; or they are not, and the answer is 1
abbrev pub Forgot : ℕ → List ℕ → Tables → Type 0
Forgot r cs t = Checked Valid (λ (u : Tables). number done) (λ (u : Tables). clocked u (forgotten u)) t r (clocked t cs)

pub forgot_refused : (r : ℕ) (cs : List ℕ) (t : Tables) → 16384 < edge_room_of t → (r ≡ number not_valid) × (cs ≡ t.clocks) → Forgot r cs t
forgot_refused r cs t l o = checked_refused Valid valid_bounding t l (λ (u : Tables). number done) (λ (u : Tables). clocked u (forgotten u)) r (clocked t cs) (o.0, ap (clocked t) o.1)
