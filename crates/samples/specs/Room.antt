-- Tables of the hub's room.
-- Assumes nothing.
use Rattle.std.specs.Prelude.{◌≡◌, length}
use Rattle.tables.specs.Tables.{Tables}

-- room for 4,096 changes, 16,384 edges and 64 actors
pub record Room (t : Tables) : Type 0 where
  pub hashes_long : length t.hashes ≡ 131072
  pub nodes_long : length t.nodes ≡ 24576
  pub targets_long : length t.targets ≡ 16384
  pub nexts_long : length t.nexts ≡ 16384
  pub clocks_long : length t.clocks ≡ 262144
  pub counts_long : length t.counts ≡ 3
