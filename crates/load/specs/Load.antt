-- Loading: the tables after it, and what filling them needs.
-- Assumes nothing.
use Rattle.std.specs.Prelude.{◌≡◌, true, cond, List, ℕ, ◌+◌, ◌*◌, ◌≤◌, ◌<◌, eqb, length, get_or}
use Rattle.paper.specs.Lists.{mem}
use Rattle.paper.specs.Numbers.{Outcome, number}
use Rattle.paper.specs.Loading.{Columns, listed_changes, deps_before, deps_of_columns, changes_of, judged_load}
use Rattle.tables.specs.Tables.{Tables, change_room_of, edge_room_of, actor_room}
use Rattle.graph.specs.Place.{adds}
use Rattle.actors.specs.Actors.{opened}

-- what loading into the tables comes to
abbrev pub loading : Tables → Columns → Outcome
loading t c = judged_load (change_room_of t) (edge_room_of t) (actor_room t) c

-- the tables after it: where it is done, opened and with the columns' changes added in order, and else as they were
unfoldable pub loaded : Tables → Columns → Tables
loaded t c = cond (eqb (number (loading t c)) 0) (adds (opened t c.actor_count) (changes_of c)) t

-- the hash of every listed node lies in the column
pub record Inside (ids deps : List ℕ) : Type 0 where
  pub each : (j : ℕ) → mem j deps ≡ true → 32 * j + 32 ≤ length ids

-- what filling reads lies in the columns
pub record Fillable (c : Columns) : Type 0 where
  pub actors_long : length c.actors ≡ listed_changes c
  pub seqs_long : length c.seqs ≡ listed_changes c
  pub max_ops_long : length c.max_ops ≡ listed_changes c
  pub op_counts_long : length c.op_counts ≡ listed_changes c
  pub dep_counts_long : length c.dep_counts ≡ listed_changes c
  pub few : (k : ℕ) → k < listed_changes c → get_or c.dep_counts k 0 ≤ 32
  pub enough : deps_before c (listed_changes c) ≤ length c.dep_values
  pub down : (k j : ℕ) → k < listed_changes c → mem j (deps_of_columns c k) ≡ true → j < k
