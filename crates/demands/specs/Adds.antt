-- What `cg_add` leaves: the tables on every number but that of done, and the place for the unknown dependency on every number but its own. A known change.
-- Assumes nothing.
use Rattle.std.specs.Prelude.{◌≡◌, List, [], ℕ, ◌%◌, ◌<◌, length}
use Rattle.paper.specs.Lists.{hashes_of}
use Rattle.paper.specs.Numbers.{number, unknown_dependency}
use Rattle.paper.specs.Graph.{Graph, node}
use Rattle.paper.specs.Adding.{Change, first_unknown_place}
use Rattle.tables.specs.Tables.{Tables, graph}
use Rattle.lent_place.specs.Places.{told_in}
use Rattle.demands.specs.Refusals.{NotDone}

-- a well-formed change whose hash a node has, whatever its actor, sequence, ops and dependencies
pub record KnownChange (g : Graph) (x : Change) : Type 0 where
  pub hash_long : length x.hash ≡ 32
  pub deps_whole : length x.deps % 32 ≡ 0
  pub known : node g x.hash < g.size

-- the place, which held l, holds l': the one lent memory beside the text answer and its length that a refusal writes
pub record AddLeaves (x : Change) (l l' : List ℕ) (t : Tables) (r : ℕ) (t' : Tables) : Type 0 where
  pub tables_kept : NotDone r → t' ≡ t
  pub place_kept : (r ≡ number unknown_dependency → ⊥) → l' ≡ l
  -- the position of the first unknown dependency, and there is one
  pub place_told : r ≡ number unknown_dependency → l' ≡ told_in (first_unknown_place (graph t) (hashes_of x.deps)) l
  pub position_low : r ≡ number unknown_dependency → first_unknown_place (graph t) (hashes_of x.deps) < length (hashes_of x.deps)
  -- where no place is lent nothing is told
  pub no_place : l ≡ [] → l' ≡ []
