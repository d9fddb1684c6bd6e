-- The lent tables of a queue or a batch as the paper's queue: hashes 32 bytes each; numbers 5 each, actor key, sequence, max op, op count, number of
-- dependencies; deps 32 hashes each, of which the first are used.
use Rattle.std.specs.Prelude.{ℕ, ◌+◌, ◌*◌, ◌<◌, ◌≤◌, List, Bool, true, false, not, length, get_or, Some, None, Option}
use Rattle.paper.specs.Queue.{Waiting, Queue}
use Rattle.paper.specs.Lists.{hash_at, hashes_from}
use Rattle.hash.specs.Hash.{find_hash}

-- how many dependencies record i has
abbrev pub dep_count : List ℕ → ℕ → ℕ
dep_count ns i = get_or ns (5 * i + 4) 0

-- record i
abbrev pub record_at : List ℕ → List ℕ → List ℕ → ℕ → Waiting
record_at hs ns ds i =
    record {
      hash = hash_at hs i;
      key = get_or ns (5 * i) 0;
      seq = get_or ns (5 * i + 1) 0;
      max_op = get_or ns (5 * i + 2) 0;
      ops = get_or ns (5 * i + 3) 0;
      deps = hashes_from ds (dep_count ns i) (32 * i);
    }

-- the first n records
abbrev pub queue_of : List ℕ → List ℕ → List ℕ → ℕ → Queue
queue_of hs ns ds n = record { size = n; at = record_at hs ns ds }

-- a search found something
abbrev pub is_at : Option ℕ → Bool
is_at (Some k) = true
is_at None = false

-- h is one of the first m hashes of the graph's table
unfoldable pub known_in : List ℕ → ℕ → List ℕ → Bool
known_in gs m h = is_at (find_hash gs m h)

-- h is none of them
unfoldable pub none_of : List ℕ → ℕ → List ℕ → Bool
none_of gs m h = not (known_in gs m h)

-- numbers and dependencies have room for n records, of at most 32 dependencies each
pub record DepsHeld (ns ds : List ℕ) (n : ℕ) : Type 0 where
  pub in_numbers : 5 * n ≤ length ns
  pub in_deps : 1024 * n ≤ length ds
  pub few : (i : ℕ) → i < n → dep_count ns i ≤ 32
