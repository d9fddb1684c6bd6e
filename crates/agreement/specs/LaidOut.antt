-- What valid says of the tables alone, beside the graph that they hold.
-- Assumes nothing.
use Rattle.std.specs.Prelude.{◌≡◌, List, ℕ, ◌+◌, ◌*◌, ◌≤◌, ◌<◌, length, get_or}
use Rattle.tables.specs.Tables.{Tables, changes, edges, actors, change_room_of, edge_room_of, actor_room, max_op_at, first_at}
use Rattle.tables.specs.Valid.{Heads, Rows}
use Rattle.waiting.specs.Valid.{room}

-- edges c to d - 1 are one list
pub data EdgeList (xs : List ℕ) : ℕ → ℕ → Type 0 where
  ends : {c d : ℕ} → get_or xs c 0 ≡ 0 → d ≡ c + 1 → EdgeList xs c d
  goes_on : {c d : ℕ} → get_or xs c 0 ≡ c + 2 → EdgeList xs (c + 1) d → EdgeList xs c d

-- the lists of the first n nodes are the first c edges, in order: read node by node, they give edges 0, 1, 2, ..
pub data InOrder (ns xs : List ℕ) : ℕ → ℕ → Type 0 where
  empty : {n c : ℕ} → n ≡ 0 → c ≡ 0 → InOrder ns xs n c
  no_edge : {n m c : ℕ} → InOrder ns xs n c → m ≡ n + 1 → first_at ns n ≡ 0 → InOrder ns xs m c
  some_edges : {n m c d : ℕ} → InOrder ns xs n c → m ≡ n + 1 → first_at ns n ≡ c + 1 → EdgeList xs c d → InOrder ns xs m d

-- no max op above 4,294,967,295, as the type of the nodes table says
unfoldable pub MaxOpsSmall : Tables → Type 0
MaxOpsSmall t = (k : ℕ) → k < changes t → max_op_at t.nodes k ≤ 4294967295

-- of a graph's tables
pub record LaidOut (t : Tables) : Type 0 where
  -- lengths agree, and no table ends inside a record
  pub hashes_whole : length t.hashes ≡ 32 * change_room_of t
  pub nodes_same : length t.nodes ≡ 6 * change_room_of t
  pub nexts_same : length t.nexts ≡ edge_room_of t
  pub clocks_whole : length t.clocks ≡ change_room_of t * actor_room t
  pub counts_three : length t.counts ≡ 3
  -- room for at most 64 actors, and for those counted
  pub actors_limit : actor_room t ≤ 64
  pub actors_fit : actors t ≤ actor_room t
  -- the edges counted lie in the table, in order
  pub edges_fit : edges t ≤ edge_room_of t
  pub in_order : InOrder t.nodes t.nexts (changes t) (edges t)
  -- head flags and rows of cached clocks
  pub heads : Heads t
  pub rows : Rows t

-- of a queue's or batch's tables: lengths agree, and there is one count
pub record QueueLaid (hs ns ds cs : List ℕ) : Type 0 where
  pub one_count : length cs ≡ 1
  pub hashes_whole : length hs ≡ 32 * room hs
  pub numbers_agree : length ns ≡ 5 * room hs
  pub deps_agree : length ds ≡ 1024 * room hs
