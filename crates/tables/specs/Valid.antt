-- Valid tables, part by part: what number 1 speaks of.
-- Assumes nothing.
use Rattle.std.specs.Prelude.{◌≡◌, ◌⊎◌, cond, List, [], ◌∷◌, ℕ, suc, ◌+◌, ◌*◌, ◌/◌, ◌≤◌, ◌<◌, eqb, length, get_or}
use Rattle.paper.specs.Lists.{hash_at}
use Rattle.paper.specs.Lists.{tally}
use Rattle.paper.specs.Graph.{wanted, clock}
use Rattle.tables.specs.Tables.{Tables, changes, edges, actors, change_room_of, edge_room_of, actor_room, width_of, actor_at, seq_at, max_op_at, ops_at, first_at, head_at, entry_at, graph}

-- lengths that agree, and room within the limits
pub record Lengths (t : Tables) : Type 0 where
  pub hashes_whole : length t.hashes ≡ 32 * change_room_of t
  pub changes_limit : change_room_of t ≤ 4096
  pub nodes_same : length t.nodes ≡ 6 * change_room_of t
  pub edges_limit : edge_room_of t ≤ 16384
  pub nexts_same : length t.nexts ≡ edge_room_of t
  pub actors_limit : actor_room t ≤ 64
  pub clocks_whole : length t.clocks ≡ change_room_of t * actor_room t
  pub counts_three : length t.counts ≡ 3

-- the counts us within the room that the other tables give
pub record Counts (hs ts cs us : List ℕ) : Type 0 where
  pub changes_fit : get_or us 0 0 ≤ length hs / 32
  pub edges_fit : get_or us 1 0 ≤ length ts
  pub actors_fit : get_or us 2 0 ≤ width_of hs cs

-- the first n hashes are distinct
unfoldable pub HashesDistinct : List ℕ → ℕ → Type 0
HashesDistinct hs n = (j : ℕ) → j < n → (i : ℕ) → i < j → hash_at hs i ≡ hash_at hs j → ⊥

-- an actor below the count, and rule 7: an op count not above the max op. (That a max op is below 2 ^ 32 the table's type says.)
pub record NumbersAt (ns : List ℕ) (w k : ℕ) : Type 0 where
  pub actor_low : actor_at ns k < w
  pub ops_low : ops_at ns k ≤ max_op_at ns k

unfoldable pub Numbers : List ℕ → ℕ → ℕ → Type 0
Numbers ns n w = (k : ℕ) → k < n → NumbersAt ns w k

-- edges c to d - 1 are one list, and their targets are below k
pub data Run (ts xs : List ℕ) (k : ℕ) : ℕ → ℕ → Type 0 where
  last : {c d : ℕ} → get_or ts c 0 < k → get_or xs c 0 ≡ 0 → d ≡ c + 1 → Run ts xs k c d
  more : {c d : ℕ} → get_or ts c 0 < k → get_or xs c 0 ≡ c + 2 → Run ts xs k (c + 1) d → Run ts xs k c d

-- the lists of the first n nodes are the first c edges, in order: read node by node, they give edges 0, 1, 2, ..
-- Rule 8: a list has at most 32 edges
pub data Laid (ns ts xs : List ℕ) : ℕ → ℕ → Type 0 where
  none : {n c : ℕ} → n ≡ 0 → c ≡ 0 → Laid ns ts xs n c
  bare : {n m c : ℕ} → Laid ns ts xs n c → m ≡ n + 1 → first_at ns n ≡ 0 → Laid ns ts xs m c
  some : {n m c d : ℕ} → Laid ns ts xs n c → m ≡ n + 1 → first_at ns n ≡ c + 1 → Run ts xs n c d → d ≤ c + 32 → Laid ns ts xs m d

-- how many of the first k nodes are the actor a's
abbrev pub count_of : List ℕ → ℕ → ℕ → ℕ
count_of ns a k = tally (λ j. eqb (actor_at ns j) a) k

-- the sequences of an actor run 1, 2, 3 in node order
unfoldable pub Running : List ℕ → ℕ → Type 0
Running ns n = (k : ℕ) → k < n → seq_at ns k ≡ suc (count_of ns (actor_at ns k) k)

-- heads as defined: a node's flag is 1 exactly if no node depends on it, and else 0
unfoldable pub Heads : Tables → Type 0
Heads t = (k : ℕ) → k < changes t → head_at t.nodes k ≡ cond (wanted (graph t) k) 0 1

-- each row of the clock table is node k's clock, or all 0
unfoldable pub Rows : Tables → Type 0
Rows t =
    (k : ℕ) → k < changes t →
    ((a : ℕ) → a < actor_room t → entry_at t k a ≡ 0) ⊎ ((a : ℕ) → a < actor_room t → entry_at t k a ≡ clock (graph t) (k ∷ []) a)

-- all of it but the cached clocks
pub record Sound (t : Tables) : Type 0 where
  pub lengths : Lengths t
  pub counts : Counts t.hashes t.targets t.clocks t.counts
  pub distinct : HashesDistinct t.hashes (changes t)
  pub numbers : Numbers t.nodes (changes t) (actors t)
  pub laid : Laid t.nodes t.targets t.nexts (changes t) (edges t)
  pub running : Running t.nodes (changes t)
  pub heads : Heads t

-- valid tables
pub record Valid (t : Tables) : Type 0 where
  pub sound : Sound t
  pub rows : Rows t
