-- How many dependencies of each waiting change are unknown yet, counted with repeats, and what the passes over the queue do with these numbers.
use Rattle.std.specs.Prelude.{◌≡◌, ℕ, ◌+◌, ◌-◌, ◌*◌, ◌<◌, ◌≤◌, List, ◌++◌, Bool, not, ◌&&◌, ◌||◌, eqb, length, take, get_or}
use Rattle.paper.specs.Lists.{same_list, count, pick, tally}
use Rattle.paper.specs.Queue.{Queue, among}
use Rattle.paper.specs.Lists.{hash_at, hashes_from}
use Rattle.ready.specs.Tables.{dep_count, none_of, DepsHeld}

-- the dependencies of i that are neither known nor the hash of one of the listed
unfoldable pub unmet : (List ℕ → Bool) → Queue → List ℕ → ℕ → ℕ
unmet known q l i = count (λ d. not (known d || among q l d)) (q.at i).deps

-- the dependencies of i that the graph does not know
unfoldable pub unknown_of : List ℕ → ℕ → List ℕ → List ℕ → ℕ → ℕ
unknown_of gs n ns ds i = count (none_of gs n) (hashes_from ds (dep_count ns i) (32 * i))

-- the dependencies of i that are the hash of k
unfoldable pub hits_of : List ℕ → List ℕ → List ℕ → ℕ → ℕ → ℕ
hits_of hs ns ds k i = count (same_list (hash_at hs k)) (hashes_from ds (dep_count ns i) (32 * i))

-- of the due ones, of which there are some, all are hit
abbrev pub last_hit : ℕ → ℕ → Bool
last_hit due hit = not (eqb due 0) && eqb due hit

-- i waited for what is hit and for nothing else
abbrev pub freed_by : List ℕ → (ℕ → ℕ) → ℕ → Bool
freed_by left hit i = last_hit (get_or left i 0) (hit i)

-- the first m of `left` are counted, and those with 0 listed
pub record Begun (f : ℕ → ℕ) (m : ℕ) (left₀ order₀ left : List ℕ) (r : ℕ) (order : List ℕ) : Type 0 where
  pub lefts : (i : ℕ) → i < m → get_or left i 0 ≡ f i
  pub list : take r order ≡ pick (λ i. eqb (f i) 0) m
  pub most : r ≤ m
  pub left_length : length left ≡ length left₀
  pub order_length : length order ≡ length order₀

-- what is hit is taken from the first m of `left`, the others stand, and those that it leaves with 0 are listed after the first r₀
pub record Passed (hit : ℕ → ℕ) (m : ℕ) (left₀ : List ℕ) (r₀ : ℕ) (order₀ left : List ℕ) (r : ℕ) (order : List ℕ) : Type 0 where
  pub lefts : (i : ℕ) → i < m → get_or left i 0 ≡ get_or left₀ i 0 - hit i
  pub others : (i : ℕ) → m ≤ i → get_or left i 0 ≡ get_or left₀ i 0
  pub list : take r order ≡ take r₀ order₀ ++ pick (freed_by left₀ hit) m
  pub listed : r ≡ r₀ + tally (freed_by left₀ hit) m
  pub left_length : length left ≡ length left₀
  pub order_length : length order ≡ length order₀

-- what the pass for k asks for
pub record Freeable (hs ns ds : List ℕ) (m k : ℕ) (left : List ℕ) (from : ℕ) (order : List ℕ) : Type 0 where
  pub hash_in : 32 * k + 32 ≤ length hs
  pub held : DepsHeld ns ds m
  pub small : m ≤ 256
  pub left_room : m ≤ length left
  pub enough : (i : ℕ) → i < m → hits_of hs ns ds k i ≤ get_or left i 0
  pub room : from + tally (freed_by left (hits_of hs ns ds k)) m ≤ length order
