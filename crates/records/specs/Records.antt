-- Whole records copied from tables to tables: hash, five numbers, and the bytes of the dependencies that it has.
use Rattle.std.specs.Prelude.{◌≡◌, ℕ, zero, suc, ◌+◌, ◌*◌, ◌<◌, ◌≤◌, List, [], ◌∷◌, ◌⊎◌, Bool, true, false, not, length, get_or, take, drop}
use Rattle.paper.specs.Lists.{mem, pick, tally}
use Rattle.list_laws.specs.Over.{over, part}
use Rattle.ready.specs.Tables.{dep_count}

-- the five numbers of record k
abbrev pub five_at : List ℕ → ℕ → List ℕ
five_at ns k = get_or ns (5 * k) 0 ∷ get_or ns (5 * k + 1) 0 ∷ get_or ns (5 * k + 2) 0 ∷ get_or ns (5 * k + 3) 0 ∷ get_or ns (5 * k + 4) 0 ∷ []

-- the bytes of its dependencies
abbrev pub dep_bytes : List ℕ → List ℕ → ℕ → List ℕ
dep_bytes ns ds k = part ds (1024 * k) (32 * dep_count ns k)

-- the tables t with m records from place `at` on: those of the positions f 0, f 1, ..
unfoldable pub fill_hashes : List ℕ → (ℕ → ℕ) → ℕ → ℕ → List ℕ → List ℕ
fill_hashes hs f at zero t = t
fill_hashes hs f at (suc m) t = over (fill_hashes hs f at m t) (32 * (at + m)) (part hs (32 * f m) 32)

unfoldable pub fill_numbers : List ℕ → (ℕ → ℕ) → ℕ → ℕ → List ℕ → List ℕ
fill_numbers ns f at zero t = t
fill_numbers ns f at (suc m) t = over (fill_numbers ns f at m t) (5 * (at + m)) (five_at ns (f m))

unfoldable pub fill_deps : List ℕ → List ℕ → (ℕ → ℕ) → ℕ → ℕ → List ℕ → List ℕ
fill_deps ns ds f at zero t = t
fill_deps ns ds f at (suc m) t = over (fill_deps ns ds f at m t) (1024 * (at + m)) (dep_bytes ns ds (f m))

-- three tables have room for n records
pub record Rooms (hs ns ds : List ℕ) (n : ℕ) : Type 0 where
  pub hashes : 32 * n ≤ length hs
  pub numbers : 5 * n ≤ length ns
  pub deps : 1024 * n ≤ length ds

-- the tables hs, ns, ds are filled into the others
pub record Filled (hs ns ds : List ℕ) (f : ℕ → ℕ) (at m : ℕ) (th tn td th' tn' td' : List ℕ) : Type 0 where
  pub hashes : th' ≡ fill_hashes hs f at m th
  pub numbers : tn' ≡ fill_numbers ns f at m tn
  pub deps : td' ≡ fill_deps ns ds f at m td

-- record k is copied to place `at`
pub record Copied (hs ns ds : List ℕ) (k at : ℕ) (th tn td th' tn' td' : List ℕ) : Type 0 where
  pub hashes : th' ≡ over th (32 * at) (part hs (32 * k) 32)
  pub numbers : tn' ≡ over tn (5 * at) (five_at ns k)
  pub deps : td' ≡ over td (1024 * at) (dep_bytes ns ds k)

-- each of n records has at most 32 dependencies
pub record Few (ns : List ℕ) (n : ℕ) : Type 0 where
  pub each : (i : ℕ) → i < n → dep_count ns i ≤ 32

-- the position that is listed at place p
abbrev pub place_of : List ℕ → ℕ → ℕ
place_of order p = get_or order p 0

-- the first r of the list are positions of n records
pub record Listable (hs ns ds : List ℕ) (n : ℕ) (order : List ℕ) (r : ℕ) : Type 0 where
  pub rooms : Rooms hs ns ds n
  pub few : Few ns n
  pub fits : r ≤ length order
  pub low : (p : ℕ) → p < r → place_of order p < n

-- the m positions f 0, f 1, .. are of records with room, of at most 32 dependencies each
pub record Source (hs ns ds : List ℕ) (f : ℕ → ℕ) (m : ℕ) : Type 0 where
  pub rooms : (i : ℕ) → i < m → Rooms hs ns ds (f i + 1)
  pub few : (i : ℕ) → i < m → dep_count ns (f i) ≤ 32

-- three tables keep their lengths
pub record SameLengths (th tn td th' tn' td' : List ℕ) : Type 0 where
  pub hashes : length th' ≡ length th
  pub numbers : length tn' ≡ length tn
  pub deps : length td' ≡ length td

-- from record i on the tables are as they were
pub record Behind (i : ℕ) (th tn td th' tn' td' : List ℕ) : Type 0 where
  pub hashes : drop (32 * i) th' ≡ drop (32 * i) th
  pub numbers : drop (5 * i) tn' ≡ drop (5 * i) tn
  pub deps : drop (1024 * i) td' ≡ drop (1024 * i) td

-- i is none of the first r listed
abbrev pub unlisted : List ℕ → ℕ → ℕ → Bool
unlisted order r i = not (mem i (take r order))

-- the first i records are gone through: those not listed stand at the front, w of them, in their order
pub record Closed (hs ns ds : List ℕ) (n : ℕ) (order : List ℕ) (r i : ℕ) (hs' ns' ds' : List ℕ) (w : ℕ) : Type 0 where
  pub counted : w ≡ tally (unlisted order r) i
  pub filled : Filled hs ns ds (place_of (pick (unlisted order r) n)) 0 w hs ns ds hs' ns' ds'
  pub lengths : SameLengths hs ns ds hs' ns' ds'
  pub behind : Behind i hs ns ds hs' ns' ds'

-- what keeping or taking out record i asks for
pub record Keepable (hs ns ds : List ℕ) (n : ℕ) (order : List ℕ) (r i w : ℕ) : Type 0 where
  pub rooms : Rooms hs ns ds n
  pub few : dep_count ns i ≤ 32
  pub fits : r ≤ length order
  pub small : n ≤ 256
  pub low : i < n
  pub back : w ≤ i

-- it is listed and nothing changes, or it is copied to place w
unfoldable pub Kept : List ℕ → List ℕ → List ℕ → List ℕ → ℕ → ℕ → ℕ → List ℕ → List ℕ → List ℕ → ℕ → Type 0
Kept hs ns ds order r i w hs' ns' ds' q =
    ((mem i (take r order) ≡ true) × (hs' ≡ hs) × (ns' ≡ ns) × (ds' ≡ ds) × (q ≡ w)) ⊎
    ((mem i (take r order) ≡ false) × Copied hs ns ds i w hs ns ds hs' ns' ds' × (q ≡ w + 1))
