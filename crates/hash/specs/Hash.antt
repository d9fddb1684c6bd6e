-- What the table of hashes says: hash k, whether it is a given one, and the first that is.
use Rattle.std.specs.Prelude.{ℕ, zero, suc, ◌/◌, List, Bool, cond, length, Some, None, Option}
use Rattle.paper.specs.Lists.{hash_at, same_list, less_list}

-- hash k of the table is h
unfoldable pub same_hash : List ℕ → ℕ → List ℕ → Bool
same_hash hs k h = same_list (hash_at hs k) h

-- the first of the `left` hashes from k on that is h
unfoldable pub find_from : List ℕ → List ℕ → ℕ → ℕ → Option ℕ
find_from hs h zero k = None
find_from hs h (suc left) k = cond (same_hash hs k h) (Some k) (find_from hs h left (suc k))

-- the first of the table's first n hashes that is h
unfoldable pub find_hash : List ℕ → ℕ → List ℕ → Option ℕ
find_hash hs n h = find_from hs h n 0

-- hash a of the table is below hash b
unfoldable pub less_hash : List ℕ → ℕ → ℕ → Bool
less_hash hs a b = less_list (hash_at hs a) (hash_at hs b)

-- the one where a search found something, the other where not
abbrev pub if_found : Option ℕ → Option ℕ → Option ℕ → Option ℕ
if_found (Some k) yes' no' = yes'
if_found None yes' no' = no'

-- the first of the `left` hashes of ds from i on that is none of the table's first n
unfoldable pub unknown_from : List ℕ → ℕ → List ℕ → ℕ → ℕ → Option ℕ
unknown_from hs n ds zero i = None
unknown_from hs n ds (suc left) i = if_found (find_hash hs n (hash_at ds i)) (unknown_from hs n ds left (suc i)) (Some i)

-- the first of the hashes of ds that is none of the table's first n
unfoldable pub first_unknown : List ℕ → ℕ → List ℕ → Option ℕ
first_unknown hs n ds = unknown_from hs n ds (length ds / 32) 0
