-- Worked examples, computed: the sample of the paper, Hn being the byte 16 n + n 32 times.
use Rattle.std.specs.Prelude.{◌≡◌, refl, ℕ, ◌*◌, List, ◌++◌, true, replicate, Some, None}
use Rattle.paper.specs.Lists.{hash_at, same_list, less_list}
use Rattle.hash.specs.Hash.{same_hash, find_from, find_hash, less_hash, unknown_from, first_unknown}

abbrev H : ℕ → List ℕ
H n = replicate 32 (17 * n)

abbrev table : List ℕ
table = H 1 ++ (H 2 ++ H 3)

found : find_hash table 3 (H 3) ≡ Some 2
unfolding hash_at same_list same_hash find_from find_hash
found = refl

below : less_hash table 1 2 ≡ true
unfolding hash_at less_list less_hash
below = refl

unknown : first_unknown table 3 (H 1 ++ (H 4 ++ H 5)) ≡ Some 1
unfolding hash_at same_list same_hash find_from find_hash unknown_from first_unknown
unknown = refl

known : first_unknown table 3 (H 3 ++ H 1) ≡ None
unfolding hash_at same_list same_hash find_from find_hash unknown_from first_unknown
known = refl
