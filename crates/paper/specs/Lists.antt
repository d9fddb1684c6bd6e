-- Lists, hashes and tests that the definitions are written in.
-- Assumes nothing.
use Rattle.std.specs.Prelude.{Bool, true, false, cond, ◌&&◌, ◌||◌, List, [], ◌∷◌, ◌++◌, ℕ, zero, suc, ◌+◌, ◌*◌, ◌/◌, eqb, ltb, length, take, drop}

-- ---- numbers

-- k stands in the list
unfoldable pub mem : ℕ → List ℕ → Bool
mem k [] = false
mem k (x ∷ xs) = eqb k x || mem k xs

-- the numbers below m that pass the test, in ascending order
unfoldable pub pick : (ℕ → Bool) → ℕ → List ℕ
pick p zero = []
pick p (suc m) = cond (p m) (pick p m ++ (m ∷ [])) (pick p m)

-- how many numbers below m pass the test
unfoldable pub tally : (ℕ → Bool) → ℕ → ℕ
tally p zero = 0
tally p (suc m) = tally p m + cond (p m) 1 0

-- some number below m passes the test
unfoldable pub some_below : (ℕ → Bool) → ℕ → Bool
some_below p zero = false
some_below p (suc m) = some_below p m || p m

-- every number below m passes the test
unfoldable pub all_below : (ℕ → Bool) → ℕ → Bool
all_below p zero = true
all_below p (suc m) = all_below p m && p m

-- the first of the `left` numbers from k on that passes the test, or k + left
unfoldable pub first_from : (ℕ → Bool) → ℕ → ℕ → ℕ
first_from p zero k = k
first_from p (suc left) k = cond (p k) k (first_from p left (suc k))

-- the first number below m that passes the test, or m
unfoldable pub first_below : (ℕ → Bool) → ℕ → ℕ
first_below p m = first_from p m 0

-- f 0 + f 1 + .. , m summands
unfoldable pub sum_below : (ℕ → ℕ) → ℕ → ℕ
sum_below f zero = 0
sum_below f (suc m) = sum_below f m + f m

-- f 0, f 1, .. , m of them
unfoldable pub each_below {ℓ} : {A : Type ℓ} → (ℕ → A) → ℕ → List A
each_below f zero = []
each_below f (suc m) = each_below f m ++ (f m ∷ [])

-- every member passes the test
unfoldable pub all_in : (ℕ → Bool) → List ℕ → Bool
all_in p [] = true
all_in p (x ∷ xs) = p x && all_in p xs

-- ---- lists of anything

-- how many members of the list pass the test
unfoldable pub count {ℓ} : {A : Type ℓ} → (A → Bool) → List A → ℕ
count p [] = 0
count p (x ∷ xs) = cond (p x) 1 0 + count p xs

-- every member of the list passes the test
unfoldable pub every {ℓ} : {A : Type ℓ} → (A → Bool) → List A → Bool
every p [] = true
every p (x ∷ xs) = p x && every p xs

-- the members that pass the test, in order
unfoldable pub keep {ℓ} : {A : Type ℓ} → (A → Bool) → List A → List A
keep p [] = []
keep p (x ∷ xs) = cond (p x) (x ∷ keep p xs) (keep p xs)

-- ---- hashes, and lists of them

-- the same numbers in the same order
unfoldable pub same_list : List ℕ → List ℕ → Bool
same_list [] [] = true
same_list [] (y ∷ ys) = false
same_list (x ∷ xs) [] = false
same_list (x ∷ xs) (y ∷ ys) = cond (eqb x y) (same_list xs ys) false

-- xs is below ys as unsigned bytes, first byte first: at the first place where they differ xs has the smaller number, or xs ends there
unfoldable pub less_list : List ℕ → List ℕ → Bool
less_list [] [] = false
less_list [] (y ∷ ys) = true
less_list (x ∷ xs) [] = false
less_list (x ∷ xs) (y ∷ ys) = cond (eqb x y) (less_list xs ys) (ltb x y)

-- the hash h stands in the list
unfoldable pub names : List ℕ → List (List ℕ) → Bool
names h [] = false
names h (d ∷ ds) = same_list d h || names h ds

-- h put into an ascending list at its place, unless it stands there
unfoldable pub enter : List ℕ → List (List ℕ) → List (List ℕ)
enter h [] = h ∷ []
enter h (x ∷ xs) = cond (same_list h x) (x ∷ xs) (cond (less_list h x) (h ∷ x ∷ xs) (x ∷ enter h xs))

-- the listed hashes, ascending, each once
unfoldable pub ascending : List (List ℕ) → List (List ℕ)
ascending [] = []
ascending (h ∷ hs) = enter h (ascending hs)

-- hash k of hashes that stand one after the other: the 32 bytes at 32 k
unfoldable pub hash_at : List ℕ → ℕ → List ℕ
hash_at bytes k = take 32 (drop (32 * k) bytes)

-- the `left` hashes of a list of bytes from hash i on
unfoldable pub hashes_from : List ℕ → ℕ → ℕ → List (List ℕ)
hashes_from bytes zero i = []
hashes_from bytes (suc left) i = hash_at bytes i ∷ hashes_from bytes left (suc i)

-- the hashes of a list of bytes, 32 bytes each
unfoldable pub hashes_of : List ℕ → List (List ℕ)
hashes_of bytes = hashes_from bytes (length bytes / 32) 0
