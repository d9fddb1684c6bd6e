-- Laws of less_hash: the steps of comparing two hashes, and what the order of slices says of it.
use Rattle.std.specs.Prelude.{◌≡◌, refl, ℕ, ◌+◌, ◌*◌, ◌<◌, ◌≤◌, List, [], ◌∷◌, Bool, cond, true, false, length, drop, get_or, eqb, ltb}
use Rattle.std.specs.Ordering.{nat_cmp, is_lt, ordering_then}
use Rattle.std.specs.declared.cmp.Ordering.{Ordering}
use Rattle.std.specs.declared.cmp.Ordering.TheVariants.{Less, Equal, Greater}
use native.Mathlib.Omega.{arith}
use Rattle.std.specs.Cmp.Lexicographic.{slice_cmp}
use Rattle.std.proofs.Common.{sym, ◌∙◌, add-one}
use Rattle.std.proofs.Math.ListN.{drop_of_length-le}
use Rattle.std.proofs.Math.Seq.{drop-cons}
use borrow.Author.Tests.{eq-eqb, ne_eqb, ltb-true, eqb-true}
use Rattle.paper.specs.Lists.{hash_at, less_list}
use Rattle.hash.specs.HashLaws.{hash_length, hash_byte}

-- one step of the comparison, where it stands at j
module _ (xs ys : List ℕ) (j : ℕ) (hx : j < length xs) (hy : j < length ys) where
  pub less_step : get_or xs j 0 ≡ get_or ys j 0 → less_list (drop j xs) (drop j ys) ≡ less_list (drop (j + 1) xs) (drop (j + 1) ys)
  unfolding less_list
  less_step e = rw (drop-cons xs j 0 hx, drop-cons ys j 0 hy, eq-eqb _ _ e, add-one)

  pub less_stop : (get_or xs j 0 ≡ get_or ys j 0 → ⊥) → less_list (drop j xs) (drop j ys) ≡ ltb (get_or xs j 0) (get_or ys j 0)
  unfolding less_list
  less_stop e = rw (drop-cons xs j 0 hx, drop-cons ys j 0 hy, ne_eqb _ _ e)

module _ (hs : List ℕ) (a b : ℕ) (fa : 32 * a + 32 ≤ length hs) (fb : 32 * b + 32 ≤ length hs) (j : ℕ) where
  pub byte_step : j < 32 → get_or hs (32 * a + j) 0 ≡ get_or hs (32 * b + j) 0
      → less_list (drop j (hash_at hs a)) (drop j (hash_at hs b)) ≡ less_list (drop (j + 1) (hash_at hs a)) (drop (j + 1) (hash_at hs b))
  byte_step l e =
      less_step (hash_at hs a) (hash_at hs b) j (rw (hash_length hs a fa) l) (rw (hash_length hs b fb) l)
      (hash_byte hs a fa j l ∙ (e ∙ sym (hash_byte hs b fb j l)))

  pub byte_stop : j < 32 → (get_or hs (32 * a + j) 0 ≡ get_or hs (32 * b + j) 0 → ⊥)
      → less_list (drop j (hash_at hs a)) (drop j (hash_at hs b)) ≡ ltb (get_or hs (32 * a + j) 0) (get_or hs (32 * b + j) 0)
  byte_stop l e =
      rw (← hash_byte hs a fa j l, ← hash_byte hs b fb j l)
      (less_stop (hash_at hs a) (hash_at hs b) j (rw (hash_length hs a fa) l) (rw (hash_length hs b fb) l)
      (λ q. e (sym (hash_byte hs a fa j l) ∙ (q ∙ hash_byte hs b fb j l))))

  pub byte_end : 32 ≤ j → less_list (drop j (hash_at hs a)) (drop j (hash_at hs b)) ≡ false
  unfolding less_list
  byte_end l =
      rw (drop_of_length-le (hash_at hs a) {i = j} (rw (hash_length hs a fa) l), drop_of_length-le (hash_at hs b) {i = j} (rw (hash_length hs b fb) l))

-- the first pair of bytes decides, or else the rest
by_test : (b c : Bool) → (b ≡ true → c ≡ true → ⊥) → (rest : Ordering) (t : Bool) → is_lt rest ≡ t → is_lt (ordering_then (cond b Less (cond c Equal Greater)) rest) ≡ cond c t b
by_test true true n rest t e = absurd (n refl refl)
by_test true false n rest t e = refl
by_test false true n rest t e = e
by_test false false n rest t e = refl

first_decides : (x y : ℕ) (rest : Ordering) (t : Bool) → is_lt rest ≡ t → is_lt (ordering_then (nat_cmp x y) rest) ≡ cond (eqb x y) t (ltb x y)
first_decides x y = by_test (ltb x y) (eqb x y) (λ l e. omega (arith, ltb-true x y l, eqb-true x y e))

-- the order of slices of bytes is the paper's order of lists
pub order_is_less : (xs ys : List ℕ) → is_lt (slice_cmp nat_cmp xs ys) ≡ less_list xs ys
unfolding less_list
order_is_less [] [] = refl
order_is_less [] (y ∷ ys) = refl
order_is_less (x ∷ xs) [] = refl
order_is_less (x ∷ xs) (y ∷ ys) = first_decides x y (slice_cmp nat_cmp xs ys) (less_list xs ys) (order_is_less xs ys)
