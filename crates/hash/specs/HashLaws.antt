-- Laws of the definitions of Hash.antt.
use Rattle.std.specs.Prelude.{◌≡◌, refl, ◌↔◌, ℕ, zero, suc, ◌+◌, ◌-◌, ◌*◌, ◌<◌, ◌≤◌, List, Bool, true, false, cond, ◌&&◌, nat_eq, [], ◌∷◌, length, take, drop, get_or, Some, None, Option}
use Rattle.std.proofs.Common.{sym, subst, ◌∙◌, ⊎_elim, add-one, length-take, length-drop, drop_of_length-le, get_or-take, get_or-drop, not-suc-le-zero, le_of_suc-le-suc, eq-or-lt_of_le}
use native.Mathlib.Omega.{arith}
use Rattle.std.proofs.lemmas.Bool.{false≢true}
use Rattle.std.proofs.Math.Seq.{drop-cons}
use borrow.Author.Tests.{eq-eqb, ne_eqb}
use lib.Pointwise.{pointwise}
use Rattle.paper.specs.Lists.{hash_at, same_list}
use Rattle.paper.proofs.Hashes.{same_refl, same→eq}
use Rattle.hash.specs.Hash.{same_hash, find_from, find_hash}

-- one step of the comparison, where it stands at j
module _ (xs ys : List ℕ) (j : ℕ) (hx : j < length xs) (hy : j < length ys) where
  pub same_step : get_or xs j 0 ≡ get_or ys j 0 → same_list (drop j xs) (drop j ys) ≡ same_list (drop (j + 1) xs) (drop (j + 1) ys)
  unfolding same_list
  same_step e = rw (drop-cons xs j 0 hx, drop-cons ys j 0 hy, eq-eqb _ _ e, add-one)

  pub same_stop : (get_or xs j 0 ≡ get_or ys j 0 → ⊥) → same_list (drop j xs) (drop j ys) ≡ false
  unfolding same_list
  same_stop e = rw (drop-cons xs j 0 hx, drop-cons ys j 0 hy, ne_eqb _ _ e)

pub same_end : (xs ys : List ℕ) (j : ℕ) → length xs ≤ j → length ys ≤ j → same_list (drop j xs) (drop j ys) ≡ true
unfolding same_list
same_end xs ys j hx hy = rw (drop_of_length-le xs hx, drop_of_length-le ys hy)

-- same_hash says whether hash k is h
pub same_iff : (hs : List ℕ) (k : ℕ) (h : List ℕ) → (same_hash hs k h ≡ true) ↔ (hash_at hs k ≡ h)
unfolding same_hash
same_iff hs k h = (same→eq (hash_at hs k) h, λ e. rw e (same_refl h))

-- a hash that lies in the table has 32 bytes, byte j of it at 32 * k + j
module _ (hs : List ℕ) (k : ℕ) (fits : 32 * k + 32 ≤ length hs) where
  pub hash_length : length (hash_at hs k) ≡ 32
  unfolding hash_at
  hash_length = simp (length-take, length-drop) (omega arith)

  pub hash_byte : (j : ℕ) → j < 32 → get_or (hash_at hs k) j 0 ≡ get_or hs (32 * k + j) 0
  unfolding hash_at
  hash_byte j l = rw (get_or-take, get_or-drop)

-- the part of a list that is lent as its hash i
pub hash_part : (ds : List ℕ) (i : ℕ) → take (32 * i + 32 - 32 * i) (drop (32 * i) ds) ≡ hash_at ds i
unfolding hash_at
hash_part ds i = let e : 32 * i + 32 - 32 * i ≡ 32 = omega arith in rw e

-- one step of the comparison of hash k with h, where it stands at byte j
module _ (hs : List ℕ) (k : ℕ) (h : List ℕ) (fits : 32 * k + 32 ≤ length hs) (len : length h ≡ 32) (j : ℕ) (l : j < 32) where
  in_hash : j < length (hash_at hs k)
  in_hash = rw (hash_length hs k fits) l

  pub hash_step : get_or hs (32 * k + j) 0 ≡ get_or h j 0
      → same_list (drop j (hash_at hs k)) (drop j h) ≡ same_list (drop (j + 1) (hash_at hs k)) (drop (j + 1) h)
  hash_step e = same_step (hash_at hs k) h j in_hash (omega arith) (hash_byte hs k fits j l ∙ e)

  pub hash_stop : (get_or hs (32 * k + j) 0 ≡ get_or h j 0 → ⊥) → same_list (drop j (hash_at hs k)) (drop j h) ≡ false
  hash_stop e = same_stop (hash_at hs k) h j in_hash (omega arith) (λ q. e (sym (hash_byte hs k fits j l) ∙ q))

pub hash_end : (hs : List ℕ) (k : ℕ) (h : List ℕ) → 32 * k + 32 ≤ length hs → length h ≡ 32 → (j : ℕ) → 32 ≤ j
    → same_list (drop j (hash_at hs k)) (drop j h) ≡ true
hash_end hs k h fits len j l = same_end (hash_at hs k) h j (rw (hash_length hs k fits) l) (rw len l)

-- one step of the search, where it stands at k
module _ (hs h : List ℕ) (n k : ℕ) where
  left_one : k < n → n - k ≡ suc (n - (k + 1))
  left_one l = omega arith

  pub find_step : k < n → same_hash hs k h ≡ false → find_from hs h (n - k) k ≡ find_from hs h (n - (k + 1)) (k + 1)
  unfolding find_from
  find_step l e = rw (left_one l, e, add-one)

  pub find_hit : k < n → same_hash hs k h ≡ true → find_from hs h (n - k) k ≡ Some k
  unfolding find_from
  find_hit l e = rw (left_one l, e)

  pub find_end : n ≤ k → find_from hs h (n - k) k ≡ None
  unfolding find_from
  find_end l = let z : n - k ≡ 0 = omega arith in rw z

-- what the search finds: the first place of h below n, or that there is none
unfoldable pub FoundIs : List ℕ → ℕ → List ℕ → Option ℕ → Type 0
FoundIs hs n h (Some k) = (k < n) × (hash_at hs k ≡ h) × ((i : ℕ) → i < k → hash_at hs i ≡ h → ⊥)
FoundIs hs n h None = (i : ℕ) → i < n → hash_at hs i ≡ h → ⊥

-- what holds below k and at k holds below suc k
pub below_suc : {P : ℕ → Type 0} {k : ℕ} → ((i : ℕ) → i < k → P i) → P k → (i : ℕ) → i < suc k → P i
below_suc {P} all here i l = ⊎_elim (λ e. subst P (sym e) here) (λ lt. all i lt) (eq-or-lt_of_le (le_of_suc-le-suc l))

from_is : (hs h : List ℕ) (n left k : ℕ) → k + left ≡ n → ((i : ℕ) → i < k → hash_at hs i ≡ h → ⊥) → FoundIs hs n h (find_from hs h left k)
unfolding find_from FoundIs
from_is hs h n zero k e none = λ i l. none i (omega arith)
from_is hs h n (suc left) k e none = go (same_hash hs k h) refl (from_is hs h n left (suc k) (omega arith))
  where
    go : (b : Bool) → same_hash hs k h ≡ b
        → (((i : ℕ) → i < suc k → hash_at hs i ≡ h → ⊥) → FoundIs hs n h (find_from hs h left (suc k)))
        → FoundIs hs n h (cond b (Some k) (find_from hs h left (suc k)))
    go true p rest = (omega arith, (same_iff hs k h).0 p, none)
    go false p rest = rest (below_suc none (λ q. false≢true (sym p ∙ (same_iff hs k h).1 q)))

pub find_is : (hs : List ℕ) (n : ℕ) (h : List ℕ) → FoundIs hs n h (find_hash hs n h)
unfolding find_hash
find_is hs n h = from_is hs h n n 0 (omega arith) (λ i l. absurd (not-suc-le-zero l))

-- `==` on slices of bytes is the paper's equality of lists
both : (b : Bool) {s t : Bool} → s ≡ t → (b && s) ≡ cond b t false
both true e = e
both false e = refl

pub equal_is_same : (xs ys : List ℕ) → pointwise nat_eq xs ys ≡ same_list xs ys
unfolding same_list
equal_is_same [] [] = refl
equal_is_same [] (y ∷ ys) = refl
equal_is_same (x ∷ xs) [] = refl
equal_is_same (x ∷ xs) (y ∷ ys) = both (nat_eq x y) (equal_is_same xs ys)
