-- Laws of first-from and first_below: the first number that passes a test.
-- Assumes nothing.
use mathlib.Core.Path.{◌≡◌, sym, ap, ◌∙◌}
use mathlib.Core.Logic.{⊎_elim}
use mathlib.Core.Bool.{Bool, true, false}
use Prim.Native.Nat.{ℕ, zero, suc, ◌+◌, ◌-◌, ◌≤◌, ◌<◌}
use native.Mathlib.Nat.{sub-zero}
use native.Mathlib.Numerals.{add-one}
use native.Mathlib.Omega.{arith}
use Rattle.paper.specs.Lists.{first_from, first_below}
use Rattle.paper.proofs.Bools.{by_bool, not-both, below_suc, below_or_not}

-- ---- a scan that stands at k

module _ (p : ℕ → Bool) (m k : ℕ) where
  left_one : k < m → m - k ≡ suc (m - (k + 1))
  left_one l = omega arith

  pub first_next : k < m → p k ≡ false → first_from p (m - k) k ≡ first_from p (m - (k + 1)) (k + 1)
  unfolding first_from
  first_next l e = rw (left_one l, e, add-one)

  pub first_hit : k < m → p k ≡ true → first_from p (m - k) k ≡ k
  unfolding first_from
  first_hit l e = rw (left_one l, e)

  pub first_end : m ≤ k → first_from p (m - k) k ≡ k
  unfolding first_from
  first_end l = let z : m - k ≡ 0 = omega arith in rw z

pub first_start : (p : ℕ → Bool) (m : ℕ) → first_from p (m - 0) 0 ≡ first_below p m
unfolding first_below
first_start p m = rw sub-zero

-- ---- what it says

from_none : (p : ℕ → Bool) (left k : ℕ) → ((j : ℕ) → k ≤ j → j < k + left → p j ≡ false) → first_from p left k ≡ k + left
unfolding first_from
from_none p zero k h = omega arith
from_none p (suc left) k h = rw (h k (omega arith) (omega arith)) (from_none p left (suc k) (λ j a b. h j (omega arith) (omega arith)) ∙ omega arith)

from_is : (p : ℕ → Bool) (left k i : ℕ) → k ≤ i → i < k + left → p i ≡ true → ((j : ℕ) → k ≤ j → j < i → p j ≡ false) → first_from p left k ≡ i
unfolding first_from
from_is p zero k i a b t h = absurd (omega arith)
from_is p (suc left) k i a b t h =
    by_bool (p k)
    (λ y. rw y (same k i a y h))
    (λ n. rw n (from_is p left (suc k) i (later k i a n t) (omega arith) t (λ j c d. h j (omega arith) d)))
  where
    same : (k i : ℕ) → k ≤ i → p k ≡ true → ((j : ℕ) → k ≤ j → j < i → p j ≡ false) → k ≡ i
    same k i a y h = ⊎_elim (λ l. not-both y (h k (omega arith) l)) (λ l. omega arith) (below_or_not k i)

    later : (k i : ℕ) → k ≤ i → p k ≡ false → p i ≡ true → suc k ≤ i
    later k i a n t = ⊎_elim (λ l. l) (λ l. let e : i ≡ k = omega arith in not-both t (ap p e ∙ n)) (below_or_not k i)

-- none passes
pub first_none : (p : ℕ → Bool) (m : ℕ) → ((j : ℕ) → j < m → p j ≡ false) → first_below p m ≡ m
unfolding first_below
first_none p m h = from_none p m 0 (λ j a b. h j (omega arith)) ∙ omega arith

-- i passes, and none before it
pub first_is : (p : ℕ → Bool) (m i : ℕ) → i < m → p i ≡ true → ((j : ℕ) → j < i → p j ≡ false) → first_below p m ≡ i
unfolding first_below
first_is p m i l t h = from_is p m 0 i (omega arith) (omega arith) t (λ j a b. h j b)

-- the first that passes, or that none does
pub record Firstly (p : ℕ → Bool) (m r : ℕ) : Type 0 where
  pub within : r ≤ m
  pub passes : r < m → p r ≡ true
  pub none_before : (j : ℕ) → j < r → p j ≡ false

from_says : (p : ℕ → Bool) (m left k : ℕ) → k + left ≡ m → ((j : ℕ) → j < k → p j ≡ false) → Firstly p m (first_from p left k)
unfolding first_from
from_says p m zero k e h = record { within = omega arith; passes = λ l. absurd (omega arith); none_before = h }
from_says p m (suc left) k e h =
    by_bool (p k)
    (λ t. rw t (record { within = omega arith; passes = λ l. t; none_before = h }))
    (λ f. rw f (from_says p m left (suc k) (omega arith) (λ j l. below_suc (λ (i : ℕ). p i ≡ false) k j l (h j) f)))

pub first_says : (p : ℕ → Bool) (m : ℕ) → Firstly p m (first_below p m)
unfolding first_below
first_says p m = from_says p m m 0 (omega arith) (λ j l. absurd (omega arith))

-- two tests that agree below m
pub first_ext : (p q : ℕ → Bool) (m : ℕ) → ((k : ℕ) → k < m → p k ≡ q k) → first_below p m ≡ first_below q m
first_ext p q m h =
    let s = first_says q m in
    ⊎_elim
    (λ l. first_is p m (first_below q m) l (h (first_below q m) l ∙ s.passes l) (λ j b. h j (omega arith) ∙ s.none_before j b))
    (λ l. let e : first_below q m ≡ m = (let w = s.within in omega arith) in first_none p m (λ j b. h j b ∙ s.none_before j (omega arith)) ∙ sym e)
    (below_or_not (first_below q m) m)
