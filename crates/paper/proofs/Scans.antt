-- Scans: a loop that tests every number below n, or looks for one, step by step; and tests of a list's members as tests of its places.
-- Assumes nothing.
use mathlib.Core.Path.{◌≡◌, refl, sym, ap, ◌∙◌}
use mathlib.Core.Bool.{Bool, true, false, ◌&&◌}
use mathlib.Core.List.{List}
use Prim.Native.Nat.{ℕ, zero, suc, ◌+◌, ◌≤◌, ◌<◌}
use mathlib.Core.Logic.{⊎_elim}
use native.Mathlib.Nat.{eq-or-lt_of_le}
use native.Mathlib.Numerals.{add-one}
use native.Mathlib.Omega.{arith}
use lib.Dec.{eqb}
use lib.ListN.{length, get_or}
use borrow.Author.Tests.{eqb-true, eq-eqb}
use Rattle.paper.specs.Lists.{mem, some_below, all_below, all_in, sum_below, tally}
use Rattle.paper.proofs.Bools.{not-both, to_false, same_bool, and_both, and_fst, and_snd, of_all, all_of, some_of, of_some, of_all_in, all_in_of, mem_get_d, mem_place}

-- ---- a loop over the numbers below n that stands at k

-- all so far passed the test
pub record Passed (p : ℕ → Bool) (n k : ℕ) : Type 0 where
  pub low : k ≤ n
  pub all : all_below p k ≡ true

-- none so far passed it
pub record Missed (p : ℕ → Bool) (n k : ℕ) : Type 0 where
  pub low : k ≤ n
  pub none : some_below p k ≡ false

module _ (p : ℕ → Bool) (n : ℕ) where
  pub all_start : Passed p n 0
  unfolding all_below
  all_start = record { low = omega arith; all = refl }

  pub all_next : {k : ℕ} → Passed p n k → k < n → p k ≡ true → Passed p n (k + 1)
  unfolding all_below
  all_next {k} a l h = record { low = omega arith; all = rw add-one (and_both (all_below p k) (p k) a.all h) }

  pub all_end : {k : ℕ} → Passed p n k → n ≤ k → true ≡ all_below p n
  all_end {k} a l = let e : k ≡ n = omega (arith, a.low) in sym a.all ∙ ap (all_below p) e

  pub all_no : (k : ℕ) → k < n → p k ≡ false → false ≡ all_below p n
  all_no k l f = sym (to_false (all_below p n) (λ t. not-both (of_all p n t k l) f))

  pub some_start : Missed p n 0
  unfolding some_below
  some_start = record { low = omega arith; none = refl }

  pub some_next : {k : ℕ} → Missed p n k → k < n → p k ≡ false → Missed p n (k + 1)
  unfolding some_below
  some_next {k} a l h = record { low = omega arith; none = rw (add-one, a.none) h }

  pub some_end : {k : ℕ} → Missed p n k → n ≤ k → false ≡ some_below p n
  some_end {k} a l = let e : k ≡ n = omega (arith, a.low) in sym a.none ∙ ap (some_below p) e

  pub some_yes : (k : ℕ) → k < n → p k ≡ true → true ≡ some_below p n
  some_yes k l t = sym (some_of p n k l t)

-- ---- both of two tests

-- every number passes both tests if every number passes each
pub all_both : (p q : ℕ → Bool) (n : ℕ) → all_below (λ k. p k && q k) n ≡ (all_below p n && all_below q n)
all_both p q n =
    same_bool (all_below (λ k. p k && q k) n) (all_below p n && all_below q n)
    (λ t.
    and_both (all_below p n) (all_below q n) (all_of p n (λ k l. and_fst (p k) (q k) (of_all (λ i. p i && q i) n t k l)))
    (all_of q n (λ k l. and_snd (p k) (q k) (of_all (λ i. p i && q i) n t k l))))
    (λ t.
    all_of (λ k. p k && q k) n
    (λ k l. and_both (p k) (q k) (of_all p n (and_fst (all_below p n) (all_below q n) t) k l) (of_all q n (and_snd (all_below p n) (all_below q n) t) k l)))

pub all_ext : (p q : ℕ → Bool) (n : ℕ) → ((k : ℕ) → k < n → p k ≡ q k) → all_below p n ≡ all_below q n
all_ext p q n h =
    same_bool (all_below p n) (all_below q n) (λ t. all_of q n (λ k l. sym (h k l) ∙ of_all p n t k l)) (λ t. all_of p n (λ k l. h k l ∙ of_all q n t k l))

pub both_in : (p q : ℕ → Bool) (s : List ℕ) → all_in (λ k. p k && q k) s ≡ (all_in p s && all_in q s)
both_in p q s =
    same_bool (all_in (λ k. p k && q k) s) (all_in p s && all_in q s)
    (λ t.
    and_both (all_in p s) (all_in q s) (all_in_of p s (λ k m. and_fst (p k) (q k) (of_all_in (λ i. p i && q i) s t k m)))
    (all_in_of q s (λ k m. and_snd (p k) (q k) (of_all_in (λ i. p i && q i) s t k m))))
    (λ t.
    all_in_of (λ k. p k && q k) s
    (λ k m. and_both (p k) (q k) (of_all_in p s (and_fst (all_in p s) (all_in q s) t) k m) (of_all_in q s (and_snd (all_in p s) (all_in q s) t) k m)))

-- ---- a list by its places

pub all_places : (p : ℕ → Bool) (s : List ℕ) → all_below (λ i. p (get_or s i 0)) (length s) ≡ all_in p s
all_places p s =
    same_bool (all_below (λ i. p (get_or s i 0)) (length s)) (all_in p s)
    (λ t. all_in_of p s (λ k m. let r = mem_place k s m in ap p (sym r.2) ∙ of_all (λ i. p (get_or s i 0)) (length s) t r.0 r.1))
    (λ t. all_of (λ i. p (get_or s i 0)) (length s) (λ i l. of_all_in p s t (get_or s i 0) (mem_get_d s i l)))

pub mem_places : (k : ℕ) (s : List ℕ) → some_below (λ i. eqb (get_or s i 0) k) (length s) ≡ mem k s
mem_places k s =
    same_bool (some_below (λ i. eqb (get_or s i 0) k) (length s)) (mem k s)
    (λ t. let r = of_some (λ i. eqb (get_or s i 0) k) (length s) t in ap (λ (x : ℕ). mem x s) (sym (eqb-true (get_or s r.0 0) k r.2)) ∙ mem_get_d s r.0 r.1)
    (λ t. let r = mem_place k s t in some_of (λ i. eqb (get_or s i 0) k) (length s) r.0 r.1 (eq-eqb (get_or s r.0 0) k r.2))

-- ---- sums

pub sum_start : (f : ℕ → ℕ) → sum_below f 0 ≡ 0
unfolding sum_below
sum_start f = refl

pub sum_next : (f : ℕ → ℕ) (k : ℕ) → sum_below f (k + 1) ≡ sum_below f k + f k
unfolding sum_below
sum_next f k = rw add-one

-- a longer sum is not smaller
pub sum_more : (f : ℕ → ℕ) (k n : ℕ) → k ≤ n → sum_below f k ≤ sum_below f n
unfolding sum_below
sum_more f k zero l = let e : k ≡ 0 = omega arith in rw e (omega arith)
sum_more f k (suc n) l = ⊎_elim (λ e. rw e (omega arith)) (λ h. let b = sum_more f k n (omega arith) in omega arith) (eq-or-lt_of_le l)

pub tally_start : (p : ℕ → Bool) → tally p 0 ≡ 0
unfolding tally
tally_start p = refl
