-- Laws of Bools, of membership, and of what is computed over the numbers below m: pick, tally, some_below, sum_below.
-- Assumes nothing.
use mathlib.Core.Path.{◌≡◌, refl, sym, ap, ap₂, ◌∙◌, subst}
use mathlib.Core.Logic.{◌⊎◌, inl, inr, ⊎_elim}
use mathlib.Core.Bool.{Bool, true, false, not, cond, ◌&&◌, ◌||◌, true≢false}
use mathlib.Core.List.{List, [], ◌∷◌, ◌++◌}
use Prim.Native.Nat.{ℕ, zero, suc, ◌+◌, ◌≤◌, ◌<◌}
use native.Mathlib.Nat.{not-suc-le-zero, eq-or-lt_of_le, le_of_suc-le-suc}
use native.Mathlib.Omega.{arith}
use lib.Dec.{eqb, ltb}
use lib.ListN.{length, get_or}
use borrow.Author.Tests.{eqb-true, eq-eqb, ne_eqb, ltb-true, ltb-false}
use Rattle.paper.specs.Lists.{mem, pick, tally, some_below, all_below, all_in, sum_below}

-- ---- Bools

-- a Bool is true or false
pub split : (b : Bool) → (b ≡ true) ⊎ (b ≡ false)
split true = inl refl
split false = inr refl

-- by cases on a Bool, with the equation
pub by_bool {ℓ} : {C : Type ℓ} (b : Bool) → (b ≡ true → C) → (b ≡ false → C) → C
by_bool true f g = f refl
by_bool false f g = g refl

pub not-both {ℓ} : {C : Type ℓ} {b : Bool} → b ≡ true → b ≡ false → C
not-both p q = absurd (true≢false (sym p ∙ q))

pub to_false : (b : Bool) → (b ≡ true → ⊥) → b ≡ false
to_false true h = absurd (h refl)
to_false false h = refl

pub below_or_not : (x y : ℕ) → (x < y) ⊎ (y ≤ x)
below_or_not x y = by_bool (ltb x y) (λ t. inl (ltb-true x y t)) (λ f. inr (ltb-false x y f))

-- two Bools are equal where each is true if the other is
pub same_bool : (a b : Bool) → (a ≡ true → b ≡ true) → (b ≡ true → a ≡ true) → a ≡ b
same_bool true b f g = sym (f refl)
same_bool false true f g = g refl
same_bool false false f g = refl

pub or_cases : (a b : Bool) → (a || b) ≡ true → (a ≡ true) ⊎ (b ≡ true)
or_cases true b e = inl refl
or_cases false b e = inr e

pub or_left : (a b : Bool) → a ≡ true → (a || b) ≡ true
or_left true b e = refl
or_left false b e = not-both refl (sym e)

pub or_right : (a b : Bool) → b ≡ true → (a || b) ≡ true
or_right true b e = refl
or_right false b e = e

pub and_both : (a b : Bool) → a ≡ true → b ≡ true → (a && b) ≡ true
and_both true b p q = q
and_both false b p q = p

pub and_fst : (a b : Bool) → (a && b) ≡ true → a ≡ true
and_fst true b e = refl
and_fst false b e = e

pub and_snd : (a b : Bool) → (a && b) ≡ true → b ≡ true
and_snd true b e = e
and_snd false b e = not-both refl (sym e)

pub not_is : (b : Bool) → b ≡ false → not b ≡ true
not_is true e = not-both refl e
not_is false e = refl

pub is_not : (b : Bool) → not b ≡ true → b ≡ false
is_not true e = sym e
is_not false e = refl

-- ---- below m, and one more

pub below_suc {ℓ} : (P : ℕ → Type ℓ) (m k : ℕ) → k < suc m → (k < m → P k) → P m → P k
below_suc P m k l f here = ⊎_elim (λ e. subst P (sym e) here) f (eq-or-lt_of_le (le_of_suc-le-suc l))

-- ---- membership

pub mem_nil : (k : ℕ) → mem k [] ≡ false
unfolding mem
mem_nil k = refl

pub mem_here : (k : ℕ) (xs : List ℕ) → mem k (k ∷ xs) ≡ true
unfolding mem
mem_here k xs = or_left (eqb k k) (mem k xs) (eq-eqb k k refl)

pub mem_cons : (k x : ℕ) (xs : List ℕ) → mem k (x ∷ xs) ≡ (eqb k x || mem k xs)
unfolding mem
mem_cons k x xs = refl

pub mem_single : (k x : ℕ) → mem k (x ∷ []) ≡ true → k ≡ x
unfolding mem
mem_single k x e = ⊎_elim (λ t. eqb-true k x t) (λ f. not-both f refl) (or_cases (eqb k x) false e)

pub mem_append : (k : ℕ) (s t : List ℕ) → mem k (s ++ t) ≡ (mem k s || mem k t)
unfolding mem
mem_append k [] t = refl
mem_append k (x ∷ s) t = ap (λ (b : Bool). eqb k x || b) (mem_append k s t) ∙ or_assoc (eqb k x) (mem k s) (mem k t)
  where
    or_assoc : (a b c : Bool) → (a || (b || c)) ≡ ((a || b) || c)
    or_assoc true b c = refl
    or_assoc false b c = refl

-- what stands at a place of the list is in it
pub mem_get_d : (s : List ℕ) (i : ℕ) → i < length s → mem (get_or s i 0) s ≡ true
unfolding mem
mem_get_d [] i l = absurd (not-suc-le-zero l)
mem_get_d (x ∷ s) zero l = or_left (eqb x x) (mem x s) (eq-eqb x x refl)
mem_get_d (x ∷ s) (suc i) l = or_right (eqb (get_or s i 0) x) (mem (get_or s i 0) s) (mem_get_d s i (le_of_suc-le-suc l))

-- what is in the list stands at some place
pub mem_place : (k : ℕ) (s : List ℕ) → mem k s ≡ true → (i : ℕ) × (i < length s) × (get_or s i 0 ≡ k)
unfolding mem
mem_place k [] e = not-both e refl
mem_place k (x ∷ s) e =
    ⊎_elim (λ t. (0, omega arith, sym (eqb-true k x t))) (λ t. let r = mem_place k s t in (suc r.0, omega (arith, r.1), r.2)) (or_cases (eqb k x) (mem k s) e)

-- ---- pick

-- two tests that agree below m pick the same list
pub pick_ext : (p q : ℕ → Bool) (m : ℕ) → ((k : ℕ) → k < m → p k ≡ q k) → pick p m ≡ pick q m
unfolding pick
pick_ext p q zero h = refl
pick_ext p q (suc m) h =
    ap₂ (λ (b : Bool) (l : List ℕ). cond b (l ++ (m ∷ [])) l) (h m (omega arith)) (pick_ext p q m (λ k l. h k (omega arith)))

pub mem_pick : (p : ℕ → Bool) (m k : ℕ) → k < m → p k ≡ true → mem k (pick p m) ≡ true
unfolding pick
mem_pick p zero k l e = absurd (not-suc-le-zero l)
mem_pick p (suc m) k l e = below_suc (λ (j : ℕ). p j ≡ true → mem j (pick p (suc m)) ≡ true) m k l (λ lt e'. before (mem_pick p m k lt e)) here e
  where
    before : mem k (pick p m) ≡ true → mem k (cond (p m) (pick p m ++ (m ∷ [])) (pick p m)) ≡ true
    before ih = by_bool (p m) (λ t. rw t (mem_append k (pick p m) (m ∷ []) ∙ or_left (mem k (pick p m)) (mem k (m ∷ [])) ih)) (λ f. rw f ih)

    here : p m ≡ true → mem m (cond (p m) (pick p m ++ (m ∷ [])) (pick p m)) ≡ true
    here e' = rw e' (mem_append m (pick p m) (m ∷ []) ∙ or_right (mem m (pick p m)) (mem m (m ∷ [])) (mem_here m []))

pub pick_mem : (p : ℕ → Bool) (m k : ℕ) → mem k (pick p m) ≡ true → (k < m) × (p k ≡ true)
unfolding pick
pick_mem p zero k e = not-both e (mem_nil k)
pick_mem p (suc m) k e =
    by_bool (p m)
    (λ t.
    ⊎_elim (λ e'. old (pick_mem p m k e')) (λ e'. let q = mem_single k m e' in (omega arith, ap p q ∙ t))
    (or_cases (mem k (pick p m)) (mem k (m ∷ [])) (sym (mem_append k (pick p m) (m ∷ [])) ∙ (rw t at e))))
    (λ f. old (pick_mem p m k (rw f at e)))
  where
    old : (k < m) × (p k ≡ true) → (k < suc m) × (p k ≡ true)
    old r = (omega arith, r.1)

-- ---- some_below

pub some_of : (p : ℕ → Bool) (m k : ℕ) → k < m → p k ≡ true → some_below p m ≡ true
unfolding some_below
some_of p zero k l e = absurd (not-suc-le-zero l)
some_of p (suc m) k l e =
    below_suc (λ (j : ℕ). p j ≡ true → some_below p (suc m) ≡ true) m k l
    (λ lt e'. or_left (some_below p m) (p m) (some_of p m k lt e))
    (λ e'. or_right (some_below p m) (p m) e')
    e

pub of_some : (p : ℕ → Bool) (m : ℕ) → some_below p m ≡ true → (k : ℕ) × (k < m) × (p k ≡ true)
unfolding some_below
of_some p zero e = not-both refl (sym e)
of_some p (suc m) e =
    ⊎_elim (λ t. let r = of_some p m t in (r.0, omega (arith, r.1), r.2)) (λ t. (m, omega arith, t)) (or_cases (some_below p m) (p m) e)

pub some_ext : (p q : ℕ → Bool) (m : ℕ) → ((k : ℕ) → k < m → p k ≡ q k) → some_below p m ≡ some_below q m
unfolding some_below
some_ext p q zero h = refl
some_ext p q (suc m) h = ap₂ (λ (a b : Bool). a || b) (some_ext p q m (λ k l. h k (omega arith))) (h m (omega arith))

-- ---- all-below, all_in

pub of_all : (p : ℕ → Bool) (m : ℕ) → all_below p m ≡ true → (k : ℕ) → k < m → p k ≡ true
unfolding all_below
of_all p zero e k l = absurd (not-suc-le-zero l)
of_all p (suc m) e k l = below_suc (λ (j : ℕ). p j ≡ true) m k l (λ b. of_all p m (and_fst (all_below p m) (p m) e) k b) (and_snd (all_below p m) (p m) e)

pub all_of : (p : ℕ → Bool) (m : ℕ) → ((k : ℕ) → k < m → p k ≡ true) → all_below p m ≡ true
unfolding all_below
all_of p zero h = refl
all_of p (suc m) h = and_both (all_below p m) (p m) (all_of p m (λ k l. h k (omega arith))) (h m (omega arith))

pub of_all_in : (p : ℕ → Bool) (s : List ℕ) → all_in p s ≡ true → (k : ℕ) → mem k s ≡ true → p k ≡ true
unfolding all_in mem
of_all_in p [] e k m = not-both m refl
of_all_in p (x ∷ s) e k m =
    ⊎_elim (λ q. ap p (eqb-true k x q) ∙ and_fst (p x) (all_in p s) e) (λ r. of_all_in p s (and_snd (p x) (all_in p s) e) k r) (or_cases (eqb k x) (mem k s) m)

pub all_in_of : (p : ℕ → Bool) (s : List ℕ) → ((k : ℕ) → mem k s ≡ true → p k ≡ true) → all_in p s ≡ true
unfolding all_in mem
all_in_of p [] h = refl
all_in_of p (x ∷ s) h =
    and_both (p x) (all_in p s) (h x (or_left (eqb x x) (mem x s) (eq-eqb x x refl))) (all_in_of p s (λ k m. h k (or_right (eqb k x) (mem k s) m)))

-- ---- tally

-- a test that passes wherever another does passes as often at least
pub tally_le : (p q : ℕ → Bool) (m : ℕ) → ((k : ℕ) → k < m → p k ≡ true → q k ≡ true) → tally p m ≤ tally q m
unfolding tally
tally_le p q zero h = omega arith
tally_le p q (suc m) h =
    let ih = tally_le p q m (λ k l. h k (omega arith)) in
    by_bool (p m) (λ t. rw (t, h m (omega arith) t) (omega arith)) (λ f. rw f (omega arith))

pub tally_ext : (p q : ℕ → Bool) (m : ℕ) → ((k : ℕ) → k < m → p k ≡ q k) → tally p m ≡ tally q m
tally_ext p q m h =
    let a = tally_le p q m (λ k l e. sym (h k l) ∙ e) in
    let b = tally_le q p m (λ k l e. h k l ∙ e) in
    omega arith

-- longer runs count at least as much; past a number that passes, one more
pub tally_up : (p : ℕ → Bool) (m k : ℕ) → k < m → p k ≡ true → suc (tally p k) ≤ tally p m
unfolding tally
tally_up p zero k l e = absurd (not-suc-le-zero l)
tally_up p (suc m) k l e =
    below_suc (λ (j : ℕ). p j ≡ true → suc (tally p j) ≤ tally p (suc m)) m k l
    (λ lt e'. let ih = tally_up p m k lt e in omega arith)
    (λ e'. rw e' (omega arith))
    e

-- each number from 0 below the tally is the tally at some place that passes
pub tally_place : (p : ℕ → Bool) (m c : ℕ) → c < tally p m → (k : ℕ) × (k < m) × (p k ≡ true) × (tally p k ≡ c)
unfolding tally
tally_place p zero c l = absurd (not-suc-le-zero l)
tally_place p (suc m) c l =
    by_bool (p m)
    (λ t.
    let lt : c < tally p m + 1 = rw t at l in
    ⊎_elim (λ e. (m, omega arith, t, sym e)) (λ low. old (tally_place p m c low)) (eq-or-lt_of_le {n = c} {m = tally p m} (omega arith)))
    (λ f. let lt : c < tally p m + 0 = rw f at l in old (tally_place p m c (omega arith)))
  where
    old : (k : ℕ) × (k < m) × (p k ≡ true) × (tally p k ≡ c) → (k : ℕ) × (k < suc m) × (p k ≡ true) × (tally p k ≡ c)
    old r = (r.0, omega (arith, r.1), r.2, r.3)

-- ---- sum_below

pub sum_ext : (f g : ℕ → ℕ) (m : ℕ) → ((k : ℕ) → k < m → f k ≡ g k) → sum_below f m ≡ sum_below g m
unfolding sum_below
sum_ext f g zero h = refl
sum_ext f g (suc m) h = ap₂ (λ (x y : ℕ). x + y) (sum_ext f g m (λ k l. h k (omega arith))) (h m (omega arith))

pub sum_add : (f g : ℕ → ℕ) (m : ℕ) → sum_below (λ k. f k + g k) m ≡ sum_below f m + sum_below g m
unfolding sum_below
sum_add f g zero = omega arith
sum_add f g (suc m) = let ih = sum_add f g m in omega arith

pub sum_zero : (f : ℕ → ℕ) (m : ℕ) → ((k : ℕ) → k < m → f k ≡ 0) → sum_below f m ≡ 0
unfolding sum_below
sum_zero f zero h = refl
sum_zero f (suc m) h = let ih = sum_zero f m (λ k l. h k (omega arith)) in omega (arith, h m (omega arith))

test_zero : (x a : ℕ) → (x ≡ a → ⊥) → ◌≡◌ {A = ℕ} (cond (eqb x a) 1 0) 0
test_zero x a ne = rw (ne_eqb x a ne)

test_one : (x a : ℕ) → x ≡ a → ◌≡◌ {A = ℕ} (cond (eqb x a) 1 0) 1
test_one x a e = rw (eq-eqb x a e)

-- one of the numbers below m is x: the test for x counts 1
pub sum_one : (x m : ℕ) → x < m → sum_below (λ a. cond (eqb x a) 1 0) m ≡ 1
unfolding sum_below
sum_one x zero l = absurd (not-suc-le-zero l)
sum_one x (suc m) l =
    ⊎_elim
    (λ e. omega (arith, sum_zero (λ a. cond (eqb x a) 1 0) m (λ a b. test_zero x a (λ q. omega arith)), test_one x m e))
    (λ b. omega (arith, sum_one x m b, test_zero x m (λ q. omega arith)))
    (eq-or-lt_of_le (le_of_suc-le-suc l))
