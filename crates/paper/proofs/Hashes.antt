-- Hashes as lists of bytes: when two are the same, their order, and lists of them.
-- Assumes nothing.
use mathlib.Core.Path.{◌≡◌, refl, sym, ap, ◌∙◌}
use mathlib.Core.Logic.{◌⊎◌, inl, inr, ⊎_elim}
use mathlib.Core.Bool.{Bool, true, false, cond, false≢true}
use mathlib.Core.List.{List, [], ◌∷◌}
use Prim.Native.Nat.{ℕ, ◌<◌}
use native.Mathlib.Nat.{eq-or-lt_of_le}
use native.Mathlib.Omega.{arith}
use lib.Dec.{eqb, ltb}
use borrow.Author.Tests.{eqb-true, eq-eqb, ne_eqb, lt-ltb, ltb-true, ltb-false}
use Rattle.paper.specs.Lists.{same_list, less_list, names, every}
use Rattle.paper.proofs.Bools.{not-both, or_cases, or_left, or_right, and_both, and_fst, and_snd}

-- ---- the same

pub same_refl : (xs : List ℕ) → same_list xs xs ≡ true
unfolding same_list
same_refl [] = refl
same_refl (x ∷ xs) = rw (eq-eqb x x refl, same_refl xs)

pub same→eq : (xs ys : List ℕ) → same_list xs ys ≡ true → xs ≡ ys
unfolding same_list
same→eq [] [] e = refl
same→eq [] (y ∷ ys) e = absurd (false≢true e)
same→eq (x ∷ xs) [] e = absurd (false≢true e)
same→eq (x ∷ xs) (y ∷ ys) e = go (eqb x y) refl (same→eq xs ys) e
  where
    go : (b : Bool) → eqb x y ≡ b → (same_list xs ys ≡ true → xs ≡ ys) → cond b (same_list xs ys) false ≡ true → x ∷ xs ≡ y ∷ ys
    go true p rest q = cc (eqb-true x y p, rest q)
    go false p rest q = absurd (false≢true q)

pub eq→same : (xs ys : List ℕ) → xs ≡ ys → same_list xs ys ≡ true
eq→same xs ys e = rw e (same_refl ys)

-- ---- order: strict and total

-- a list that has something is below one by its first number, or by the rest where the first numbers are the same
module _ (x y : ℕ) (xs ys : List ℕ) where
  pub less_first : x < y → less_list (x ∷ xs) (y ∷ ys) ≡ true
  unfolding less_list
  less_first l = rw (ne_eqb x y (λ e. omega arith), lt-ltb x y l)

  pub less_rest : x ≡ y → less_list xs ys ≡ true → less_list (x ∷ xs) (y ∷ ys) ≡ true
  unfolding less_list
  less_rest e r = rw (eq-eqb x y e) r

  pub less_cases : less_list (x ∷ xs) (y ∷ ys) ≡ true → (x < y) ⊎ ((x ≡ y) × (less_list xs ys ≡ true))
  unfolding less_list
  less_cases h = go (eqb x y) refl h
    where
      go : (b : Bool) → eqb x y ≡ b → cond b (less_list xs ys) (ltb x y) ≡ true → (x < y) ⊎ ((x ≡ y) × (less_list xs ys ≡ true))
      go true p q = inr (eqb-true x y p, q)
      go false p q = inl (ltb-true x y q)

pub less_irrefl : (xs : List ℕ) → less_list xs xs ≡ true → ⊥
unfolding less_list
less_irrefl [] h = false≢true h
less_irrefl (x ∷ xs) h = ⊎_elim (λ l. omega arith) (λ r. less_irrefl xs r.1) (less_cases x x xs xs h)

pub less_trans : (xs ys zs : List ℕ) → less_list xs ys ≡ true → less_list ys zs ≡ true → less_list xs zs ≡ true
unfolding less_list
less_trans xs [] [] p q = absurd (false≢true q)
less_trans [] [] (z ∷ zs) p q = refl
less_trans (x ∷ xs) [] (z ∷ zs) p q = absurd (false≢true p)
less_trans xs (y ∷ ys) [] p q = absurd (false≢true q)
less_trans [] (y ∷ ys) (z ∷ zs) p q = refl
less_trans (x ∷ xs) (y ∷ ys) (z ∷ zs) p q =
    ⊎_elim
    (λ a. ⊎_elim (λ b. less_first x z xs zs (omega arith)) (λ b. less_first x z xs zs (omega arith)) (less_cases y z ys zs q))
    (λ a.
    ⊎_elim
    (λ b. less_first x z xs zs (omega arith))
    (λ b. less_rest x z xs zs (a.0 ∙ b.0) (less_trans xs ys zs a.1 b.1))
    (less_cases y z ys zs q))
    (less_cases x y xs ys p)

total : (x y : ℕ) → (x < y) ⊎ ((x ≡ y) ⊎ (y < x))
total x y = go (ltb x y) refl
  where
    go : (b : Bool) → ltb x y ≡ b → (x < y) ⊎ ((x ≡ y) ⊎ (y < x))
    go true p = inl (ltb-true x y p)
    go false p = inr (⊎_elim (λ e. inl (sym e)) inr (eq-or-lt_of_le (ltb-false x y p)))

-- of two lists the one is below the other, or they are the same
pub less_total : (xs ys : List ℕ) → (less_list xs ys ≡ true) ⊎ ((xs ≡ ys) ⊎ (less_list ys xs ≡ true))
unfolding less_list
less_total [] [] = inr (inl refl)
less_total [] (y ∷ ys) = inl refl
less_total (x ∷ xs) [] = inr (inr refl)
less_total (x ∷ xs) (y ∷ ys) = go (total x y) (less_total xs ys)
  where
    go : (x < y) ⊎ ((x ≡ y) ⊎ (y < x)) → (less_list xs ys ≡ true) ⊎ ((xs ≡ ys) ⊎ (less_list ys xs ≡ true))
        → (less_list (x ∷ xs) (y ∷ ys) ≡ true) ⊎ ((x ∷ xs ≡ y ∷ ys) ⊎ (less_list (y ∷ ys) (x ∷ xs) ≡ true))
    go (inl l) r = inl (less_first x y xs ys l)
    go (inr (inr l)) r = inr (inr (less_first y x ys xs l))
    go (inr (inl e)) (inl r) = inl (less_rest x y xs ys e r)
    go (inr (inl e)) (inr (inl r)) = inr (inl (cc))
    go (inr (inl e)) (inr (inr r)) = inr (inr (less_rest y x ys xs (sym e) r))

-- ---- lists of hashes

-- what every named hash passes
pub every_of : (p : List ℕ → Bool) (ds : List (List ℕ)) → ((d : List ℕ) → names d ds ≡ true → p d ≡ true) → every p ds ≡ true
unfolding every names
every_of p [] h = refl
every_of p (d ∷ ds) h =
    and_both (p d) (every p ds) (h d (or_left (same_list d d) (names d ds) (same_refl d)))
    (every_of p ds (λ e n. h e (or_right (same_list d e) (names e ds) n)))

pub of_every : (p : List ℕ → Bool) (ds : List (List ℕ)) → every p ds ≡ true → (d : List ℕ) → names d ds ≡ true → p d ≡ true
unfolding every names
of_every p [] e d n = not-both n refl
of_every p (x ∷ ds) e d n =
    ⊎_elim (λ s. ap p (sym (same→eq x d s)) ∙ and_fst (p x) (every p ds) e) (λ r. of_every p ds (and_snd (p x) (every p ds) e) d r)
    (or_cases (same_list x d) (names d ds) n)
