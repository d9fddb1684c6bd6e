-- Lists of hashes: which hashes they name, and tests of every one of them, by places and by nodes.
-- Assumes nothing.
use mathlib.Core.Path.{◌≡◌, refl, sym, ap, ◌∙◌}
use mathlib.Core.Logic.{⊎_elim}
use mathlib.Core.Bool.{Bool, true, false, not, ◌&&◌, ◌||◌}
use mathlib.Core.List.{List, [], ◌∷◌, ◌++◌, map}
use Prim.Native.Nat.{ℕ, zero, suc, ◌+◌, ◌/◌, ◌≤◌, ◌<◌}
use native.Mathlib.Nat.{eq-or-lt_of_le}
use native.Mathlib.Omega.{arith}
use lib.ListN.{length}
use Rattle.paper.specs.Lists.{pick, some_below, all_below, every, same_list, names, hash_at, hashes_from, hashes_of}
use Rattle.paper.specs.Graph.{Graph, wanted, head_nodes, heads}
use Rattle.paper.proofs.Bools.{by_bool, not-both, same_bool, or_cases, or_left, or_right, and_both, and_fst, and_snd, not_is, is_not, of_some, some_of, of_all, all_of}
use Rattle.paper.proofs.Ascending.{ascending_names}
use Rattle.paper.proofs.Hashes.{same_refl, same→eq, every_of, of_every}

-- ---- the hashes of a list of bytes

module _ (h bytes : List ℕ) where
  named_from : (left i : ℕ) → names h (hashes_from bytes left i) ≡ true → (j : ℕ) × (i ≤ j) × (j < i + left) × (same_list (hash_at bytes j) h ≡ true)
  unfolding names hashes_from
  named_from zero i e = not-both e refl
  named_from (suc left) i e =
      ⊎_elim (λ s. (i, omega arith, omega arith, s))
      (λ r. let q = named_from left (suc i) r in (q.0, (let a = q.1 in omega arith), (let b = q.2 in omega arith), q.3))
      (or_cases (same_list (hash_at bytes i) h) (names h (hashes_from bytes left (suc i))) e)

  from_named : (left i j : ℕ) → i ≤ j → j < i + left → same_list (hash_at bytes j) h ≡ true → names h (hashes_from bytes left i) ≡ true
  unfolding names hashes_from
  from_named zero i j a b s = absurd (omega arith)
  from_named (suc left) i j a b s =
      ⊎_elim (λ e. or_left (same_list (hash_at bytes i) h) (names h (hashes_from bytes left (suc i))) (ap (λ (k : ℕ). same_list (hash_at bytes k) h) e ∙ s))
      (λ l. or_right (same_list (hash_at bytes i) h) (names h (hashes_from bytes left (suc i))) (from_named left (suc i) j l (omega arith) s))
      (eq-or-lt_of_le a)

  pub names_bytes : names h (hashes_of bytes) ≡ some_below (λ i. same_list (hash_at bytes i) h) (length bytes / 32)
  unfolding hashes_of
  names_bytes =
      same_bool (names h (hashes_of bytes)) (some_below (λ i. same_list (hash_at bytes i) h) (length bytes / 32))
      (λ t. let r = named_from (length bytes / 32) 0 t in some_of (λ i. same_list (hash_at bytes i) h) (length bytes / 32) r.0 (let b = r.2 in omega arith) r.3)
      (λ t. let r = of_some (λ i. same_list (hash_at bytes i) h) (length bytes / 32) t in from_named (length bytes / 32) 0 r.0 (omega arith) (let b = r.1 in omega arith) r.2)

-- ---- the hashes of nodes that are picked

names_last : (h : List ℕ) (f : ℕ → List ℕ) (ks : List ℕ) (m : ℕ) → names h (map f (ks ++ (m ∷ []))) ≡ (names h (map f ks) || same_list (f m) h)
unfolding names
names_last h f [] m = or_nothing (same_list (f m) h)
  where
    or_nothing : (a : Bool) → (a || false) ≡ a
    or_nothing true = refl
    or_nothing false = refl
names_last h f (k ∷ ks) m = ap (λ (b : Bool). same_list (f k) h || b) (names_last h f ks m) ∙ regroup (same_list (f k) h) (names h (map f ks)) (same_list (f m) h)
  where
    regroup : (a b c : Bool) → (a || (b || c)) ≡ ((a || b) || c)
    regroup true b c = refl
    regroup false b c = refl

pub names_picked : (h : List ℕ) (f : ℕ → List ℕ) (p : ℕ → Bool) (n : ℕ) → names h (map f (pick p n)) ≡ some_below (λ k. p k && same_list (f k) h) n
unfolding pick some_below names
names_picked h f p zero = refl
names_picked h f p (suc m) =
    by_bool (p m)
    (λ t. rw (t, names_last h f (pick p m) m, names_picked h f p m))
    (λ e. rw (e, names_picked h f p m) (or_nothing (some_below (λ k. p k && same_list (f k) h) m)))
  where
    or_nothing : (a : Bool) → a ≡ (a || false)
    or_nothing true = refl
    or_nothing false = refl

-- ---- every one of them

-- a list that names the hashes f i of those i below n that are in: a test of its members is a test of those i
module _ (hs : List (List ℕ)) (f : ℕ → List ℕ) (inside : ℕ → Bool) (n : ℕ) (e : (h : List ℕ) → names h hs ≡ some_below (λ i. inside i && same_list (f i) h) n) where
  pub every_place : (p : List ℕ → Bool) → every p hs ≡ all_below (λ i. not (inside i) || p (f i)) n
  every_place p =
      same_bool (every p hs) (all_below (λ i. not (inside i) || p (f i)) n)
      (λ t.
      all_of (λ i. not (inside i) || p (f i)) n
      (λ i l.
      by_bool (inside i)
      (λ y. or_right (not (inside i)) (p (f i)) (of_every p hs t (f i) (e (f i) ∙ some_of (λ j. inside j && same_list (f j) (f i)) n i l (and_both (inside i) (same_list (f i) (f i)) y (same_refl (f i))))))
      (λ o. or_left (not (inside i)) (p (f i)) (not_is (inside i) o))))
      (λ t.
      every_of p hs
      (λ d m.
      let r = of_some (λ i. inside i && same_list (f i) d) n (sym (e d) ∙ m) in
      let y = and_fst (inside r.0) (same_list (f r.0) d) r.2 in
      let s = same→eq (f r.0) d (and_snd (inside r.0) (same_list (f r.0) d) r.2) in
      ⊎_elim (λ o. not-both y (is_not (inside r.0) o)) (λ q. ap p (sym s) ∙ q)
      (or_cases (not (inside r.0)) (p (f r.0)) (of_all (λ i. not (inside i) || p (f i)) n t r.0 r.1))))

pub every_bytes : (bytes : List ℕ) (p : List ℕ → Bool) → every p (hashes_of bytes) ≡ all_below (λ i. p (hash_at bytes i)) (length bytes / 32)
every_bytes bytes p = every_place (hashes_of bytes) (hash_at bytes) (λ i. true) (length bytes / 32) (λ h. names_bytes h bytes) p

-- ---- heads

pub names_heads : (g : Graph) (h : List ℕ) → names h (heads g) ≡ some_below (λ k. not (wanted g k) && same_list (g.hash k) h) g.size
unfolding heads head_nodes
names_heads g h = ascending_names h (map g.hash (head_nodes g)) ∙ names_picked h g.hash (λ k. not (wanted g k)) g.size

pub every_head : (g : Graph) (p : List ℕ → Bool) → every p (heads g) ≡ all_below (λ k. not (not (wanted g k)) || p (g.hash k)) g.size
every_head g p = every_place (heads g) g.hash (λ k. not (wanted g k)) g.size (names_heads g) p
