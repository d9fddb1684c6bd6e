-- Laws of clocks: joining is entry by entry and the least that covers both, covering is the paper's, include is a join with one entry; and the steps of
-- the loops. Assumes nothing.
use Rattle.std.proofs.Math.Seq.{drop-cons}
use Rattle.std.specs.Prelude.{Option, None, Some, ◌≡◌, refl, ◌↔◌, ℕ, zero, suc, ◌+◌, ◌<◌, ◌≤◌, max, min, List, [], ◌∷◌, Bool, true, false, cond, ◌||◌, ◌&&◌, length, drop, get_or, set, replicate, eqb, ltb, leb}
use Rattle.std.specs.List.{list_all, zip}
use Rattle.std.proofs.Common.{sym, ap, ◌∙◌, ⊎_elim, not-suc-le-zero, le_of_suc-le-suc, arith, length-set, ext_get_or, get_or-set_same, get_or-set_other, add-one, drop_of_length-le}
use Rattle.std.proofs.Math.Nat.{max-zero}
use Rattle.std.proofs.lemmas.Bool.{false≢true}
use Rattle.std.proofs.lemmas.List.{length-replicate, get_or-replicate}
use Rattle.std.proofs.Math.ListN.{get_or-eq_default}
use borrow.Author.Tests.{le-leb, leb-true, eqb-true, ltb-true, ltb-false, lt-leb}
use Rattle.paper.specs.Graph.{Covers}
use Rattle.list_laws.specs.Cases.{below_or_not, three_ways}
use Rattle.list_laws.specs.Blend.{blend, blend_read, blend_set, blend_tail, blend_end, blend_skip}
use Rattle.clock.specs.Clock.{entry_of, included, joined, covers_all, isolated, op_covers}

pub length_joined : (a b : List ℕ) → length (joined a b) ≡ length a
unfolding joined
length_joined [] b = refl
length_joined (x ∷ xs) [] = refl
length_joined (x ∷ xs) (y ∷ ys) = ap suc (length_joined xs ys)

-- entry by entry, merge takes the larger one; a place that b does not have counts as nothing
pub get_d_joined : (a b : List ℕ) (i : ℕ) → i < length a → get_or (joined a b) i 0 ≡ max (get_or a i 0) (get_or b i 0)
unfolding joined
get_d_joined [] b i l = absurd (not-suc-le-zero l)
get_d_joined (x ∷ xs) [] i l = sym (max-zero _)
get_d_joined (x ∷ xs) (y ∷ ys) zero l = refl
get_d_joined (x ∷ xs) (y ∷ ys) (suc i) l = get_d_joined xs ys i (le_of_suc-le-suc l)

-- past b's end the clock stays as it was
pub drop_joined : (a b : List ℕ) (i : ℕ) → length b ≤ i → drop i (joined a b) ≡ drop i a
unfolding joined
drop_joined [] b i l = refl
drop_joined (x ∷ xs) [] i l = refl
drop_joined (x ∷ xs) (y ∷ ys) zero l = absurd (not-suc-le-zero l)
drop_joined (x ∷ xs) (y ∷ ys) (suc i) l = drop_joined xs ys i (le_of_suc-le-suc l)

-- the same said of the pairs
pub covers_pairs : (a b : List ℕ) → covers_all a b ≡ list_all (λ (p : ℕ × ℕ). leb p.1 p.0) (zip a b)
unfolding covers_all
covers_pairs [] b = refl
covers_pairs (x ∷ xs) [] = refl
covers_pairs (x ∷ xs) (y ∷ ys) = go (covers_pairs xs ys) (leb y x)
  where
    go : {r : Bool} → covers_all xs ys ≡ r → (t : Bool) → cond t (covers_all xs ys) false ≡ (t && r)
    go e true = e
    go e false = refl

-- clocks of one length: the one covers the other exactly where no entry of the other is larger
pub covers_iff : (a b : List ℕ) → length a ≡ length b → (covers_all a b ≡ true) ↔ ((i : ℕ) → get_or b i 0 ≤ get_or a i 0)
unfolding covers_all
covers_iff [] [] e = ((λ h i. omega arith), λ h. refl)
covers_iff [] (y ∷ ys) e = absurd (omega arith)
covers_iff (x ∷ xs) [] e = absurd (omega arith)
covers_iff (x ∷ xs) (y ∷ ys) e = go (covers_iff xs ys (omega arith))
  where
    all : (b : Bool) → leb y x ≡ b → (covers_all xs ys ≡ true → (i : ℕ) → get_or ys i 0 ≤ get_or xs i 0)
        → cond b (covers_all xs ys) false ≡ true → (i : ℕ) → get_or (y ∷ ys) i 0 ≤ get_or (x ∷ xs) i 0
    all true p rest h zero = leb-true y x p
    all true p rest h (suc i) = rest h i
    all false p rest h i = absurd (false≢true h)

    go : (covers_all xs ys ≡ true) ↔ ((i : ℕ) → get_or ys i 0 ≤ get_or xs i 0)
        → (covers_all (x ∷ xs) (y ∷ ys) ≡ true) ↔ ((i : ℕ) → get_or (y ∷ ys) i 0 ≤ get_or (x ∷ xs) i 0)
    go rest = (all (leb y x) refl rest.0, λ h. rw (le-leb y x (h 0)) (rest.1 (λ i. h (suc i))))

-- the same in the paper's word
pub covers_paper : (a b : List ℕ) → length a ≡ length b → (covers_all a b ≡ true) ↔ Covers (entry_of a) (entry_of b)
unfolding Covers
covers_paper a b e = covers_iff a b e

-- ---- joining

past : (c : List ℕ) (i : ℕ) → length c ≤ i → entry_of c i ≡ 0
past c i l = get_or-eq_default c 0 {n = i} l

-- at every actor, where the first clock is not the shorter one
pub joined_entry : (a b : List ℕ) → length b ≤ length a → (i : ℕ) → entry_of (joined a b) i ≡ max (entry_of a i) (entry_of b i)
joined_entry a b h i =
    ⊎_elim (λ l. get_d_joined a b i l)
    (λ l. let x = past (joined a b) i (omega (arith, length_joined a b)) in let y = past a i l in let z = past b i (omega arith) in omega arith)
    (below_or_not i (length a))

-- the join covers both, and whatever covers both covers it
pub joined_left : (a b : List ℕ) → Covers (entry_of (joined a b)) (entry_of a)
unfolding Covers
joined_left a b i =
    ⊎_elim (λ l. let x = get_d_joined a b i l in omega arith) (λ l. let y = past a i l in omega arith) (below_or_not i (length a))

pub joined_right : (a b : List ℕ) → length b ≤ length a → Covers (entry_of (joined a b)) (entry_of b)
unfolding Covers
joined_right a b h i = let x = joined_entry a b h i in omega arith

pub joined_least : (a b c : List ℕ) → Covers (entry_of c) (entry_of a) → Covers (entry_of c) (entry_of b) → Covers (entry_of c) (entry_of (joined a b))
unfolding Covers
joined_least a b c p q i =
    ⊎_elim (λ l. let x = get_d_joined a b i l in let y = p i in let z = q i in omega arith)
    (λ l. let x = past (joined a b) i (omega (arith, length_joined a b)) in omega arith)
    (below_or_not i (length a))

pub joined_same : (a : List ℕ) → joined a a ≡ a
unfolding joined
joined_same [] = refl
joined_same (x ∷ xs) = let e : max x x ≡ x = omega arith in rw (e, joined_same xs)

pub joined_comm : (a b : List ℕ) → length a ≡ length b → joined a b ≡ joined b a
unfolding joined
joined_comm [] [] e = refl
joined_comm [] (y ∷ ys) e = absurd (omega arith)
joined_comm (x ∷ xs) [] e = absurd (omega arith)
joined_comm (x ∷ xs) (y ∷ ys) e = let m : max x y ≡ max y x = omega arith in rw (m, joined_comm xs ys (omega arith))

pub joined_assoc : (a b c : List ℕ) → length a ≡ length b → joined (joined a b) c ≡ joined a (joined b c)
unfolding joined
joined_assoc [] b c e = refl
joined_assoc (x ∷ xs) [] c e = absurd (omega arith)
joined_assoc (x ∷ xs) (y ∷ ys) [] e = refl
joined_assoc (x ∷ xs) (y ∷ ys) (z ∷ zs) e = let m : max (max x y) z ≡ max x (max y z) = omega arith in rw (m, joined_assoc xs ys zs (omega arith))

-- a clock covers another exactly where joining it brings nothing
pub covers_joined : (a b : List ℕ) → length a ≡ length b → (covers_all a b ≡ true) ↔ (joined a b ≡ a)
covers_joined a b e = (
  (λ h. ext_get_or 0 (joined a b) a (length_joined a b) (λ i l. let x = get_d_joined a b i (omega (arith, length_joined a b)) in let y = (covers_iff a b e).0 h i in omega arith)),
  λ h. (covers_iff a b e).1 (λ i. let x = joined_entry a b (omega arith) i in let y : get_or (joined a b) i 0 ≡ get_or a i 0 = ap (λ (l : List ℕ). get_or l i 0) h in omega arith),
)

-- ---- include

module _ (old x : ℕ) where
  yes_le : (b : Bool) → eqb old 0 ≡ b → (b || ltb old x) ≡ true → old ≤ x
  yes_le true p q = omega (arith, eqb-true old 0 p)
  yes_le false p q = let l = ltb-true old x q in omega arith

  no_ge : (b : Bool) → eqb old 0 ≡ b → (b || ltb old x) ≡ false → x ≤ old
  no_ge true p q = absurd (false≢true (sym q))
  no_ge false p q = ltb-false old x q

module _ (c : List ℕ) (a x : ℕ) (l : a < length c) where
  pub length_included : length (included c a (Some x)) ≡ length c
  length_included = go (eqb (get_or c a 0) 0 || ltb (get_or c a 0) x)
    where
      go : (b : Bool) → length (cond b (set c a x) c) ≡ length c
      go true = length-set c a x
      go false = refl

  -- the larger of the old entry and the sequence
  pub included_here : entry_of (included c a (Some x)) a ≡ max (entry_of c a) x
  included_here = go (eqb (get_or c a 0) 0 || ltb (get_or c a 0) x) refl
    where
      go : (b : Bool) → (eqb (get_or c a 0) 0 || ltb (get_or c a 0) x) ≡ b → get_or (cond b (set c a x) c) a 0 ≡ max (get_or c a 0) x
      go true p = let h = yes_le (get_or c a 0) x (eqb (get_or c a 0) 0) refl p in get_or-set_same c a x 0 l ∙ omega arith
      go false p = let h = no_ge (get_or c a 0) x (eqb (get_or c a 0) 0) refl p in omega arith

  pub included_other : (i : ℕ) → (i ≡ a → ⊥) → entry_of (included c a (Some x)) i ≡ entry_of c i
  included_other i ne = go (eqb (get_or c a 0) 0 || ltb (get_or c a 0) x)
    where
      go : (b : Bool) → get_or (cond b (set c a x) c) i 0 ≡ get_or c i 0
      go true = get_or-set_other c a i x 0 ne
      go false = refl

  -- the clock that has this one entry
  abbrev single : List ℕ
  single = set (replicate (length c) 0) a x

  single_long : length single ≡ length c
  single_long = length-set (replicate (length c) 0) a x ∙ length-replicate {A = ℕ} (length c) 0

  -- include is the join with it
  pub included_joined : included c a (Some x) ≡ joined c (set (replicate (length c) 0) a x)
  included_joined =
      ext_get_or 0 (included c a (Some x)) (joined c single) (length_included ∙ sym (length_joined c single)) (λ i h. at i (omega (arith, length_included)))
    where
      other : (i : ℕ) → i < length c → (i ≡ a → ⊥) → get_or (included c a (Some x)) i 0 ≡ get_or (joined c single) i 0
      other i h ne =
          let u = included_other i ne in
          let v = get_d_joined c single i h in
          let w : get_or single i 0 ≡ 0 = get_or-set_other (replicate (length c) 0) a i x 0 ne ∙ get_or-replicate {A = ℕ} (length c) i 0 0 h in
          omega arith

      here : get_or (included c a (Some x)) a 0 ≡ get_or (joined c single) a 0
      here =
          let u = included_here in
          let v = get_d_joined c single a l in
          let w : get_or single a 0 ≡ x = get_or-set_same (replicate (length c) 0) a x 0 (omega (arith, length-replicate {A = ℕ} (length c) 0)) in
          omega arith

      at : (i : ℕ) → i < length c → get_or (included c a (Some x)) i 0 ≡ get_or (joined c single) i 0
      at i h =
          ⊎_elim (λ q. other i h (λ e. absurd (omega arith)))
          (λ r. ⊎_elim (λ e. ap (λ (k : ℕ). get_or (included c a (Some x)) k 0) e ∙ (here ∙ ap (λ (k : ℕ). get_or (joined c single) k 0) (sym e))) (λ q. other i h (λ e. absurd (omega arith))) r)
          (three_ways i a)

-- the clock never falls
pub included_grows : (c : List ℕ) (a : ℕ) (e : Option ℕ) → a < length c → Covers (entry_of (included c a e)) (entry_of c)
unfolding Covers
included_grows c a (Some x) l = λ i. rw (included_joined c a x l) (joined_left c (set (replicate (length c) 0) a x) i)
included_grows c a None l = λ i. omega arith

-- ---- isolate: every counter of 32 bits is covered

pub isolated_covers : (c : List ℕ) (a counter : ℕ) → a < length c → counter ≤ 4294967295 → op_covers (isolated c a) a counter ≡ true
isolated_covers c a counter l h = rw (get_or-set_same c a 4294967295 0 l) (le-leb counter 4294967295 h)

-- ---- steps of merge

-- one step of merge, where it stands at i: the list is the old one with its first i entries joined
pub merge_step : (a₀ b a : List ℕ) (i : ℕ) → a ≡ blend i (joined a₀ b) a₀ → i < length a₀ → set a i (max (get_or a i 0) (get_or b i 0)) ≡ blend (i + 1) (joined a₀ b) a₀
merge_step a₀ b a i inv l =
    let in_t : i < length (joined a₀ b) = omega (arith, length_joined a₀ b) in
    let old : get_or a i 0 ≡ get_or a₀ i 0 = rw inv (blend_read i (joined a₀ b) a₀ in_t l) in
    let e : max (get_or a i 0) (get_or b i 0) ≡ get_or (joined a₀ b) i 0 = ap (λ (x : ℕ). max x (get_or b i 0)) old ∙ sym (get_d_joined a₀ b i l) in
    ap (set a i) e ∙ (ap (λ (x : List ℕ). set x i (get_or (joined a₀ b) i 0)) inv ∙ blend_set i (joined a₀ b) a₀ in_t l)

-- the end: one of the two clocks has no more entries
pub merge_end : (a₀ b a : List ℕ) (i : ℕ) → a ≡ blend i (joined a₀ b) a₀ → min (length a₀) (length b) ≤ i → a ≡ joined a₀ b
merge_end a₀ b a i inv l =
    inv
    ∙ ⊎_elim (λ h. blend_tail i (joined a₀ b) a₀ (drop_joined a₀ b i (omega arith))) (λ h. blend_end i (joined a₀ b) a₀ (length_joined a₀ b) h)
    (below_or_not i (length a₀))

-- ---- laws that no proof needs any more

-- one step of covers, where it stands at i
module _ (a b : List ℕ) (i : ℕ) (la : i < length a) (lb : i < length b) where
  pub covers_step : get_or b i 0 ≤ get_or a i 0 → covers_all (drop i a) (drop i b) ≡ covers_all (drop (i + 1) a) (drop (i + 1) b)
  unfolding covers_all
  covers_step e = rw (drop-cons a i 0 la, drop-cons b i 0 lb, le-leb _ _ e, add-one)

  pub covers_stop : get_or a i 0 < get_or b i 0 → covers_all (drop i a) (drop i b) ≡ false
  unfolding covers_all
  covers_stop e = rw (drop-cons a i 0 la, drop-cons b i 0 lb, lt-leb _ _ e)

pub covers_end : (a b : List ℕ) (i : ℕ) → length a ≤ i → covers_all (drop i a) (drop i b) ≡ true
unfolding covers_all
covers_end a b i l = rw (drop_of_length-le a {i = i} l)

-- one step of merge, where it stands at i: the list is the old one with its first i entries joined
module _ (a₀ b a : List ℕ) (i : ℕ) (inv : a ≡ blend i (joined a₀ b) a₀) (l : i < length a₀) where
  in_t : i < length (joined a₀ b)
  in_t = omega (arith, length_joined a₀ b)

  old : get_or a i 0 ≡ get_or a₀ i 0
  old = rw inv (blend_read i (joined a₀ b) a₀ in_t l)

  pub merge_store : get_or a i 0 < get_or b i 0 → set a i (get_or b i 0) ≡ blend (i + 1) (joined a₀ b) a₀
  merge_store h =
      let e : get_or (joined a₀ b) i 0 ≡ get_or b i 0 = get_d_joined a₀ b i l ∙ omega (arith, old) in
      rw (inv, ← e) (blend_set i (joined a₀ b) a₀ in_t l)

  pub merge_keep : get_or b i 0 ≤ get_or a i 0 → a ≡ blend (i + 1) (joined a₀ b) a₀
  merge_keep h = inv ∙ blend_skip i (joined a₀ b) a₀ in_t l (get_d_joined a₀ b i l ∙ omega (arith, old))

pub merge_past : (a₀ b a : List ℕ) (i : ℕ) → a ≡ blend i (joined a₀ b) a₀ → length b ≤ i → a ≡ joined a₀ b
merge_past a₀ b a i inv l = inv ∙ blend_tail i (joined a₀ b) a₀ (drop_joined a₀ b i l)
