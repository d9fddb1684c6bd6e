-- A place put in and taken out: how the entries go with their actors, over a table of which the first n entries are in use (a clock, or one row of a
-- larger table), and the steps of the two loops.
-- Assumes nothing.
use Rattle.std.specs.Prelude.{◌≡◌, refl, ℕ, zero, suc, ◌+◌, ◌-◌, ◌<◌, ◌≤◌, length, take, set}
use Rattle.std.proofs.Math.Path.{sym, ap}
use Rattle.std.proofs.Common.{◌∙◌, not-suc-le-zero, le_of_suc-le-suc, eq-or-lt_of_le, arith, length-append, length-take, get_or-take, get_or-drop, length-take-le, ext_get_or, lt-ltb, le-ltb}
use Rattle.std.proofs.Math.Logic.{⊎_elim}
use mathlib.Core.List.{List, [], ◌∷◌, ◌++◌, append_assoc}
use Rattle.std.proofs.Math.ListN.{drop, get_or, length-drop, get_or-append}
use Rattle.std.proofs.lemmas.List.{get_or_at, set_split}
use Rattle.std.proofs.Math.Seq.{take_at, take-take, drop_at, set-get_or}
use Rattle.list_laws.specs.Cases.{below_or_not, three_ways}
use Rattle.clock.specs.Clock.{insert_at, remove_at, inserted, removed, raised}

-- ---- the new place of an entry

pub raised_low : (p a : ℕ) → a < p → raised p a ≡ a
raised_low p a l = rw (lt-ltb a p l)

pub raised_high : (p a : ℕ) → p ≤ a → raised p a ≡ suc a
raised_high p a l = rw (le-ltb a p l)

-- ---- a list

pub length_insert_at : (p v : ℕ) (xs : List ℕ) → length (insert_at p v xs) ≡ suc (length xs)
unfolding insert_at
length_insert_at p v xs = simp (length-append, length-take, length-drop) (omega arith)

pub length_remove_at : (p : ℕ) (xs : List ℕ) → p < length xs → suc (length (remove_at p xs)) ≡ length xs
unfolding remove_at
length_remove_at p xs l = simp (length-append, length-take, length-drop) (omega arith)

pub insert_low : (p v : ℕ) (xs : List ℕ) (a : ℕ) → a < p → p ≤ length xs → get_or (insert_at p v xs) a 0 ≡ get_or xs a 0
unfolding insert_at
insert_low zero v xs a l h = absurd (not-suc-le-zero l)
insert_low (suc p) v [] a l h = absurd (not-suc-le-zero h)
insert_low (suc p) v (x ∷ xs) zero l h = refl
insert_low (suc p) v (x ∷ xs) (suc a) l h = insert_low p v xs a (le_of_suc-le-suc l) (le_of_suc-le-suc h)

pub insert_here : (p v : ℕ) (xs : List ℕ) → p ≤ length xs → get_or (insert_at p v xs) p 0 ≡ v
unfolding insert_at
insert_here zero v xs h = refl
insert_here (suc p) v [] h = absurd (not-suc-le-zero h)
insert_here (suc p) v (x ∷ xs) h = insert_here p v xs (le_of_suc-le-suc h)

pub insert_high : (p v : ℕ) (xs : List ℕ) (a : ℕ) → p ≤ a → p ≤ length xs → get_or (insert_at p v xs) (suc a) 0 ≡ get_or xs a 0
unfolding insert_at
insert_high zero v xs a l h = refl
insert_high (suc p) v [] a l h = absurd (not-suc-le-zero h)
insert_high (suc p) v (x ∷ xs) zero l h = absurd (not-suc-le-zero l)
insert_high (suc p) v (x ∷ xs) (suc a) l h = insert_high p v xs a (le_of_suc-le-suc l) (le_of_suc-le-suc h)

-- the entry of a goes to a or a + 1
pub insert_raised : (p v : ℕ) (xs : List ℕ) (a : ℕ) → p ≤ length xs → get_or (insert_at p v xs) (raised p a) 0 ≡ get_or xs a 0
insert_raised p v xs a h =
    ⊎_elim (λ l. ap (λ (i : ℕ). get_or (insert_at p v xs) i 0) (raised_low p a l) ∙ insert_low p v xs a l h)
    (λ l. ap (λ (i : ℕ). get_or (insert_at p v xs) i 0) (raised_high p a l) ∙ insert_high p v xs a l h)
    (below_or_not a p)

pub remove_low : (p : ℕ) (xs : List ℕ) (a : ℕ) → a < p → get_or (remove_at p xs) a 0 ≡ get_or xs a 0
unfolding remove_at
remove_low zero xs a l = absurd (not-suc-le-zero l)
remove_low (suc p) [] a l = refl
remove_low (suc p) (x ∷ xs) zero l = refl
remove_low (suc p) (x ∷ xs) (suc a) l = remove_low p xs a (le_of_suc-le-suc l)

pub remove_high : (p : ℕ) (xs : List ℕ) (a : ℕ) → p ≤ a → get_or (remove_at p xs) a 0 ≡ get_or xs (suc a) 0
unfolding remove_at
remove_high zero [] a l = refl
remove_high zero (x ∷ xs) a l = refl
remove_high (suc p) [] a l = refl
remove_high (suc p) (x ∷ xs) zero l = absurd (not-suc-le-zero l)
remove_high (suc p) (x ∷ xs) (suc a) l = remove_high p xs a (le_of_suc-le-suc l)

-- the reverse: at a stands the entry of a or a + 1
pub remove_raised : (p : ℕ) (xs : List ℕ) (a : ℕ) → get_or (remove_at p xs) a 0 ≡ get_or xs (raised p a) 0
remove_raised p xs a =
    ⊎_elim (λ l. remove_low p xs a l ∙ ap (λ (i : ℕ). get_or xs i 0) (sym (raised_low p a l)))
    (λ l. remove_high p xs a l ∙ ap (λ (i : ℕ). get_or xs i 0) (sym (raised_high p a l)))
    (below_or_not a p)

-- in and out again
pub remove_insert : (p v : ℕ) (xs : List ℕ) → p ≤ length xs → remove_at p (insert_at p v xs) ≡ xs
unfolding insert_at remove_at
remove_insert zero v xs h = refl
remove_insert (suc p) v [] h = absurd (not-suc-le-zero h)
remove_insert (suc p) v (x ∷ xs) h = ap (λ (l : List ℕ). x ∷ l) (remove_insert p v xs (le_of_suc-le-suc h))

-- ---- a table of which the first n entries are in use, and a new actor at p

module _ (c : List ℕ) (n p : ℕ) (hp : p ≤ n) (hn : n < length c) where
  used : length (take n c) ≡ n
  used = length-take-le n c (omega arith)

  grown : length (insert_at p 0 (take n c)) ≡ suc n
  grown = length_insert_at p 0 (take n c) ∙ ap suc used

  pub length_inserted : length (inserted c n p) ≡ length c
  unfolding inserted
  length_inserted = simp (length-append, length-drop, grown) (omega arith)

  -- the entries in use are those of the list with nothing put in at p
  pub inserted_in_use : take (suc n) (inserted c n p) ≡ insert_at p 0 (take n c)
  unfolding inserted
  inserted_in_use = take_at (insert_at p 0 (take n c)) (drop (suc n) c) (suc n) grown

  -- before p and past them all stays
  pub inserted_head : take p (inserted c n p) ≡ take p c
  unfolding inserted insert_at
  inserted_head =
      rw (append_assoc (take p (take n c)) (0 ∷ drop p (take n c)) (drop (suc n) c), take-take p n c hp)
      (take_at (take p c) _ p (length-take-le p c (omega arith)))

  pub inserted_rest : drop (suc n) (inserted c n p) ≡ drop (suc n) c
  unfolding inserted
  inserted_rest = drop_at (insert_at p 0 (take n c)) (drop (suc n) c) (suc n) grown

  within : (a : ℕ) → a ≤ n → get_or (inserted c n p) a 0 ≡ get_or (insert_at p 0 (take n c)) a 0
  within a l = sym (get_or-take (suc n) (inserted c n p) a 0 (omega arith)) ∙ ap (λ (l : List ℕ). get_or l a 0) inserted_in_use

  pub inserted_low : (a : ℕ) → a < p → get_or (inserted c n p) a 0 ≡ get_or c a 0
  inserted_low a l = within a (omega arith) ∙ insert_low p 0 (take n c) a l (omega (arith, used)) ∙ get_or-take n c a 0 (omega arith)

  pub inserted_here : get_or (inserted c n p) p 0 ≡ 0
  inserted_here = within p hp ∙ insert_here p 0 (take n c) (omega (arith, used))

  pub inserted_high : (a : ℕ) → p ≤ a → a < n → get_or (inserted c n p) (suc a) 0 ≡ get_or c a 0
  inserted_high a l h = within (suc a) h ∙ insert_high p 0 (take n c) a l (omega (arith, used)) ∙ get_or-take n c a 0 h

  pub inserted_past : (a : ℕ) → n < a → get_or (inserted c n p) a 0 ≡ get_or c a 0
  inserted_past a l =
      let e : suc n + (a - suc n) ≡ a = omega arith in
      ap (λ (i : ℕ). get_or (inserted c n p) i 0) (sym e)
      ∙ (sym (get_or-drop (suc n) (inserted c n p) (a - suc n) 0)
      ∙ (ap (λ (l : List ℕ). get_or l (a - suc n) 0) inserted_rest
      ∙ (get_or-drop (suc n) c (a - suc n) 0 ∙ ap (λ (i : ℕ). get_or c i 0) e)))

  -- an actor's entry goes with it
  pub inserted_raised : (a : ℕ) → a < n → get_or (inserted c n p) (raised p a) 0 ≡ get_or c a 0
  inserted_raised a h =
      ⊎_elim (λ l. ap (λ (i : ℕ). get_or (inserted c n p) i 0) (raised_low p a l) ∙ inserted_low a l)
      (λ l. ap (λ (i : ℕ). get_or (inserted c n p) i 0) (raised_high p a l) ∙ inserted_high a l h)
      (below_or_not a p)

-- ---- the same where the actor at p goes

module _ (c : List ℕ) (n p : ℕ) (hp : p < n) (hn : n ≤ length c) where
  whole : length (take n c) ≡ n
  whole = length-take-le n c (omega arith)

  less : suc (length (remove_at p (take n c))) ≡ n
  less = length_remove_at p (take n c) (omega (arith, whole)) ∙ whole

  filled : length (remove_at p (take n c) ++ 0 ∷ []) ≡ n
  filled = simp length-append (omega (arith, less))

  pub length_removed : length (removed c n p) ≡ length c
  unfolding removed
  length_removed = simp (length-append, length-drop) (omega (arith, less))

  -- the entries in use are those of the list without p, and nothing at the place that fell free
  pub removed_in_use : take n (removed c n p) ≡ remove_at p (take n c) ++ 0 ∷ []
  unfolding removed
  removed_in_use = take_at (remove_at p (take n c) ++ 0 ∷ []) (drop n c) n filled

  pub removed_head : take p (removed c n p) ≡ take p c
  unfolding removed remove_at
  removed_head =
      rw (append_assoc (take p (take n c) ++ drop (suc p) (take n c)) (0 ∷ []) (drop n c), append_assoc (take p (take n c)) (drop (suc p) (take n c)) (0 ∷ drop n c), take-take p n c (omega arith))
      (take_at (take p c) _ p (length-take-le p c (omega arith)))

  pub removed_rest : drop n (removed c n p) ≡ drop n c
  unfolding removed
  removed_rest = drop_at (remove_at p (take n c) ++ 0 ∷ []) (drop n c) n filled

  inside : (a : ℕ) → suc a < n → get_or (removed c n p) a 0 ≡ get_or (remove_at p (take n c)) a 0
  inside a l =
      sym (get_or-take n (removed c n p) a 0 (omega arith))
      ∙ (ap (λ (l : List ℕ). get_or l a 0) removed_in_use
      ∙ get_or-append (remove_at p (take n c)) (0 ∷ []) 0 a (omega (arith, less)))

  pub removed_low : (a : ℕ) → a < p → get_or (removed c n p) a 0 ≡ get_or c a 0
  removed_low a l = inside a (omega arith) ∙ remove_low p (take n c) a l ∙ get_or-take n c a 0 (omega arith)

  pub removed_high : (a : ℕ) → p ≤ a → suc a < n → get_or (removed c n p) a 0 ≡ get_or c (suc a) 0
  removed_high a l h = inside a h ∙ remove_high p (take n c) a l ∙ get_or-take n c (suc a) 0 h

  pub removed_free : (a : ℕ) → suc a ≡ n → get_or (removed c n p) a 0 ≡ 0
  removed_free a e =
      sym (get_or-take n (removed c n p) a 0 (omega arith))
      ∙ (ap (λ (l : List ℕ). get_or l a 0) removed_in_use
      ∙ get_or_at (remove_at p (take n c)) 0 [] 0 a (omega (arith, less)))

  pub removed_past : (a : ℕ) → n ≤ a → get_or (removed c n p) a 0 ≡ get_or c a 0
  removed_past a l =
      let e : n + (a - n) ≡ a = omega arith in
      ap (λ (i : ℕ). get_or (removed c n p) i 0) (sym e)
      ∙ (sym (get_or-drop n (removed c n p) (a - n) 0)
      ∙ (ap (λ (l : List ℕ). get_or l (a - n) 0) removed_rest
      ∙ (get_or-drop n c (a - n) 0 ∙ ap (λ (i : ℕ). get_or c i 0) e)))

  -- at an actor's new place stands its entry
  pub removed_raised : (a : ℕ) → suc a < n → get_or (removed c n p) a 0 ≡ get_or c (raised p a) 0
  removed_raised a h =
      ⊎_elim (λ l. removed_low a l ∙ ap (λ (i : ℕ). get_or c i 0) (sym (raised_low p a l)))
      (λ l. removed_high a l h ∙ ap (λ (i : ℕ). get_or c i 0) (sym (raised_high p a l)))
      (below_or_not a p)

-- ---- in and out again: the same entries in use, and nothing at the place past them

pub removed_inserted : (c : List ℕ) (n p : ℕ) → p ≤ n → n < length c → removed (inserted c n p) (suc n) p ≡ set c n 0
unfolding removed
removed_inserted c n p hp hn =
    rw (inserted_in_use c n p hp hn, inserted_rest c n p hp hn, remove_insert p 0 (take n c) (omega (arith, used c n p hp hn)))
    (append_assoc (take n c) (0 ∷ []) (drop (suc n) c) ∙ sym (set_split c n 0 hn))

-- ---- a row that holds nothing at and past its count, as a cached clock does

unfoldable pub Ends : List ℕ → ℕ → Type 0
Ends c n = (a : ℕ) → n ≤ a → get_or c a 0 ≡ 0

module _ (c : List ℕ) (n p : ℕ) (ends : Ends c n) (hp : p ≤ n) (hn : n < length c) where
  -- each entry goes with its actor, whatever the actor's number
  pub inserted_row : (a : ℕ) → get_or (inserted c n p) (raised p a) 0 ≡ get_or c a 0
  unfolding Ends
  inserted_row a =
      ⊎_elim (λ l. inserted_raised c n p hp hn a l)
      (λ l. ap (λ (i : ℕ). get_or (inserted c n p) i 0) (raised_high p a (omega arith)) ∙ (inserted_past c n p hp hn (suc a) (omega arith) ∙ (ends (suc a) (omega arith) ∙ sym (ends a l))))
      (below_or_not a n)

  pub inserted_ends : Ends (inserted c n p) (suc n)
  unfolding Ends
  inserted_ends a l = inserted_past c n p hp hn a l ∙ ends a (omega arith)

  -- and back
  pub inserted_back : removed (inserted c n p) (suc n) p ≡ c
  unfolding Ends
  inserted_back = removed_inserted c n p hp hn ∙ (ap (set c n) (sym (ends n (omega arith))) ∙ set-get_or c n 0)

module _ (c : List ℕ) (n p : ℕ) (ends : Ends c n) (hp : p < n) (hn : n ≤ length c) where
  pub removed_row : (a : ℕ) → get_or (removed c n p) a 0 ≡ get_or c (raised p a) 0
  unfolding Ends
  removed_row a =
      ⊎_elim (λ l. removed_raised c n p hp hn a l)
      (λ l. ⊎_elim (λ e. removed_free c n p hp hn a (sym e)) (λ h. removed_past c n p hp hn a (omega arith) ∙ ends a (omega arith)) (eq-or-lt_of_le l)
      ∙ (sym (ends (suc a) l) ∙ ap (λ (i : ℕ). get_or c i 0) (sym (raised_high p a (omega arith)))))
      (below_or_not (suc a) n)

  pub removed_ends : Ends (removed c n p) (n - 1)
  unfolding Ends
  removed_ends a l = removed_row a ∙ (ap (λ (i : ℕ). get_or c i 0) (raised_high p a (omega arith)) ∙ ends (suc a) (omega arith))

-- a row that holds nothing stays as it is
pub inserted_nothing : (c : List ℕ) (n p : ℕ) → Ends c 0 → p ≤ n → n < length c → inserted c n p ≡ c
unfolding Ends
inserted_nothing c n p z hp hn = ext_get_or 0 (inserted c n p) c (length_inserted c n p hp hn) (λ a l. at a ∙ sym (z a (omega arith)))
  where
    high : (a : ℕ) → p < a → get_or (inserted c n p) a 0 ≡ 0
    high zero l = absurd (not-suc-le-zero l)
    high (suc a) l = ⊎_elim (λ h. inserted_high c n p hp hn a (le_of_suc-le-suc l) h ∙ z a (omega arith)) (λ h. inserted_past c n p hp hn (suc a) (omega arith) ∙ z (suc a) (omega arith)) (below_or_not a n)

    at : (a : ℕ) → get_or (inserted c n p) a 0 ≡ 0
    at a =
        ⊎_elim (λ l. inserted_low c n p hp hn a l ∙ z a (omega arith))
        (λ r. ⊎_elim (λ e. ap (λ (i : ℕ). get_or (inserted c n p) i 0) e ∙ inserted_here c n p hp hn) (high a) r)
        (three_ways a p)

pub removed_nothing : (c : List ℕ) (n p : ℕ) → Ends c 0 → p < n → n ≤ length c → removed c n p ≡ c
unfolding Ends
removed_nothing c n p z hp hn =
    ext_get_or 0 (removed c n p) c (length_removed c n p hp hn)
    (λ a l. removed_row c n p (λ i h. z i (omega arith)) hp hn a ∙ (z (raised p a) (omega arith) ∙ sym (z a (omega arith))))
