-- The ascending list of hashes: it ascends strictly, and holds exactly the listed hashes.
-- Assumes nothing.
use mathlib.Core.Path.{◌≡◌, refl, sym, ap, ◌∙◌, subst}
use mathlib.Core.Logic.{⊎_elim}
use mathlib.Core.Bool.{Bool, true, false, cond, ◌||◌}
use mathlib.Core.List.{List, [], ◌∷◌}
use Prim.Native.Nat.{ℕ, ◌+◌, ◌≤◌}
use native.Mathlib.Omega.{arith}
use lib.ListN.{length}
use Rattle.paper.specs.Lists.{same_list, less_list, names, enter, ascending, every}
use Rattle.paper.proofs.Bools.{by_bool, not-both, to_false, same_bool, or_cases, and_both}
use Rattle.paper.proofs.Hashes.{same→eq, eq→same, less_irrefl, less_trans, less_total, every_of, of_every}

-- each is below those after it
unfoldable pub Ascends : List (List ℕ) → Type 0
Ascends [] = Unit {0}
Ascends (x ∷ xs) = (every (λ y. less_list x y) xs ≡ true) × Ascends xs

-- ---- entering

pub enter_grows : (h : List ℕ) (l : List (List ℕ)) → length l ≤ length (enter h l)
unfolding enter
enter_grows h [] = omega arith
enter_grows h (x ∷ xs) =
    let r = enter_grows h xs in
    by_bool (same_list h x) (λ t. rw t (omega arith)) (λ f. by_bool (less_list h x) (λ t. rw (f, t) (omega arith)) (λ g. rw (f, g) (omega arith)))

same_comm : (x y : List ℕ) → same_list x y ≡ same_list y x
same_comm x y = same_bool (same_list x y) (same_list y x) (λ t. eq→same y x (sym (same→eq x y t))) (λ t. eq→same x y (sym (same→eq y x t)))

or_swap : (a b c : Bool) → (a || (b || c)) ≡ (b || (a || c))
or_swap true true c = refl
or_swap true false c = refl
or_swap false b c = refl

or_again : (a b : Bool) → (a || b) ≡ (a || (a || b))
or_again true b = refl
or_again false b = refl

pub enter_names : (k h : List ℕ) (l : List (List ℕ)) → names k (enter h l) ≡ (same_list h k || names k l)
unfolding enter names
enter_names k h [] = refl
enter_names k h (x ∷ xs) =
    let r = enter_names k h xs in
    by_bool (same_list h x)
    (λ t. rw t (ap (λ (b : Bool). b || names k xs) (sym (first t)) ∙ or_again (same_list h k) (names k xs) ∙ ap (λ (b : Bool). same_list h k || (b || names k xs)) (first t)))
    (λ f. by_bool (less_list h x) (λ t. rw (f, t)) (λ g. rw (f, g) (ap (λ (b : Bool). same_list x k || b) r ∙ or_swap (same_list x k) (same_list h k) (names k xs))))
  where
    first : same_list h x ≡ true → same_list h k ≡ same_list x k
    first t = ap (λ (y : List ℕ). same_list y k) (same→eq h x t)

-- the hash that is greater goes on
greater : (h x : List ℕ) → same_list h x ≡ false → less_list h x ≡ false → less_list x h ≡ true
greater h x f g = ⊎_elim (λ t. not-both t g) (⊎_elim (λ e. not-both (eq→same h x e) f) (λ t. t)) (less_total h x)

pub enter_ascends : (h : List ℕ) (l : List (List ℕ)) → Ascends l → Ascends (enter h l)
unfolding enter Ascends every
enter_ascends h [] a = (refl, a)
enter_ascends h (x ∷ xs) a =
    let r = enter_ascends h xs a.1 in
    by_bool (same_list h x) (λ t. rw t a)
    (λ f.
    by_bool (less_list h x)
    (λ t.
    rw (f, t) (
      and_both (less_list h x) (every (λ y. less_list h y) xs) t (every_of (λ y. less_list h y) xs (λ y n. less_trans h x y t (of_every (λ y. less_list x y) xs a.0 y n))),
      a,
    ))
    (λ g.
    rw (f, g) (
      every_of (λ y. less_list x y) (enter h xs)
          (λ y n.
          ⊎_elim (λ s. subst (λ (z : List ℕ). less_list x z ≡ true) (same→eq h y s) (greater h x f g)) (λ m. of_every (λ y. less_list x y) xs a.0 y m)
          (or_cases (same_list h y) (names y xs) (sym (enter_names y h xs) ∙ n))),
      r,
    )))

-- in an ascending list a hash that is named stands there, and none is added
pub enter_long : (h : List ℕ) (l : List (List ℕ)) → Ascends l → length (enter h l) ≡ length l + cond (names h l) 0 1
unfolding enter names Ascends
enter_long h [] a = refl
enter_long h (x ∷ xs) a =
    let r = enter_long h xs a.1 in
    by_bool (same_list h x)
    (λ t. rw (t, sym (same_comm h x) ∙ t) (omega arith))
    (λ f.
    by_bool (less_list h x)
    (λ t. rw (f, t, sym (same_comm h x) ∙ f, unnamed t) (omega arith))
    (λ g. rw (f, g, sym (same_comm h x) ∙ f) (omega arith)))
  where
    unnamed : less_list h x ≡ true → names h xs ≡ false
    unnamed t = to_false (names h xs) (λ n. less_irrefl h (less_trans h x h t (of_every (λ y. less_list x y) xs a.0 h n)))

-- ---- the whole list

pub ascending_ascends : (l : List (List ℕ)) → Ascends (ascending l)
unfolding ascending Ascends
ascending_ascends [] = tt
ascending_ascends (h ∷ l) = enter_ascends h (ascending l) (ascending_ascends l)

pub ascending_names : (k : List ℕ) (l : List (List ℕ)) → names k (ascending l) ≡ names k l
unfolding ascending names
ascending_names k [] = refl
ascending_names k (h ∷ l) = enter_names k h (ascending l) ∙ ap (λ (b : Bool). same_list h k || b) (ascending_names k l)

pub ascending_long : (h : List ℕ) (l : List (List ℕ)) → length (ascending (h ∷ l)) ≡ length (ascending l) + cond (names h l) 0 1
unfolding ascending
ascending_long h l = enter_long h (ascending l) (ascending_ascends l) ∙ ap (λ (b : Bool). length (ascending l) + cond b 0 1) (ascending_names h l)

pub ascending_grows : (h : List ℕ) (l : List (List ℕ)) → length (ascending l) ≤ length (ascending (h ∷ l))
unfolding ascending
ascending_grows h l = enter_grows h (ascending l)

-- no hash stands twice in the list
unfoldable pub Once : List (List ℕ) → Type 0
Once [] = Unit {0}
Once (h ∷ l) = (names h l ≡ false) × Once l

-- then the ascending list has as many
pub ascending_once : (l : List (List ℕ)) → Once l → length (ascending l) ≡ length l
unfolding Once ascending
ascending_once [] o = refl
ascending_once (h ∷ l) o = ascending_long h l ∙ rw o.0 (let r = ascending_once l o.1 in omega arith)
