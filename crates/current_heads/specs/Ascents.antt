-- An ascending list is told by what it names: lists that name the same hashes have the same ascending list, whatever their order and repeats.
-- Assumes nothing.
use Rattle.std.specs.Prelude.{◌≡◌, refl, ◌↔◌, true, List, [], ◌∷◌, ℕ}
use Rattle.std.proofs.Common.{sym, ap₂, ◌∙◌, subst, ⊎_elim}
use Rattle.paper.specs.Lists.{same_list, less_list, names, ascending, every}
use Rattle.paper.specs.Loading.{same_hashes}
use Rattle.paper.proofs.Bools.{not-both, same_bool, or_cases, or_left, or_right, and_both, and_fst, and_snd}
use Rattle.paper.proofs.Hashes.{same_refl, same→eq, less_irrefl, less_trans, every_of, of_every}
use Rattle.paper.proofs.Ascending.{Ascends, ascending_ascends, ascending_names}

-- two lists name the same hashes
abbrev pub NamesSame : List (List ℕ) → List (List ℕ) → Type 0
NamesSame xs ys = (h : List ℕ) → names h xs ≡ names h ys

-- ---- ascending lists

module _ (x : List ℕ) (xs : List (List ℕ)) (a : Ascends (x ∷ xs)) where
  -- those after the first are above it
  above_first : (h : List ℕ) → names h xs ≡ true → less_list x h ≡ true
  unfolding Ascends
  above_first h n = of_every (λ y. less_list x y) xs a.0 h n

  rest_ascends : Ascends xs
  unfolding Ascends
  rest_ascends = a.1

-- the first hash of one is not above the first of the other
first_same : (x : List ℕ) (xs : List (List ℕ)) (y : List ℕ) (ys : List (List ℕ)) → Ascends (x ∷ xs) → Ascends (y ∷ ys) → NamesSame (x ∷ xs) (y ∷ ys) → x ≡ y
unfolding names
first_same x xs y ys a b e =
    ⊎_elim (λ s. sym (same→eq y x s))
    (λ n.
    ⊎_elim (λ s. same→eq x y s) (λ m. absurd (less_irrefl x (less_trans x y x (above_first x xs a y m) (above_first y ys b x n))))
    (or_cases (same_list x y) (names y xs) (e y ∙ or_left (same_list y y) (names y ys) (same_refl y))))
    (or_cases (same_list y x) (names x ys) (sym (e x) ∙ or_left (same_list x x) (names x xs) (same_refl x)))

-- what the rest names is named by the other's rest
rest_names : (x : List ℕ) (xs ys : List (List ℕ)) → Ascends (x ∷ xs) → NamesSame (x ∷ xs) (x ∷ ys) → (h : List ℕ) → names h xs ≡ true → names h ys ≡ true
unfolding names
rest_names x xs ys a e h n =
    ⊎_elim (λ s. absurd (less_irrefl x (subst (λ (z : List ℕ). less_list x z ≡ true) (sym (same→eq x h s)) (above_first x xs a h n)))) (λ m. m)
    (or_cases (same_list x h) (names h ys) (sym (e h) ∙ or_right (same_list x h) (names h xs) n))

pub ascends_one : (xs ys : List (List ℕ)) → Ascends xs → Ascends ys → NamesSame xs ys → xs ≡ ys
unfolding names
ascends_one [] [] a b e = refl
ascends_one [] (y ∷ ys) a b e = not-both (or_left (same_list y y) (names y ys) (same_refl y)) (sym (e y))
ascends_one (x ∷ xs) [] a b e = not-both (or_left (same_list x x) (names x xs) (same_refl x)) (e x)
ascends_one (x ∷ xs) (y ∷ ys) a b e =
    let q = first_same x xs y ys a b e in
    let b' : Ascends (x ∷ ys) = subst (λ (z : List ℕ). Ascends (z ∷ ys)) (sym q) b in
    let e' : NamesSame (x ∷ xs) (x ∷ ys) = subst (λ (z : List ℕ). NamesSame (x ∷ xs) (z ∷ ys)) (sym q) e in
    ap₂ (λ (z : List ℕ) (zs : List (List ℕ)). z ∷ zs) q
    (ascends_one xs ys (rest_ascends x xs a) (rest_ascends x ys b')
    (λ h. same_bool (names h xs) (names h ys) (rest_names x xs ys a e' h) (rest_names x ys xs b' (λ k. sym (e' k)) h)))

-- ---- any lists

pub ascending_same : (xs ys : List (List ℕ)) → NamesSame xs ys → ascending xs ≡ ascending ys
ascending_same xs ys e =
    ascends_one (ascending xs) (ascending ys) (ascending_ascends xs) (ascending_ascends ys) (λ h. ascending_names h xs ∙ e h ∙ sym (ascending_names h ys))

-- the test says that the two name the same hashes
pub same_names : (xs ys : List (List ℕ)) → (same_hashes xs ys ≡ true) ↔ NamesSame xs ys
unfolding same_hashes
same_names xs ys = (
  (λ t h.
      same_bool (names h xs) (names h ys)
      (of_every (λ k. names k ys) xs (and_fst (every (λ k. names k ys) xs) (every (λ k. names k xs) ys) t) h)
      (of_every (λ k. names k xs) ys (and_snd (every (λ k. names k ys) xs) (every (λ k. names k xs) ys) t) h)),
  (λ e.
      and_both (every (λ k. names k ys) xs) (every (λ k. names k xs) ys) (every_of (λ k. names k ys) xs (λ h n. sym (e h) ∙ n)) (every_of (λ k. names k xs) ys (λ h n. e h ∙ n))),
)
