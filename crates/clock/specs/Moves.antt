-- Entries moved up or down by one place, and 0 set where one came free: the table with a place put in, or with one taken out.
-- Assumes nothing.
use Rattle.std.specs.Prelude.{◌≡◌, ℕ, zero, suc, ◌+◌, ◌-◌, ◌<◌, ◌≤◌, List, length, get_or, set}
use Rattle.std.specs.List.{CopiedTo, SameBelow, SameFrom}
use Rattle.std.proofs.Common.{sym, ap, ◌∙◌, ⊎_elim, arith, length-set, ext_get_or, get_or-set_same, get_or-set_other}
use Rattle.list_laws.specs.Cases.{below_or_not, three_ways}
use Rattle.clock.specs.Clock.{inserted, removed}
use Rattle.clock.specs.Places.{length_inserted, inserted_low, inserted_here, inserted_high, inserted_past, length_removed, removed_low, removed_high, removed_free, removed_past}

module _ (c d : List ℕ) (n p : ℕ) (long : length d ≡ length c) where
  -- the n - p entries from p on have gone one place up
  pub moved_up : p ≤ n → n < length c → CopiedTo c d p (p + 1) (n - p) → SameBelow c d (p + 1) → SameFrom c d (p + 1 + (n - p)) → set d p 0 ≡ inserted c n p
  moved_up hp hn copied below past = ext_get_or 0 (set d p 0) (inserted c n p) (omega (arith, length-set d p 0, length_inserted c n p hp hn)) (λ a h. at a)
    where
      other : (a : ℕ) → (a ≡ p → ⊥) → get_or (set d p 0) a 0 ≡ get_or d a 0
      other a ne = get_or-set_other d p a 0 0 ne

      high : (a : ℕ) → p < a → get_or (set d p 0) a 0 ≡ get_or (inserted c n p) a 0
      high zero l = absurd (omega arith)
      high (suc a) l =
          other (suc a) (λ e. absurd (omega arith))
          ∙ ⊎_elim
          (λ h. let e : p + (suc a - (p + 1)) ≡ a = omega arith in copied (suc a) 0 (omega arith) (omega arith) ∙ (ap (λ (k : ℕ). get_or c k 0) e ∙ sym (inserted_high c n p hp hn a (omega arith) h)))
          (λ h. past (suc a) 0 (omega arith) ∙ sym (inserted_past c n p hp hn (suc a) (omega arith)))
          (below_or_not a n)

      at : (a : ℕ) → get_or (set d p 0) a 0 ≡ get_or (inserted c n p) a 0
      at a =
          ⊎_elim (λ l. other a (λ e. absurd (omega arith)) ∙ (below a 0 (omega arith) ∙ sym (inserted_low c n p hp hn a l)))
          (λ r. ⊎_elim
          (λ e. ap (λ (k : ℕ). get_or (set d p 0) k 0) e ∙ (get_or-set_same d p 0 0 (omega arith) ∙ (sym (inserted_here c n p hp hn) ∙ ap (λ (k : ℕ). get_or (inserted c n p) k 0) (sym e))))
          (high a) r)
          (three_ways a p)

  -- those from p + 1 on have gone one place down
  pub moved_down : p < n → n ≤ length c → CopiedTo c d (p + 1) p (n - (p + 1)) → SameBelow c d p → SameFrom c d (p + (n - (p + 1))) → set d (n - 1) 0 ≡ removed c n p
  moved_down hp hn copied below past = ext_get_or 0 (set d (n - 1) 0) (removed c n p) (omega (arith, length-set d (n - 1) 0, length_removed c n p hp hn)) (λ a h. at a)
    where
      other : (a : ℕ) → (a ≡ n - 1 → ⊥) → get_or (set d (n - 1) 0) a 0 ≡ get_or d a 0
      other a ne = get_or-set_other d (n - 1) a 0 0 ne

      within : (a : ℕ) → a < n - 1 → get_or d a 0 ≡ get_or (removed c n p) a 0
      within a h =
          ⊎_elim (λ l. below a 0 l ∙ sym (removed_low c n p hp hn a l))
          (λ l. let e : p + 1 + (a - p) ≡ suc a = omega arith in copied a 0 l (omega arith) ∙ (ap (λ (k : ℕ). get_or c k 0) e ∙ sym (removed_high c n p hp hn a l (omega arith))))
          (below_or_not a p)

      at : (a : ℕ) → get_or (set d (n - 1) 0) a 0 ≡ get_or (removed c n p) a 0
      at a =
          ⊎_elim (λ l. other a (λ e. absurd (omega arith)) ∙ within a l)
          (λ r. ⊎_elim
          (λ e. ap (λ (k : ℕ). get_or (set d (n - 1) 0) k 0) e ∙ (get_or-set_same d (n - 1) 0 0 (omega arith) ∙ sym (removed_free c n p hp hn a (omega arith))))
          (λ l. other a (λ e. absurd (omega arith)) ∙ (past a 0 (omega arith) ∙ sym (removed_past c n p hp hn a (omega arith)))) r)
          (three_ways a (n - 1))
