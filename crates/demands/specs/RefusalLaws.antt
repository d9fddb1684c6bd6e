-- The table of numbers as numbers, and a call's demand 1 from the two cases of its promise: what is lent is valid, or it is not. No decision which it is is needed.
-- Assumes nothing.
use Rattle.std.specs.Prelude.{◌≡◌, refl, List, [], ◌∷◌, ℕ, zero, suc, ◌≤◌, ◌<◌, eqb, leb, length}
use Rattle.std.proofs.Common.{sym, ap, ap₂, subst, ◌∙◌, ⊎_elim, eq-or-lt_of_le, arith, eqb-true, leb-true, leb-false}
use Rattle.std.proofs.lemmas.Bool.{eqb-false}
use Rattle.paper.specs.Lists.{same_list}
use Rattle.paper.specs.Numbers.{Outcome, number, done, not_valid, malformed, already_known, unknown_dependency, no_actor, wrong_sequence, wrong_ops, many_dependencies, no_node_room, no_edge_room, actor_has_changes, no_actor_room, not_found, no_owner, short_buffer, already_waiting, no_queue_room, columns_disagree}
use Rattle.paper.proofs.Bools.{by_bool, not-both}
use Rattle.paper.proofs.Hashes.{same→eq, eq→same}
use Rattle.demands.specs.Refusals.{InTable, NotDone, DemandOne}

-- ---- the table

pub in_table : (o : Outcome) → InTable (number o)
in_table o = record { which = o; is = refl }

pub outcome_small : (o : Outcome) → number o ≤ number columns_disagree
outcome_small done = omega arith
outcome_small not_valid = omega arith
outcome_small malformed = omega arith
outcome_small already_known = omega arith
outcome_small unknown_dependency = omega arith
outcome_small no_actor = omega arith
outcome_small wrong_sequence = omega arith
outcome_small wrong_ops = omega arith
outcome_small many_dependencies = omega arith
outcome_small no_node_room = omega arith
outcome_small no_edge_room = omega arith
outcome_small actor_has_changes = omega arith
outcome_small no_actor_room = omega arith
outcome_small not_found = omega arith
outcome_small no_owner = omega arith
outcome_small short_buffer = omega arith
outcome_small already_waiting = omega arith
outcome_small no_queue_room = omega arith
outcome_small columns_disagree = omega arith

-- the numbers of the table are those up to its last one
pub table_small : (r : ℕ) → InTable r → r ≤ number columns_disagree
table_small r i = let s = outcome_small i.which in omega (arith, i.is)

-- r is the outcome's number, or below it
down : (r : ℕ) (o : Outcome) → r ≤ number o → (r < number o → InTable r) → InTable r
down r o l below = by_bool (eqb r (number o)) (λ t. record { which = o; is = eqb-true r (number o) t }) (λ f. let n = eqb-false r (number o) f in below (lt_of l n))
  where
    lt_of : {a b : ℕ} → a ≤ b → (a ≡ b → ⊥) → a < b
    lt_of {a} {b} l n = ⊎_elim (λ e. absurd (n e)) (λ h. h) (eq-or-lt_of_le l)

pub small_table : (r : ℕ) → r ≤ number columns_disagree → InTable r
small_table r l =
    down r columns_disagree l
    (λ l. down r no_queue_room (omega arith)
    (λ l. down r already_waiting (omega arith)
    (λ l. down r short_buffer (omega arith)
    (λ l. down r no_owner (omega arith)
    (λ l. down r not_found (omega arith)
    (λ l. down r no_actor_room (omega arith)
    (λ l. down r actor_has_changes (omega arith)
    (λ l. down r no_edge_room (omega arith)
    (λ l. down r no_node_room (omega arith)
    (λ l. down r many_dependencies (omega arith)
    (λ l. down r wrong_ops (omega arith)
    (λ l. down r wrong_sequence (omega arith)
    (λ l. down r no_actor (omega arith)
    (λ l. down r unknown_dependency (omega arith)
    (λ l. down r already_known (omega arith)
    (λ l. down r malformed (omega arith)
    (λ l. down r not_valid (omega arith)
    (λ l. down r done (omega arith)
    (λ l. absurd (omega arith))))))))))))))))))))

-- a number that is not outside the table is in it
pub table_stable : (r : ℕ) → ((InTable r → ⊥) → ⊥) → InTable r
table_stable r n =
    by_bool (leb r (number columns_disagree)) (λ t. small_table r (leb-true r (number columns_disagree) t))
    (λ f. absurd (n (λ i. let s = table_small r i in let l = leb-false r (number columns_disagree) f in omega arith)))

-- ---- lists that are not different are the same

pub stable : (xs ys : List ℕ) → ((xs ≡ ys → ⊥) → ⊥) → xs ≡ ys
stable xs ys n = by_bool (same_list xs ys) (same→eq xs ys) (λ f. absurd (n (λ e. not-both (eq→same xs ys e) f)))

-- the list at a place, and those after the first
unfoldable pub list_at : ℕ → List (List ℕ) → List ℕ
list_at k [] = []
list_at zero (x ∷ m) = x
list_at (suc k) (x ∷ m) = list_at k m

unfoldable rest : List (List ℕ) → List (List ℕ)
rest [] = []
rest (x ∷ m) = m

pub stable_lists : (m m' : List (List ℕ)) → ((m ≡ m' → ⊥) → ⊥) → m ≡ m'
unfolding list_at rest
stable_lists [] [] n = refl
stable_lists [] (y ∷ m') n = absurd (n (λ e. let z : ◌≡◌ {A = ℕ} 0 (suc (length m')) = ap length e in omega arith))
stable_lists (x ∷ m) [] n = absurd (n (λ e. let z : ◌≡◌ {A = ℕ} (suc (length m)) 0 = ap length e in omega arith))
stable_lists (x ∷ m) (y ∷ m') n =
    ap₂ (λ (l : List ℕ) (k : List (List ℕ)). l ∷ k) (stable x y (λ d. n (λ e. d (ap (list_at 0) e)))) (stable_lists m m' (λ d. n (λ e. d (ap rest e))))

-- ---- a call

module _ {r : ℕ} {m m' : List (List ℕ)} where
  -- it answers a
  pub by_answer : {a : ℕ} → r ≡ a → InTable a → (NotDone a → m' ≡ m) → DemandOne r m m'
  by_answer {a} e i k = record { numbered = subst InTable (sym e) i; keeps = λ n. k (λ z. n (e ∙ z)) }

  -- whether P holds or not
  pub either_way : {P : Type 0} → (P → DemandOne r m m') → ((P → ⊥) → DemandOne r m m') → DemandOne r m m'
  either_way held not-held = record {
    numbered = table_stable r (λ d. d (not-held (λ p. d (held p).numbered)).numbered);
    keeps = λ n. stable_lists m' m (λ d. d ((not-held (λ p. d ((held p).keeps n))).keeps n));
  }
