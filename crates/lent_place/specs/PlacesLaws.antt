-- From an enum answer to its number, and places that are not there.
-- Assumes nothing.
use Rattle.std.specs.Prelude.{◌≡◌, refl, ◌⊎◌, List, [], ◌∷◌, ℕ, length}
use Rattle.std.proofs.Common.{ap, subst, ◌∙◌, ⊎_elim, arith}
use Rattle.lent_place.specs.Places.{told_in, Numbered}

-- where no place is lent nothing is told
pub told_nowhere : (v : ℕ) (l : List ℕ) → length l ≡ 0 → l ≡ told_in v l
told_nowhere v [] e = refl
told_nowhere v (x ∷ l) e = absurd (omega arith)

-- an answer that is `good` or `bad` by what is lent, with its number and what it left
pub numbered : {A : Type 0} (number : A → ℕ) {held : Type 0} {good bad : A} (left : A → Type 0) (r : ℕ) {a : A}
    → (held × (a ≡ good)) ⊎ ((held → ⊥) × (a ≡ bad)) → r ≡ number a → left a → Numbered number held good bad left r
numbered {A} number {held} {good} {bad} left r {a} o e p =
    ⊎_elim
    (λ (h : held × (a ≡ good)). record { met = λ _. (e ∙ ap number h.1, subst left h.1 p); unmet = λ n. absurd (n h.0) })
    (λ (h : (held → ⊥) × (a ≡ bad)). record { met = λ v. absurd (h.0 v); unmet = λ _. (e ∙ ap number h.1, subst left h.1 p) })
    o
