-- What a C function promises beside its number: what a lent place holds afterwards, and the promise of an operation that checks what it is lent.
-- Assumes nothing.
use Rattle.std.specs.Prelude.{◌≡◌, List, ℕ, set}

-- v told in a lent place: the first number is v and the others stay; where no place is lent nothing is told
abbrev pub told_in : ℕ → List ℕ → List ℕ
told_in v l = set l 0 v

-- where what is lent is valid (held) the answer is `good`, and else `bad`; r is the answer's number, and `left` says what became of the lent memory
pub record Numbered {A : Type 0} (number : A → ℕ) (held : Type 0) (good bad : A) (left : A → Type 0) (r : ℕ) : Type 0 where
  pub met : held → (r ≡ number good) × left good
  pub unmet : (held → ⊥) → (r ≡ number bad) × left bad
