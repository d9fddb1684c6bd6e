-- No bytes, and a leading 0 that is not all, are no number. The byte that is read is no digit, makes the number too large, or is its next digit. Assumes nothing.
use Rattle.std.proofs.Common.{◌≡◌, ◌+◌, ◌-◌, ◌*◌, ◌<◌, ◌≤◌, ◌^◌, ℕ, None, List, ◌∷◌, drop, get_or, length, rules, sym, ap, ◌∙◌, ⊎_elim, arith}
use Rattle.std.proofs.Math.Option.{none}
use Rattle.std.proofs.lemmas.Bool.{eqb-true, eqb-false}
use Rattle.std.specs.Char.{IsNotAsciiDigit}
use Rattle.list_laws.specs.Rest.{drop_more}
use Rattle.paper.specs.Text.{decimal_of, digits_after}
use Rattle.text.specs.Answers.{parsed}
use Rattle.text.specs.WordsLaws.{digit_low, digit_high, digit_more, digit_over, digits_end, number_none, number_zero, number_first, number_one}
use Rattle.text.proofs.decimal.Goals as goal
use Rattle.text.proofs.decimal.Goals.{else-s-eq48-via-then-s-eq48+else-s-gt1, else-s-eq48-via-else-s-eq48}

-- what is said of the number is said of the answer
said : (s : List ℕ) → decimal_of s ≡ none → None ≡ parsed (decimal_of s)
unfolding parsed
said s e = rw e

-- the byte at i is the next to be read
module _ (s : List ℕ) (i v : ℕ) (l : i < length s) (n : decimal_of s ≡ digits_after v (drop i s)) where
  read : decimal_of s ≡ digits_after v (get_or s i 0 ∷ drop (i + 1) s)
  read = n ∙ ap (digits_after v) (drop_more s i l)

  no_digit : IsNotAsciiDigit (get_or s i 0) → decimal_of s ≡ none
  no_digit h = read ∙ ⊎_elim (digit_low _ _ _) (digit_high _ _ _) (search rules)

  too_large : 2 ^ 64 ≤ v * 10 + (get_or s i 0 - 48) → decimal_of s ≡ none
  too_large h = read ∙ digit_over _ _ _ h

  one_more : 48 ≤ get_or s i 0 → get_or s i 0 ≤ 57 → decimal_of s ≡ digits_after (v * 10 + (get_or s i 0 - 48)) (drop (i + 1) s)
  one_more a b = read ∙ digit_more _ _ _ a b

pub returns-then-is_empty : goal.returns-then-is_empty
returns-then-is_empty c = said _ (number_none c.args.s.now (eqb-true _ _ (sym c.is_empty.ensures ∙ c.if-is_empty.true)))

pub returns-then-s-gt1 : goal.returns-then-s-gt1
returns-then-s-gt1 c = said _ (number_zero c.args.s.now (omega arith) (omega arith))

-- there is a byte
some_byte : (n : ℕ) → (n ≡ 0 → ⊥) → 0 < n
some_byte n e = omega arith

pub loop-b-init : goal.loop-b-init
loop-b-init c =
    let l = some_byte _ (eqb-false _ _ (sym c.is_empty.ensures ∙ c.if-is_empty.false)) in (
      omega arith,
      elim c.else-s-eq48.branch [
        | else-s-eq48-via-then-s-eq48+else-s-gt1 w ↦ number_one c.args.s.now l w.if-s-gt1.false
        | else-s-eq48-via-else-s-eq48 w ↦ number_first c.args.s.now l w.if-s-eq48.false
      ],
    )

pub returns-then-not-is_ascii_digit : goal.returns-then-not-is_ascii_digit
returns-then-not-is_ascii_digit c = said _ (no_digit _ _ _ c.loop-b-test.true c.loop-b.invariant.1 c.if-not-is_ascii_digit.ensures.cases)

pub returns-in_err-checked_mul : goal.returns-in_err-checked_mul
returns-in_err-checked_mul c =
    c.from_residual.ensures ∙ said _ (too_large _ _ _ c.loop-b-test.true c.loop-b.invariant.1 (omega (arith, c.in_err-checked_mul.ensures)))

pub returns-in_err-v : goal.returns-in_err-v
returns-in_err-v c =
    c.from_residual-in_err-v.ensures
    ∙ said _ (too_large _ _ _ c.loop-b-test.true c.loop-b.invariant.1 (omega (arith, c.in_err-v.ensures, c.in_ok-checked_mul.ensures, c.from.ensures)))

pub loop-b-preserved : goal.loop-b-preserved
loop-b-preserved c =
    let d = c.if-not-is_ascii_digit.ensures.cases in
    let p = c.in_ok-checked_mul.ensures in
    let q = c.in_ok-v.ensures in
    let e : c.in_ok-v.v ≡ c.loop-b.v * 10 + (get_or c.args.s.now c.loop-b.b-index 0 - 48) = omega (arith, c.from.ensures) in
    (omega arith, rw e (one_more _ _ _ c.loop-b-test.true c.loop-b.invariant.1 d.0 d.1))

pub returns : goal.returns
unfolding parsed
returns c = ap parsed (sym (c.loop-b.invariant.1 ∙ digits_end _ _ _ c.loop-b-test.false c.loop-b.invariant.0))
