-- The next line of the input, and what it does to the answer that is still to come.
-- Assumes nothing.
use Rattle.std.specs.Prelude.{◌≡◌, refl, List, [], ◌∷◌, ◌++◌, Bool, true, false, cond, ℕ, suc, ◌+◌, ◌-◌, ◌≤◌, ◌<◌, leb, ltb, length}
use Rattle.std.proofs.Common.{◌∙◌, arith, le-leb, leb-true, leb-false, ltb-true, ltb-false}
use Rattle.std.proofs.Math.ListN.{drop_of_length-le}
use Rattle.paper.specs.Text.{parted}
use Rattle.paper.specs.Session.{Phase, first, second, asking, ended, bad_text, bad_line, long_line, line_step, ending, answers}
use Rattle.paper.proofs.Session.{long_first}
use Rattle.text.specs.Parts.{end_of, part, parts_from}
use Rattle.text.specs.PartsLaws.{parts_at, parts_out, part_length_lem, end_bounds}
use Rattle.text.specs.Answers.{line_to, line_at}
use Rattle.text.specs.declared.Cursor.{Cursor}
use Rattle.text.specs.declared.Next.{Next}
use Rattle.text.specs.declared.Next.TheVariants.{Whole, Unended, TooLong, End}

-- a line from a to e, and the place past its LF
pub record Line (s : List ℕ) (at a e : ℕ) (c : Cursor) : Type 0 where
  pub start : a ≡ at
  pub end : e ≡ end_of 10 s at
  pub next : c.at ≡ end_of 10 s at + 1
  pub inside : at < length s
  pub short : end_of 10 s at - at ≤ 2400
  pub stop : end_of 10 s at < length s

-- what each answer says of the bytes
record Cases (s : List ℕ) (at : ℕ) (r : Next) : Type 0 where
  is_end : r ≡ End → length s ≤ at
  is_long : r ≡ TooLong → (at < length s) × (2400 < end_of 10 s at - at)
  is_open : r ≡ Unended → (at < length s) × (length s ≤ end_of 10 s at)
  is_whole : (a e : ℕ) (c : Cursor) → r ≡ Whole a e c → Line s at a e c

cases : (s : List ℕ) (at : ℕ) → Cases s at (line_at s at)
unfolding line_at line_to
cases s at = go (leb (length s) at) (ltb 2400 (end_of 10 s at - at)) (ltb (end_of 10 s at) (length s)) refl refl refl
  where
    never : {A : Type 0} → ◌≡◌ {A = ℕ} 0 1 → A
    never z = absurd (omega arith)

    go : (x y z : Bool) → leb (length s) at ≡ x → ltb 2400 (end_of 10 s at - at) ≡ y → ltb (end_of 10 s at) (length s) ≡ z
        → Cases s at (cond x End (cond y TooLong (cond z (Whole at (end_of 10 s at) (record { at = end_of 10 s at + 1 })) Unended)))
    go true y z p q w =
        record { is_end = λ e. leb-true _ _ p; is_long = λ e. never cc; is_open = λ e. never cc; is_whole = λ a b c e. never cc }
    go false true z p q w =
        let l = leb-false _ _ p in
        record { is_end = λ e. never cc; is_long = λ e. (l, ltb-true _ _ q); is_open = λ e. never cc; is_whole = λ a b c e. never cc }
    go false false true p q w =
        let l = leb-false _ _ p in
        let h = ltb-false _ _ q in
        let t = ltb-true _ _ w in
        record {
          is_end = λ e. never cc;
          is_long = λ e. never cc;
          is_open = λ e. never cc;
          is_whole = λ a b c e. record { start = cc; end = cc; next = cc; inside = l; short = h; stop = t };
        }
    go false false false p q w =
        let l = leb-false _ _ p in
        let t = ltb-false _ _ w in
        record { is_end = λ e. never cc; is_long = λ e. never cc; is_open = λ e. (l, t); is_whole = λ a b c e. never cc }

-- a bad line has not been yet
abbrev pub alive : Phase → Bool
alive first = true
alive second = true
alive (asking u) = true
alive ended = false

long_bad : (p : Phase) (n : ℕ) → alive p ≡ true → (long_line p n).said ≡ bad_text n
unfolding long_line bad_line
long_bad first n a = refl
long_bad second n a = refl
long_bad (asking u) n a = refl
long_bad ended n a = let z : ◌≡◌ {A = ℕ} 0 1 = cc in absurd (omega arith)

open_bad : (p : Phase) (n : ℕ) (l : List ℕ) → alive p ≡ true → 0 < length l → ending p n l ≡ bad_text n
unfolding ending
open_bad first n l a h = refl
open_bad second n l a h = refl
open_bad (asking u) n [] a h = absurd (omega arith)
open_bad (asking u) n (b ∷ l) a h = refl
open_bad ended n l a h = let z : ◌≡◌ {A = ℕ} 0 1 = cc in absurd (omega arith)

module _ (p : Phase) (n : ℕ) (s : List ℕ) (at : ℕ) where
  -- nothing follows
  pub line_end : at ≤ length s → line_at s at ≡ End → answers p n (parts_from 10 s at) ≡ ending p n []
  unfolding parts_from parted answers
  line_end l e = let m = (cases s at).is_end e in rw (le-leb at (length s) l, drop_of_length-le s {i = at} m)

  module _ (a : alive p ≡ true) where
    pub line_long : line_at s at ≡ TooLong → answers p n (parts_from 10 s at) ≡ bad_text n
    line_long e =
        let m = (cases s at).is_long e in
        let b = end_bounds 10 s at (omega (arith, m.0)) in
        rw (parts_at 10 s at (omega (arith, m.0)))
        (long_first p n (part s at (end_of 10 s at)) (parts_from 10 s (end_of 10 s at + 1))
        (rw (part_length_lem s at (end_of 10 s at) b.0 b.1) m.1)
        ∙ long_bad p n a)

    pub line_open : line_at s at ≡ Unended → answers p n (parts_from 10 s at) ≡ bad_text n
    unfolding answers
    line_open e =
        let m = (cases s at).is_open e in
        let b = end_bounds 10 s at (omega (arith, m.0)) in
        rw (parts_at 10 s at (omega (arith, m.0)), parts_out 10 s (end_of 10 s at + 1) (omega (arith, m.1)))
        (open_bad p n (part s at (end_of 10 s at)) a (rw (part_length_lem s at (end_of 10 s at) b.0 b.1) (omega (arith, m.0, m.1))))

  -- a line, and what follows it
  module _ (a e : ℕ) (c : Cursor) (q : line_at s at ≡ Whole a e c) where
    pub line_is : Line s at a e c
    line_is = (cases s at).is_whole a e c q

    pub line_length : length (part s a e) ≤ 2400
    line_length =
        let m = line_is in
        let b = end_bounds 10 s at (omega (arith, m.inside)) in
        rw (m.start, m.end, part_length_lem s at (end_of 10 s at) b.0 b.1) m.short

    pub line_bounds : (a ≤ e) × (e ≤ length s) × (c.at ≤ length s) × (at < c.at)
    line_bounds =
        let m = line_is in
        let b = end_bounds 10 s at (omega (arith, m.inside)) in
        (omega (arith, m.start, m.end, b.0), omega (arith, m.end, m.stop), omega (arith, m.next, m.stop), omega (arith, m.next, b.0))

    pub line_whole : answers p n (parts_from 10 s at) ≡ (line_step p n (part s a e)).said ++ answers (line_step p n (part s a e)).phase (suc n) (parts_from 10 s c.at)
    unfolding answers
    line_whole =
        let m = line_is in
        rw (m.start, m.end, m.next, parts_at 10 s at (omega (arith, m.inside)), parts_at 10 s (end_of 10 s at + 1) (omega (arith, m.stop)))
