-- Clocks as they are lent: the number of every operation is that of the paper's judgement, 1 too.
-- Assumes nothing.
use Rattle.std.specs.Prelude.{◌≡◌, Option, Bool, true, false, ◌&&◌, List, ℕ, eqb, ltb, leb, length}
use Rattle.std.proofs.Math.Path.{refl}
use Rattle.paper.specs.Numbers.{number, done}
use Rattle.paper.specs.Clocks.{clock_lent, judged_lent, judged_place, judged_seen, judged_covers, judged_entry}
use Rattle.paper.proofs.Bools.{by_bool, and_fst, and_snd}
use Rattle.clock.specs.declared.Range.{Range}
use Rattle.clock.specs.declared.Range.TheVariants.{Current, CurrentAt, Diff}
use Rattle.clock_checked.specs.Told.{clock_lendable, clock_number, get_told, include_told, merge_told, covers_told, isolate_told, op_told, insert_told, remove_told, seen_after, after_told, seen_before, before_told}

-- whether the range has a clock that it ends at, and one that it begins at
abbrev pub ends_at_clock : Range → Bool
ends_at_clock Current = false
ends_at_clock CurrentAt = true
ends_at_clock Diff = true

abbrev pub begins_at_clock : Range → Bool
begins_at_clock Current = false
begins_at_clock CurrentAt = false
begins_at_clock Diff = true

module _ (c : List ℕ) (n : ℕ) where
  pub get_agrees : (a : ℕ) → clock_number (get_told c n a) ≡ number (judged_lent (clock_lent n (length c)) done)
  unfolding clock_lent judged_lent
  get_agrees a = by_bool (clock_lendable c n) (λ y. rw y) (λ f. rw f)

  pub include_agrees : (a : ℕ) (e : Option ℕ) → clock_number (include_told c n a e).answer ≡ number (judged_lent (clock_lent n (length c)) (judged_place n a))
  unfolding clock_lent judged_lent judged_place
  include_agrees a e = by_bool (clock_lendable c n) (λ y. rw y (by_bool (leb n a) (λ z. rw z) (λ f. rw f))) (λ f. rw f)

  pub isolate_agrees : (a : ℕ) → clock_number (isolate_told c n a).answer ≡ number (judged_lent (clock_lent n (length c)) (judged_place n a))
  unfolding clock_lent judged_lent judged_place
  isolate_agrees a = by_bool (clock_lendable c n) (λ y. rw y (by_bool (leb n a) (λ z. rw z) (λ f. rw f))) (λ f. rw f)

  pub op_agrees : (a counter : ℕ) → clock_number (op_told c n a counter) ≡ number (judged_lent (clock_lent n (length c)) (judged_place n a))
  unfolding clock_lent judged_lent judged_place
  op_agrees a counter = by_bool (clock_lendable c n) (λ y. rw y (by_bool (leb n a) (λ z. rw z) (λ f. rw f))) (λ f. rw f)

  pub remove_agrees : (p : ℕ) → clock_number (remove_told c n p).answer ≡ number (judged_lent (clock_lent n (length c)) (judged_place n p))
  unfolding clock_lent judged_lent judged_place
  remove_agrees p = by_bool (clock_lendable c n) (λ y. rw y (by_bool (leb n p) (λ z. rw z) (λ f. rw f))) (λ f. rw f)

  pub insert_agrees : (p : ℕ) → clock_number (insert_told c n p).answer ≡ number (judged_lent (clock_lent n (length c)) (judged_entry (length c) n p))
  unfolding clock_lent judged_lent judged_entry
  insert_agrees p =
      by_bool (clock_lendable c n) (λ y. rw y (by_bool (ltb n p) (λ z. rw z) (λ f. rw f (by_bool (leb (length c) n) (λ z. rw z) (λ g. rw g))))) (λ f. rw f)

  -- c is the clock that the range ends at, and may be lent
  seen_after_agrees : clock_lendable c n ≡ true → (kind : Range) (a counter : ℕ) → clock_number (seen_after kind c n a counter) ≡ number (judged_seen (ends_at_clock kind) n a)
  unfolding judged_seen judged_place
  seen_after_agrees w Current a counter = refl
  seen_after_agrees w CurrentAt a counter = rw w (by_bool (leb n a) (λ z. rw z) (λ f. rw f))
  seen_after_agrees w Diff a counter = rw w (by_bool (leb n a) (λ z. rw z) (λ f. rw f))

  -- c is the clock that it begins at
  seen_before_agrees : clock_lendable c n ≡ true → (kind : Range) (a counter : ℕ) → clock_number (seen_before kind c n a counter) ≡ number (judged_seen (begins_at_clock kind) n a)
  unfolding judged_seen judged_place
  seen_before_agrees w Current a counter = refl
  seen_before_agrees w CurrentAt a counter = refl
  seen_before_agrees w Diff a counter = rw w (by_bool (leb n a) (λ z. rw z) (λ f. rw f))

-- two clocks, b the one that a range begins at
module _ (b : List ℕ) (n : ℕ) (c : List ℕ) (m : ℕ) where
  pub merge_agrees : clock_number (merge_told b n c m).answer ≡ number (judged_lent (clock_lent n (length b) && clock_lent m (length c)) done)
  unfolding clock_lent judged_lent
  merge_agrees = by_bool (clock_lendable b n && clock_lendable c m) (λ y. rw y) (λ f. rw f)

  pub covers_agrees : clock_number (covers_told b n c m) ≡ number (judged_lent (clock_lent n (length b) && clock_lent m (length c)) (judged_covers n m))
  unfolding clock_lent judged_lent judged_covers
  covers_agrees =
      by_bool (clock_lendable b n && clock_lendable c m) (λ y. rw y (by_bool (eqb n m) (λ z. rw z) (λ f. rw f))) (λ f. rw f)

  module _ (kind : Range) (a counter : ℕ) where
    pub after_agrees : clock_number (after_told kind b n c m a counter) ≡ number (judged_lent (clock_lent n (length b) && clock_lent m (length c)) (judged_seen (ends_at_clock kind) m a))
    unfolding clock_lent judged_lent
    after_agrees =
        by_bool (clock_lendable b n && clock_lendable c m) (λ y. rw y (seen_after_agrees c m (and_snd (clock_lendable b n) (clock_lendable c m) y) kind a counter)) (λ f. rw f)

    pub before_agrees : clock_number (before_told kind b n c m a counter) ≡ number (judged_lent (clock_lent n (length b) && clock_lent m (length c)) (judged_seen (begins_at_clock kind) n a))
    unfolding clock_lent judged_lent
    before_agrees =
        by_bool (clock_lendable b n && clock_lendable c m) (λ y. rw y (seen_before_agrees b n (and_fst (clock_lendable b n) (clock_lendable c m) y) kind a counter)) (λ f. rw f)
