-- The test asks each index below the clock's length whether the two entries are equal.
use Rattle.std.proofs.Common.{rules, ◌≡◌, ℕ, ◌+◌, ◌<◌, List, Bool, true, false, length, get_or, MatchBool, refl, ◌∙◌, arith}
use Rattle.std.specs.Prelude.{◌↔◌}
use Rattle.std.specs.List.{AllWithin, HoldsAt, range_with_len}
use Rattle.std.proofs.lemmas.Iterator.{cases_from_all, YieldsList-from_range}
use Rattle.std.proofs.lemmas.List.FromFn.{length-range_with_len, get_or-range_with_len}
use Rattle.list_laws.specs.Iff.{yes, no}
use Rattle.cache.specs.Cache.{RowIs}
use Rattle.cache.proofs.row_is.Goals as goal

-- place k of the numbers below n is k
at_range : (n k : ℕ) → k < n → get_or (range_with_len 0 n) k 0 ≡ k
at_range n k l = get_or-range_with_len 0 n k 0 l ∙ (omega arith)

module _ (rows clock : List ℕ) (from : ℕ) where
  abbrev Same : ℕ → Type 0
  Same a = get_or rows (from + a) 0 ≡ get_or clock a 0

  row_says : (r : Bool) → MatchBool r (AllWithin Same (range_with_len 0 (length clock)) 0 (length (range_with_len 0 (length clock)))) ((k : ℕ) × (k < length (range_with_len 0 (length clock))) × HoldsAt (λ a. Same a → ⊥) (range_with_len 0 (length clock)) k) → (r ≡ true) ↔ RowIs rows from clock
  unfolding RowIs
  row_says true h = yes (λ a l. rw (at_range (length clock) a l) at (h a 0 (omega arith) (rw (length-range_with_len 0 (length clock)) l)))
  row_says false h =
      let l : h.0 < length clock = rw (length-range_with_len 0 (length clock)) at h.1 in
      no (λ f. (rw (at_range (length clock) h.0 l) at (h.2 0)) (f h.0 l))

pub returns : goal.returns
returns c =
    let n = length c.args.clock.now in
    row_says c.args.rows.now c.args.clock.now c.args.from _ (cases_from_all _ _ _ (Same c.args.rows.now c.args.clock.now c.args.from) (λ a. Same c.args.rows.now c.args.clock.now c.args.from a → ⊥) c.all.ensures.ran (YieldsList-from_range 0 n n refl (omega arith)) (λ k q h. search rules) (λ k q h. search rules))
