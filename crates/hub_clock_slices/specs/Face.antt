-- What the operations on lent clocks come to from C: the number, the entries afterwards, and what is told in a lent place.
-- Assumes nothing.
use Rattle.std.specs.Prelude.{◌≡◌, Result, Ok, Err, List, cond, ℕ, eqb}
use Rattle.clock.specs.declared.Range.{Range}
use Rattle.clock.specs.declared.Range.TheVariants.{Current, CurrentAt, Diff}
use Rattle.clock_checked.specs.Told.{EntriesLeft, clock_number}
use Rattle.clock_checked.specs.declared.ClockRefusal.{ClockRefusal}
use Rattle.lent_place.specs.Places.{told_in}

-- the entry is told; a refusal leaves the place as it was
abbrev pub entry_in : Result ℕ ClockRefusal → List ℕ → List ℕ
entry_in (Ok x) l = told_in x l
entry_in (Err e) l = l

-- an answer g that holds an entry: the number r, and the place, which held l, holds l'
pub record SliceGave (g : Result ℕ ClockRefusal) (l : List ℕ) (r : ℕ) (l' : List ℕ) : Type 0 where
  pub number : r ≡ clock_number g
  pub place : l' ≡ entry_in g l

-- a change that comes to t: the number r, and the entries c'
pub record SliceChanged {A : Type 0} (t : EntriesLeft A) (r : ℕ) (c' : List ℕ) : Type 0 where
  pub number : r ≡ clock_number t.answer
  pub entries : c' ≡ t.entries

-- the kind of a range from its number: 0, 1, and 2 or any larger number
abbrev pub range_of : ℕ → Range
range_of k = cond (eqb k 0) Current (cond (eqb k 1) CurrentAt Diff)
