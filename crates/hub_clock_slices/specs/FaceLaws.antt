-- From an answer to its number and its place.
-- Assumes nothing.
use Rattle.std.specs.Prelude.{◌≡◌, Result, List, ℕ}
use Rattle.std.proofs.Common.{ap, ◌∙◌}
use Rattle.clock_checked.specs.Told.{EntriesLeft, entries_left, clock_number}
use Rattle.clock_checked.specs.declared.ClockRefusal.{ClockRefusal}
use Rattle.hub_clock_slices.specs.Face.{entry_in, SliceGave, SliceChanged}

pub gives : (g t : Result ℕ ClockRefusal) (l : List ℕ) (r : ℕ) (l' : List ℕ) → g ≡ t → r ≡ clock_number g → l' ≡ entry_in g l → SliceGave t l r l'
gives g t l r l' p q s = record { number = q ∙ ap (λ (x : Result ℕ ClockRefusal). clock_number x) p; place = s ∙ ap (λ (x : Result ℕ ClockRefusal). entry_in x l) p }

pub changes : {A : Type 0} (a : Result A ClockRefusal) (t : EntriesLeft A) (r : ℕ) (c' : List ℕ) → entries_left a c' ≡ t → r ≡ clock_number a → SliceChanged t r c'
changes {A} a t r c' p q =
    record { number = q ∙ ap (λ (x : EntriesLeft A). clock_number x.answer) p; entries = ap (λ (x : EntriesLeft A). x.entries) p }
