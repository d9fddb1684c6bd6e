-- From an answer to what the functions on the struct promise.
-- Assumes nothing.
use Rattle.std.specs.Prelude.{◌≡◌, Result, Bool, List, ℕ}
use Rattle.std.proofs.Common.{ap}
use Rattle.clock_checked.specs.declared.ClockRefusal.{ClockRefusal}
use Rattle.clock_checked.specs.Told.{EntriesLeft, entries_left, clock_number, slice_yes_in}
use Rattle.clock_checked.specs.ToldLaws.{asks}
use Rattle.clock_struct.specs.Clocks.{struct_done, plain_of, StructEntered}

pub enters : (a : Result Bool ClockRefusal) (e : List ℕ) (t : EntriesLeft Bool) (n : ℕ) → entries_left a e ≡ t → n ≡ clock_number a → (l l' : List ℕ) → l' ≡ slice_yes_in a l → StructEntered t l n e l'
enters a e t n p q l l' s = record { asked = asks a t.answer l n l' (ap (λ (x : EntriesLeft Bool). x.answer) p) q s; entries = ap (λ (x : EntriesLeft Bool). x.entries) p }

pub done_plain : {A : Type 0} (a : Result A ClockRefusal) (e : List ℕ) (t : EntriesLeft A) (n : ℕ) → entries_left a e ≡ t → n ≡ clock_number a → struct_done n 0 e ≡ plain_of t
done_plain a e t n p q = rw (← p, ← q)
