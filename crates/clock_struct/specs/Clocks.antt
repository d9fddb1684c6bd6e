-- What the operations on a clock struct come to: the paper's number, the entries afterwards, and the yes or no that is told in a lent place.
-- Assumes nothing.
use Rattle.std.specs.Prelude.{◌≡◌, Some, ℕ, Bool, List}
use Rattle.clock_checked.specs.Told.{EntriesLeft, clock_number, SliceAsked, include_told, merge_told, isolate_told, covers_told}

pub record StructDone : Type 0 where
  pub number : ℕ
  pub yes : ℕ
  pub entries : List ℕ

abbrev pub struct_done : ℕ → ℕ → List ℕ → StructDone
struct_done r y c = record { number = r; yes = y; entries = c }

-- merge and isolate have no yes or no: 0 stands there
abbrev pub plain_of : {A : Type 0} → EntriesLeft A → StructDone
plain_of t = struct_done (clock_number t.answer) 0 t.entries

abbrev pub merge_done : List ℕ → ℕ → List ℕ → ℕ → StructDone
merge_done c n b m = plain_of (merge_told c n b m)

abbrev pub isolate_done : List ℕ → ℕ → ℕ → StructDone
isolate_done c n a = plain_of (isolate_told c n a)

-- include says yes or no too, and comes to t: the number r, the place, which held l and holds l', and the entries c'
pub record StructEntered (t : EntriesLeft Bool) (l : List ℕ) (r : ℕ) (c' l' : List ℕ) : Type 0 where
  pub asked : SliceAsked t.answer l r l'
  pub entries : c' ≡ t.entries

-- ---- what the functions on the struct promise: of entries c, n of them in use, which become c' and n'

-- the sequence x entered at a place answers r; the lent place for the yes or no held l and holds l'
abbrev pub ClockIncluded : List ℕ → ℕ → ℕ → ℕ → List ℕ → ℕ → List ℕ → ℕ → List ℕ → Type 0
ClockIncluded c n place x l r c' n' l' = StructEntered (include_told c n place (Some x)) l r c' l' × (n' ≡ n)

-- joined with the entries b, m of them in use
abbrev pub ClockMerged : List ℕ → ℕ → List ℕ → ℕ → ℕ → List ℕ → ℕ → Type 0
ClockMerged c n b m r c' n' = (struct_done r 0 c' ≡ merge_done c n b m) × (n' ≡ n)

-- the entry at a place raised to the largest number
abbrev pub ClockIsolated : List ℕ → ℕ → ℕ → ℕ → List ℕ → ℕ → Type 0
ClockIsolated c n place r c' n' = (struct_done r 0 c' ≡ isolate_done c n place) × (n' ≡ n)

-- whether the entries b, m of them in use, are covered; the lent place for the yes or no held l and holds l'
abbrev pub ClockCovered : List ℕ → ℕ → List ℕ → ℕ → List ℕ → ℕ → List ℕ → Type 0
ClockCovered c n b m l r l' = SliceAsked (covers_told c n b m) l r l'
