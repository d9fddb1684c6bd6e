-- Demand 3 in the words of what C lends and is answered: bytes, entries and counts, by the promises of the functions that C calls and nothing else of them.
-- Assumes nothing.
use Rattle.std.specs.Prelude.{◌≡◌, ◌⊎◌, ◌↔◌, Result, Bool, true, not, List, ◌++◌, map, ℕ, ◌*◌, ◌≤◌, ◌<◌, length, get_or, take, drop}
use Rattle.paper.specs.Lists.{pick, each_below, hashes_of}
use Rattle.paper.specs.Numbers.{number, done}
use Rattle.paper.specs.Text.{flat}
use Rattle.paper.specs.Graph.{Reach, Held, hist, nodes}
use Rattle.tables.specs.Tables.{Tables, graph, actors}
use Rattle.clock_checked.specs.Told.{entries_left, clock_number, merge_told, covers_told}
use Rattle.clock_checked.specs.declared.ClockRefusal.{ClockRefusal}
use Rattle.clock_struct.specs.Clocks.{ClockMerged, ClockCovered}
use Rattle.hub_list_clock.specs.Operations.{ClockOf}
use Rattle.hub_missing.specs.Operations.{MissingFrom}
use Rattle.hub_chained.specs.Operations.{IsChained}

-- ---- histories of lent bytes

-- change k is in the history of the bytes: a known one of the hashes that they hold, 32 bytes each, or an ancestor of one
abbrev pub in_history_of : Tables → List ℕ → ℕ → Bool
in_history_of t bytes = hist (graph t) (nodes (graph t) (hashes_of bytes))

-- the hashes of the changes outside that history, in the order of changes, one after the other
abbrev pub hashes_outside : Tables → List ℕ → List ℕ
hashes_outside t bytes = flat (map (graph t).hash (pick (λ k. not (in_history_of t bytes k)) (graph t).size))

-- the hashes of all changes, in the order of changes, one after the other
abbrev pub all_known_hashes : Tables → List ℕ
all_known_hashes t = flat (each_below (graph t).hash (graph t).size)

-- the entry is the largest sequence among the actor a's changes in the history of the bytes, or 0 where there is none
pub record LargestIn (t : Tables) (bytes : List ℕ) (a entry : ℕ) : Type 0 where
  pub none_larger : (k : ℕ) → in_history_of t bytes k ≡ true → (graph t).actor k ≡ a → (graph t).seq k ≤ entry
  pub one_of_them : (entry ≡ 0) ⊎ Held (graph t) (in_history_of t bytes) (graph t).size a entry
  pub none_there : entry ≡ 0 → (k : ℕ) → in_history_of t bytes k ≡ true → (graph t).actor k ≡ a → ⊥

-- ---- answers as C has them

-- what `cg_clock_of` leaves where it answers 0: an entry for each actor, what lay past them, and how many there are where a place was lent for that
pub record ClockLeft (t : Tables) (bytes out told out' told' : List ℕ) : Type 0 where
  pub entries : (a : ℕ) → a < actors t → LargestIn t bytes a (get_or out' a 0)
  pub fits : actors t ≤ length out
  pub past : drop (actors t) out' ≡ drop (actors t) out
  pub count : 0 < length told → get_or told' 0 0 ≡ actors t

-- a clock as C has it from an answer 0 of `cg_clock_of` for the bytes: the entries are the buffer that was lent (a struct's 64, or a slice), and the count is what was told
pub record AnsweredClock (t : Tables) (bytes entries : List ℕ) (count : ℕ) : Type 0 where
  pub out : List ℕ
  pub told : List ℕ
  pub told' : List ℕ
  pub answered : ClockOf bytes out told (number done) entries told' t
  pub lent : 0 < length told
  pub counted : count ≡ get_or told' 0 0

-- `cg_chained` answered 0 and told 1, for yes
pub record ToldChained (t : Tables) : Type 0 where
  pub told : List ℕ
  pub told' : List ℕ
  pub answered : IsChained told (number done) told' t
  pub lent : 0 < length told
  pub yes : get_or told' 0 0 ≡ 1

-- what `cg_missing` leaves where it answers 0 for a list that is not empty: so many bytes as it tells are the hashes, and what lay past them stays
pub record MissingLeft (t : Tables) (have out out' : List ℕ) (bytes : ℕ) : Type 0 where
  pub listed : take bytes out' ≡ hashes_outside t have
  pub past : drop bytes out' ≡ drop bytes out

-- and for an empty one: nothing is written, and so many bytes as it tells of the lent hashes are the hashes
pub record MissingShown (t : Tables) (out out' : List ℕ) (bytes : ℕ) : Type 0 where
  pub unwritten : out' ≡ out
  pub in_use : bytes ≡ 32 * (graph t).size
  pub shown : take bytes t.hashes ≡ all_known_hashes t

-- ---- the sentences of the demand

-- the clock of any list holds exactly each actor's largest sequence in its history
abbrev pub ClocksLargest : Tables → Type 0
ClocksLargest t = (bytes out told out' told' : List ℕ) → ClockOf bytes out told (number done) out' told' t → ClockLeft t bytes out told out' told'

-- clocks for two lists, of at most 64 entries each, as a struct has, are merged and compared with 0
abbrev pub MergingAnswers : Tables → Type 0
MergingAnswers t =
    (l m a b : List ℕ) (n k : ℕ) → AnsweredClock t l a n → AnsweredClock t m b k → length a ≤ 64 → length b ≤ 64 → clock_number (merge_told a n b k).answer ≡ number done

abbrev pub CoveringAnswers : Tables → Type 0
CoveringAnswers t =
    (l m a b : List ℕ) (n k : ℕ) → AnsweredClock t l a n → AnsweredClock t m b k → length a ≤ 64 → length b ≤ 64 → clock_number (covers_told a n b k) ≡ number done

-- `cg_clock_merge` makes of the clocks for two lists, a with n in use and b with k, the clock for the two joined, their bytes one after the other: a' with n' in use is
-- left, and has the count and the entries in use of the clock c that is answered for both
abbrev pub MergeJoins : Tables → Type 0
MergeJoins t =
    (l m a b c a' : List ℕ) (n k j n' : ℕ) → AnsweredClock t l a n → AnsweredClock t m b k → AnsweredClock t (l ++ m) c j → ClockMerged a n b k (number done) a' n' → (n' ≡ j) × (take n' a' ≡ take j c)

-- so does `try_merge` on slices
abbrev pub SlicesJoin : Tables → Type 0
SlicesJoin t =
    (l m a b c a' : List ℕ) (n k j : ℕ) (r : Result (Unit {0}) ClockRefusal) → AnsweredClock t l a n → AnsweredClock t m b k → AnsweredClock t (l ++ m) c j → clock_number r ≡ number done → entries_left r a' ≡ merge_told a n b k → (n ≡ j) × (take n a' ≡ take j c)

-- where `cg_chained` told yes, `cg_clock_covers` tells 1 exactly if every change in the second list's history is in the first list's
abbrev pub CoversContains : Tables → Type 0
CoversContains t =
    ToldChained t → (l m a b told told' : List ℕ) (n k : ℕ) → 0 < length told → AnsweredClock t l a n → AnsweredClock t m b k → ClockCovered a n b k told (number done) told'
    → (get_or told' 0 0 ≡ 1) ↔ ((i : ℕ) → in_history_of t m i ≡ true → in_history_of t l i ≡ true)

-- where `cg_chained` told yes, `cg_missing` gives the hashes outside the history of a have-list that is not empty
abbrev pub MissingOutside : Tables → Type 0
MissingOutside t =
    ToldChained t → (have out told out' told' : List ℕ) → 0 < length told → 0 < length have → MissingFrom have out told (number done) out' told' t → MissingLeft t have out out' (get_or told' 0 0)

-- of an empty have-list the lent table is the answer
abbrev pub MissingAll : Tables → Type 0
MissingAll t = (have out told out' told' : List ℕ) → 0 < length told → length have ≡ 0 → MissingFrom have out told (number done) out' told' t → MissingShown t out out' (get_or told' 0 0)

-- the third demand, of the tables that C holds
pub record DemandThree (t : Tables) : Type 0 where
  -- the history that is spoken of is the paper's
  pub history : (bytes : List ℕ) (k : ℕ) → (in_history_of t bytes k ≡ true) ↔ Reach (graph t) (nodes (graph t) (hashes_of bytes)) k
  pub largest : ClocksLargest t
  pub merges : MergingAnswers t
  pub compares : CoveringAnswers t
  pub joining : MergeJoins t
  pub joining_slices : SlicesJoin t
  pub covering : CoversContains t
  pub outside : MissingOutside t
  pub all : MissingAll t
