-- What the operations on lent clocks answer, the entries afterwards, and the yes or no told in a lent place: `c` the entries lent, `n` how many are in use.
-- Assumes nothing.
use Rattle.std.specs.Prelude.{◌≡◌, Option, Result, Ok, Err, ℕ, List, ◌++◌, Bool, true, false, cond, ◌&&◌, length, get_or, take, drop, eqb, ltb, leb}
use Rattle.paper.specs.Numbers.{Outcome, number, done, not_valid, no_actor, no_actor_room}
use Rattle.clock.specs.Clock.{takes, included, joined, covers_all, isolated, op_covers, inserted, removed}
use Rattle.clock.specs.declared.Range.{Range}
use Rattle.clock.specs.declared.Range.TheVariants.{Current, CurrentAt, Diff}
use Rattle.lent_place.specs.Places.{told_in}
use Rattle.clock_checked.specs.declared.ClockRefusal.{ClockRefusal}
use Rattle.clock_checked.specs.declared.ClockRefusal.TheVariants.{NotValid, NoPlace, NoRoom}

-- the paper's outcome and number of each refusal
abbrev pub refusal_outcome : ClockRefusal → Outcome
refusal_outcome NotValid = not_valid
refusal_outcome NoPlace = no_actor
refusal_outcome NoRoom = no_actor_room

abbrev pub clock_refusal_number : ClockRefusal → ℕ
clock_refusal_number e = number (refusal_outcome e)

-- the paper's outcome and number of each answer
abbrev pub clock_outcome : {A : Type 0} → Result A ClockRefusal → Outcome
clock_outcome (Ok x) = done
clock_outcome (Err e) = refusal_outcome e

abbrev pub clock_number : {A : Type 0} → Result A ClockRefusal → ℕ
clock_number a = number (clock_outcome a)

-- yes is told as 1 and no as 0 in a lent place; a refusal leaves it as it was
abbrev pub slice_yes_in : Result Bool ClockRefusal → List ℕ → List ℕ
slice_yes_in (Ok true) l = told_in 1 l
slice_yes_in (Ok false) l = told_in 0 l
slice_yes_in (Err e) l = l

-- a question that is answered a: the number r, and the place, which held l, holds l'
pub record SliceAsked (a : Result Bool ClockRefusal) (l : List ℕ) (r : ℕ) (l' : List ℕ) : Type 0 where
  pub number : r ≡ clock_number a
  pub place : l' ≡ slice_yes_in a l

-- an answer beside the entries afterwards
pub record EntriesLeft (A : Type 0) : Type 0 where
  pub answer : Result A ClockRefusal
  pub entries : List ℕ

abbrev pub entries_left : {A : Type 0} → Result A ClockRefusal → List ℕ → EntriesLeft A
entries_left r c = record { answer = r; entries = c }

-- a clock may be lent: at most 64 entries, and the count of those in use not above them
abbrev pub clock_lendable : List ℕ → ℕ → Bool
clock_lendable c n = leb (length c) 64 && leb n (length c)

-- a place among the entries in use, of a clock that may be lent
abbrev pub place_told : List ℕ → ℕ → ℕ → Result (Unit {0}) ClockRefusal
place_told c n a = cond (clock_lendable c n) (cond (leb n a) (Err NoPlace) (Ok tt)) (Err NotValid)

abbrev pub get_told : List ℕ → ℕ → ℕ → Result ℕ ClockRefusal
get_told c n a = cond (clock_lendable c n) (Ok (get_or (take n c) a 0)) (Err NotValid)

abbrev pub include_told : List ℕ → ℕ → ℕ → Option ℕ → EntriesLeft Bool
include_told c n a e = cond (clock_lendable c n) (cond (leb n a) (entries_left (Err NoPlace) c) (entries_left (Ok (takes (get_or c a 0) e)) (included c a e))) (entries_left (Err NotValid) c)

-- b's entries are lent beside, m of them in use
abbrev pub merge_told : List ℕ → ℕ → List ℕ → ℕ → EntriesLeft (Unit {0})
merge_told c n b m = cond (clock_lendable c n && clock_lendable b m) (entries_left (Ok tt) (joined (take n c) (take m b) ++ drop n c)) (entries_left (Err NotValid) c)

abbrev pub covers_told : List ℕ → ℕ → List ℕ → ℕ → Result Bool ClockRefusal
covers_told c n b m = cond (clock_lendable c n && clock_lendable b m) (cond (eqb n m) (Ok (covers_all (take n c) (take m b))) (Err NotValid)) (Err NotValid)

abbrev pub isolate_told : List ℕ → ℕ → ℕ → EntriesLeft (Unit {0})
isolate_told c n a = cond (clock_lendable c n) (cond (leb n a) (entries_left (Err NoPlace) c) (entries_left (Ok tt) (isolated c a))) (entries_left (Err NotValid) c)

abbrev pub op_told : List ℕ → ℕ → ℕ → ℕ → Result Bool ClockRefusal
op_told c n a counter = cond (clock_lendable c n) (cond (leb n a) (Err NoPlace) (Ok (op_covers c a counter))) (Err NotValid)

abbrev pub insert_told : List ℕ → ℕ → ℕ → EntriesLeft (Unit {0})
insert_told c n p = cond (clock_lendable c n) (cond (ltb n p) (entries_left (Err NoRoom) c) (cond (leb (length c) n) (entries_left (Err NoRoom) c) (entries_left (Ok tt) (inserted c n p)))) (entries_left (Err NotValid) c)

abbrev pub remove_told : List ℕ → ℕ → ℕ → EntriesLeft (Unit {0})
remove_told c n p = cond (clock_lendable c n) (cond (leb n p) (entries_left (Err NoPlace) c) (entries_left (Ok tt) (removed c n p))) (entries_left (Err NotValid) c)

-- of a range the two clocks are lent: b with n entries in use, and c with m
abbrev pub seen_after : Range → List ℕ → ℕ → ℕ → ℕ → Result Bool ClockRefusal
seen_after Current c m a counter = Ok true
seen_after CurrentAt c m a counter = op_told c m a counter
seen_after Diff c m a counter = op_told c m a counter

abbrev pub after_told : Range → List ℕ → ℕ → List ℕ → ℕ → ℕ → ℕ → Result Bool ClockRefusal
after_told kind b n c m a counter = cond (clock_lendable b n && clock_lendable c m) (seen_after kind c m a counter) (Err NotValid)

abbrev pub seen_before : Range → List ℕ → ℕ → ℕ → ℕ → Result Bool ClockRefusal
seen_before Current b n a counter = Ok false
seen_before CurrentAt b n a counter = Ok false
seen_before Diff b n a counter = op_told b n a counter

abbrev pub before_told : Range → List ℕ → ℕ → List ℕ → ℕ → ℕ → ℕ → Result Bool ClockRefusal
before_told kind b n c m a counter = cond (clock_lendable b n && clock_lendable c m) (seen_before kind b n a counter) (Err NotValid)

-- ---- the older words for an entry's outcome and number, and for a yes or no

abbrev pub outcome_got : Result ℕ ClockRefusal → Outcome
outcome_got = clock_outcome

abbrev pub number_got : Result ℕ ClockRefusal → ℕ
number_got = clock_number

abbrev pub clock_yes_no : Bool → Result Bool ClockRefusal
clock_yes_no b = Ok b
