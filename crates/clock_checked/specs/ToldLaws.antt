-- Every number but 0 leaves the entries as they were; and from an answer to its number and its place.
-- Assumes nothing.
use Rattle.std.specs.Prelude.{◌≡◌, refl, Option, Result, Ok, Err, List, ◌++◌, Bool, true, false, cond, ◌&&◌, ℕ, ◌≤◌, ltb, leb, length, get_or, take, drop}
use Rattle.std.proofs.Common.{ap, ◌∙◌, leb-true}
use Rattle.paper.proofs.Bools.{and_fst, and_snd}
use Rattle.clock.specs.Clock.{takes, included, joined, isolated, inserted, removed}
use Rattle.clock_checked.specs.Told.{EntriesLeft, entries_left, clock_number, slice_yes_in, SliceAsked, clock_lendable, include_told, merge_told, isolate_told, insert_told, remove_told, clock_yes_no}
use Rattle.clock_checked.specs.declared.ClockRefusal.{ClockRefusal}
use Rattle.clock_checked.specs.declared.ClockRefusal.TheVariants.{NotValid, NoPlace, NoRoom}

abbrev pub Keeps : {A : Type 0} → EntriesLeft A → List ℕ → Type 0
Keeps t c = (clock_number t.answer ≡ 0 → ⊥) → t.entries ≡ c

-- a refusal, and then the rest; and the rest where a test holds, else a refusal
refuses : {A : Type 0} (b : Bool) (r : Result A ClockRefusal) (c : List ℕ) (t : EntriesLeft A) → Keeps t c → Keeps (cond b (entries_left r c) t) c
refuses true r c t k = λ n. refl
refuses false r c t k = k

unless : {A : Type 0} (b : Bool) (r : Result A ClockRefusal) (c : List ℕ) (t : EntriesLeft A) → Keeps t c → Keeps (cond b t (entries_left r c)) c
unless true r c t k = k
unless false r c t k = λ n. refl

fulfils : {A : Type 0} (x : A) (d c : List ℕ) → Keeps (entries_left (Ok x) d) c
fulfils x d c = λ n. absurd (n refl)

module _ (c : List ℕ) (n : ℕ) where
  pub include_keeps : (a : ℕ) (e : Option ℕ) → Keeps (include_told c n a e) c
  include_keeps a e =
      unless (clock_lendable c n) (Err NotValid) c _ (refuses (leb n a) (Err NoPlace) c _ (fulfils (takes (get_or c a 0) e) (included c a e) c))

  pub merge_keeps : (b : List ℕ) (m : ℕ) → Keeps (merge_told c n b m) c
  merge_keeps b m = unless (clock_lendable c n && clock_lendable b m) (Err NotValid) c _ (fulfils (tt {0}) (joined (take n c) (take m b) ++ drop n c) c)

  pub isolate_keeps : (a : ℕ) → Keeps (isolate_told c n a) c
  isolate_keeps a = unless (clock_lendable c n) (Err NotValid) c _ (refuses (leb n a) (Err NoPlace) c _ (fulfils (tt {0}) (isolated c a) c))

  pub insert_keeps : (p : ℕ) → Keeps (insert_told c n p) c
  insert_keeps p = unless (clock_lendable c n) (Err NotValid) c _ (refuses (ltb n p) (Err NoRoom) c _ (refuses (leb (length c) n) (Err NoRoom) c _ (fulfils (tt {0}) (inserted c n p) c)))

  pub remove_keeps : (p : ℕ) → Keeps (remove_told c n p) c
  remove_keeps p = unless (clock_lendable c n) (Err NotValid) c _ (refuses (leb n p) (Err NoPlace) c _ (fulfils (tt {0}) (removed c n p) c))

-- ---- a question of which the answer, its number and its place are known

pub asks : (a t : Result Bool ClockRefusal) (l : List ℕ) (r : ℕ) (l' : List ℕ) → a ≡ t → r ≡ clock_number a → l' ≡ slice_yes_in a l → SliceAsked t l r l'
asks a t l r l' p q s = record { number = q ∙ ap (λ (x : Result Bool ClockRefusal). clock_number x) p; place = s ∙ ap (λ (x : Result Bool ClockRefusal). slice_yes_in x l) p }

-- ---- a clock that may be lent has the entries that are in use

pub lendable_fits : (c : List ℕ) (n : ℕ) → clock_lendable c n ≡ true → n ≤ length c
lendable_fits c n e = leb-true n (length c) (and_snd (leb (length c) 64) (leb n (length c)) e)

module _ (c : List ℕ) (n : ℕ) (b : List ℕ) (m : ℕ) (e : (clock_lendable c n && clock_lendable b m) ≡ true) where
  pub first_fits : n ≤ length c
  first_fits = lendable_fits c n (and_fst (clock_lendable c n) (clock_lendable b m) e)

  pub second_fits : m ≤ length b
  second_fits = lendable_fits b m (and_snd (clock_lendable c n) (clock_lendable b m) e)

-- a yes or no has the number of what is done
yes_or_no_lem : (b : Bool) → clock_number (clock_yes_no b) ≡ 0
yes_or_no_lem b = refl
