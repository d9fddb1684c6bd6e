-- Demand 1 of the clocks: the number is one of the paper's, and every number but that of done leaves entries, count and the told place.
-- Assumes nothing.
use Rattle.std.specs.Prelude.{◌≡◌, refl, Result, Ok, Err, Some, Bool, List, [], ◌∷◌, ℕ}
use Rattle.std.proofs.Common.{ap, ◌∙◌}
use Rattle.clock_checked.specs.Told.{EntriesLeft, clock_outcome, clock_number, slice_yes_in, SliceAsked, include_told, merge_told, isolate_told}
use Rattle.clock_checked.specs.ToldLaws.{Keeps, include_keeps, merge_keeps, isolate_keeps}
use Rattle.clock_checked.specs.declared.ClockRefusal.{ClockRefusal}
use Rattle.clock_struct.specs.Clocks.{StructDone, struct_done, plain_of, ClockIncluded, ClockMerged, ClockIsolated}
use Rattle.hub_clock_slices.specs.Face.{entry_in, SliceGave, SliceChanged}
use Rattle.demands.specs.Refusals.{NotDone, DemandOne}
use Rattle.demands.specs.RefusalLaws.{in_table, by_answer}

-- ---- what is not told

one : {l l' : List ℕ} → l' ≡ l → (l' ∷ []) ≡ (l ∷ [])
one e = rw e

yes_untold : (a : Result Bool ClockRefusal) (l : List ℕ) → NotDone (clock_number a) → slice_yes_in a l ≡ l
yes_untold (Ok b) l n = absurd (n refl)
yes_untold (Err e) l n = refl

entry_untold : (g : Result ℕ ClockRefusal) (l : List ℕ) → NotDone (clock_number g) → entry_in g l ≡ l
entry_untold (Ok x) l n = absurd (n refl)
entry_untold (Err e) l n = refl

-- ---- the struct: that it covers is asked as of slices

pub include_demand : (c : List ℕ) (n place x : ℕ) (told : List ℕ) (r : ℕ) (c' : List ℕ) (n' : ℕ) (told' : List ℕ)
    → ClockIncluded c n place x told r c' n' told' → DemandOne r (c ∷ (n ∷ []) ∷ told ∷ []) (c' ∷ (n' ∷ []) ∷ told' ∷ [])
include_demand c n place x told r c' n' told' p =
    let t = include_told c n place (Some x) in
    by_answer p.0.asked.number (in_table (clock_outcome t.answer))
    (λ z. all (p.0.entries ∙ include_keeps c n place (Some x) z) p.1 (p.0.asked.place ∙ yes_untold t.answer told z))
  where
    all : c' ≡ c → n' ≡ n → told' ≡ told → (c' ∷ (n' ∷ []) ∷ told' ∷ []) ≡ (c ∷ (n ∷ []) ∷ told ∷ [])
    all a b d = rw (a, b, d)

-- a change that says no yes or no
plain_demand : {A : Type 0} (t : EntriesLeft A) (c : List ℕ) (n r : ℕ) (c' : List ℕ) (n' : ℕ) → Keeps t c → (struct_done r 0 c' ≡ plain_of t) × (n' ≡ n) → DemandOne r (c ∷ (n ∷ []) ∷ []) (c' ∷ (n' ∷ []) ∷ [])
plain_demand t c n r c' n' k p =
    by_answer (ap (λ (d : StructDone). d.number) p.0) (in_table (clock_outcome t.answer)) (λ z. both (ap (λ (d : StructDone). d.entries) p.0 ∙ k z) p.1)
  where
    both : c' ≡ c → n' ≡ n → (c' ∷ (n' ∷ []) ∷ []) ≡ (c ∷ (n ∷ []) ∷ [])
    both a b = rw (a, b)

pub merge_demand : (c : List ℕ) (n : ℕ) (b : List ℕ) (m r : ℕ) (c' : List ℕ) (n' : ℕ) → ClockMerged c n b m r c' n' → DemandOne r (c ∷ (n ∷ []) ∷ []) (c' ∷ (n' ∷ []) ∷ [])
merge_demand c n b m r c' n' p = plain_demand (merge_told c n b m) c n r c' n' (merge_keeps c n b m) p

pub isolate_demand : (c : List ℕ) (n place r : ℕ) (c' : List ℕ) (n' : ℕ) → ClockIsolated c n place r c' n' → DemandOne r (c ∷ (n ∷ []) ∷ []) (c' ∷ (n' ∷ []) ∷ [])
isolate_demand c n place r c' n' p = plain_demand (isolate_told c n place) c n r c' n' (isolate_keeps c n place) p

-- ---- slices, and a question of any clock

pub slice_asked_demand : (a : Result Bool ClockRefusal) (l : List ℕ) (r : ℕ) (l' : List ℕ) → SliceAsked a l r l' → DemandOne r (l ∷ []) (l' ∷ [])
slice_asked_demand a l r l' p = by_answer p.number (in_table (clock_outcome a)) (λ n. one (p.place ∙ yes_untold a l n))

pub slice_gave_demand : (g : Result ℕ ClockRefusal) (l : List ℕ) (r : ℕ) (l' : List ℕ) → SliceGave g l r l' → DemandOne r (l ∷ []) (l' ∷ [])
slice_gave_demand g l r l' p = by_answer p.number (in_table (clock_outcome g)) (λ n. one (p.place ∙ entry_untold g l n))

pub slice_changed_demand : {A : Type 0} (t : EntriesLeft A) (c : List ℕ) (r : ℕ) (c' : List ℕ) → Keeps t c → SliceChanged t r c' → DemandOne r (c ∷ []) (c' ∷ [])
slice_changed_demand t c r c' k p = by_answer p.number (in_table (clock_outcome t.answer)) (λ n. one (p.entries ∙ k n))
