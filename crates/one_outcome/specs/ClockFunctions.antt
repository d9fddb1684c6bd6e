-- The C functions over clocks, and the session: two outcomes that meet a function's promise for the same input are one. Compared are the number, every entry, count and byte that
-- is lent by `&mut`, and every told place; what is lent by `&` cannot change. Each theorem is named after its function and takes the promise as its `ensures` has it.
-- Assumes nothing.
use Rattle.std.specs.Prelude.{◌≡◌, List, ℕ, length}
use Rattle.std.proofs.Common.{ap₂}
use Rattle.paper.specs.Session.{session, number_in, length_in, buffer_in}
use Rattle.lent_place.specs.Places.{told_in}
use Rattle.clock_checked.specs.Told.{SliceAsked, get_told, op_told, insert_told, remove_told, after_told, before_told}
use Rattle.hub_clock_slices.specs.Face.{SliceGave, SliceChanged, range_of}
use Rattle.clock_struct.specs.Clocks.{ClockIncluded, ClockMerged, ClockIsolated, ClockCovered}
use Rattle.clock_struct.specs.declared.Clock.{Clock}
use Rattle.one_outcome.specs.Shapes.{settled, slice_asked_once, slice_gave_once, slice_changed_once, struct_entered_once, struct_done_once}

-- ---- clocks as slices: questions

module _ (told : List ℕ) (r' : ℕ) (told' : List ℕ) (r'' : ℕ) (told'' : List ℕ) where
  pub cg_clock_get_once : (entries : List ℕ) (count place : ℕ) → SliceGave (get_told entries count place) told r' told' → SliceGave (get_told entries count place) told r'' told'' → (r' ≡ r'') × (told' ≡ told'')
  cg_clock_get_once entries count place p q = slice_gave_once p q

  pub cg_clock_op_covers_once : (entries : List ℕ) (count actor counter : ℕ) → SliceAsked (op_told entries count actor counter) told r' told' → SliceAsked (op_told entries count actor counter) told r'' told''
      → (r' ≡ r'') × (told' ≡ told'')
  cg_clock_op_covers_once entries count actor counter p q = slice_asked_once p q

  pub cg_clock_visible_after_once : (kind : ℕ) (before : List ℕ) (n : ℕ) (after : List ℕ) (m actor counter : ℕ) → SliceAsked (after_told (range_of kind) before n after m actor counter) told r' told'
      → SliceAsked (after_told (range_of kind) before n after m actor counter) told r'' told'' → (r' ≡ r'') × (told' ≡ told'')
  cg_clock_visible_after_once kind before n after m actor counter p q = slice_asked_once p q

  pub cg_clock_visible_before_once : (kind : ℕ) (before : List ℕ) (n : ℕ) (after : List ℕ) (m actor counter : ℕ) → SliceAsked (before_told (range_of kind) before n after m actor counter) told r' told'
      → SliceAsked (before_told (range_of kind) before n after m actor counter) told r'' told'' → (r' ≡ r'') × (told' ≡ told'')
  cg_clock_visible_before_once kind before n after m actor counter p q = slice_asked_once p q

-- ---- clocks as slices: changes

module _ (entries : List ℕ) (count place r' : ℕ) (entries' : List ℕ) (r'' : ℕ) (entries'' : List ℕ) where
  pub cg_clock_rewrite_with_new_actor_once : SliceChanged (insert_told entries count place) r' entries' → SliceChanged (insert_told entries count place) r'' entries'' → (r' ≡ r'') × (entries' ≡ entries'')
  cg_clock_rewrite_with_new_actor_once p q = slice_changed_once p q

  pub cg_clock_remove_actor_once : SliceChanged (remove_told entries count place) r' entries' → SliceChanged (remove_told entries count place) r'' entries'' → (r' ≡ r'') × (entries' ≡ entries'')
  cg_clock_remove_actor_once p q = slice_changed_once p q

-- ---- clocks as structs

-- entries and count say all of a clock
same_clock : (c d : Clock) → c.entries ≡ d.entries → c.count ≡ d.count → c ≡ d
same_clock c d p q = ap₂ (λ (e : List ℕ) (n : ℕ). record { entries = e; count = n }) p q

pub cg_clock_include_once : (c : Clock) (place seq : ℕ) (told : List ℕ) (r' : ℕ) (c' : Clock) (told' : List ℕ) (r'' : ℕ) (c'' : Clock) (told'' : List ℕ)
    → ClockIncluded c.entries c.count place seq told r' c'.entries c'.count told'
    → ClockIncluded c.entries c.count place seq told r'' c''.entries c''.count told''
    → (r' ≡ r'') × (c' ≡ c'') × (told' ≡ told'')
cg_clock_include_once c place seq told r' c' told' r'' c'' told'' p q = let e = struct_entered_once p.0 q.0 in (e.0, same_clock c' c'' e.1 (settled p.1 q.1), e.2)

pub cg_clock_merge_once : (a b : Clock) (r' : ℕ) (a' : Clock) (r'' : ℕ) (a'' : Clock)
    → ClockMerged a.entries a.count b.entries b.count r' a'.entries a'.count
    → ClockMerged a.entries a.count b.entries b.count r'' a''.entries a''.count
    → (r' ≡ r'') × (a' ≡ a'')
cg_clock_merge_once a b r' a' r'' a'' p q = let e = struct_done_once p.0 q.0 in (e.0, same_clock a' a'' e.2 (settled p.1 q.1))

pub cg_clock_isolate_once : (e : Clock) (place r' : ℕ) (e' : Clock) (r'' : ℕ) (e'' : Clock)
    → ClockIsolated e.entries e.count place r' e'.entries e'.count
    → ClockIsolated e.entries e.count place r'' e''.entries e''.count
    → (r' ≡ r'') × (e' ≡ e'')
cg_clock_isolate_once e place r' e' r'' e'' p q = let d = struct_done_once p.0 q.0 in (d.0, same_clock e' e'' d.2 (settled p.1 q.1))

pub cg_clock_covers_once : (a b : Clock) (told : List ℕ) (r' : ℕ) (told' : List ℕ) (r'' : ℕ) (told'' : List ℕ)
    → ClockCovered a.entries a.count b.entries b.count told r' told'
    → ClockCovered a.entries a.count b.entries b.count told r'' told''
    → (r' ≡ r'') × (told' ≡ told'')
cg_clock_covers_once a b told r' told' r'' told'' p q = slice_asked_once p q

-- ---- the session

pub cg_session_once : (input answer told : List ℕ) (r' : ℕ) (answer' told' : List ℕ) (r'' : ℕ) (answer'' told'' : List ℕ)
    → r' ≡ number_in (session input) (length answer) → told' ≡ told_in (length_in (session input) (length answer)) told → answer' ≡ buffer_in (session input) answer
    → r'' ≡ number_in (session input) (length answer) → told'' ≡ told_in (length_in (session input) (length answer)) told → answer'' ≡ buffer_in (session input) answer
    → (r' ≡ r'') × (answer' ≡ answer'') × (told' ≡ told'')
cg_session_once input answer told r' answer' told' r'' answer'' told'' p l b q m c = (settled p q, settled b c, settled l m)
