-- What a release comes to from C: the number, and the lent memory before and after.
-- Assumes nothing.
use Rattle.std.specs.Prelude.{◌≡◌, refl, List, ℕ, ◌<◌, Result, Ok, Err}
use Rattle.std.proofs.Common.{sym, subst, arith}
use Rattle.paper.specs.Numbers.{number, not_valid}
use Rattle.tables.specs.Tables.{Tables, changes, edge_room_of}
use Rattle.tables.specs.Valid.{Valid}
use Rattle.edges.specs.Told.{valid_bounding}
use Rattle.waiting.specs.Refused.{queue_number}
use Rattle.waiting.specs.Valid.{StoreValid}
use Rattle.waiting.specs.declared.QueueRefusal.{QueueRefusal}
use Rattle.waiting.specs.declared.QueueRefusal.TheVariants.{NotValid}
use Rattle.release.specs.Release.{Lent, ready_of, released_as, ReleasedTo}
use Rattle.lent_place.specs.Places.{told_in, Numbered}

-- the memory that a release may change: the queue's tables, the answer's tables, and the place for the count
pub record Stock : Type 0 where
  pub hashes : List ℕ
  pub numbers : List ℕ
  pub deps : List ℕ
  pub count : List ℕ
  pub thashes : List ℕ
  pub tnumbers : List ℕ
  pub tdeps : List ℕ
  pub told : List ℕ

abbrev pub stock : List ℕ → List ℕ → List ℕ → List ℕ → List ℕ → List ℕ → List ℕ → List ℕ → Stock
stock hs ns ds cs th tn td l = record { hashes = hs; numbers = ns; deps = ds; count = cs; thashes = th; tnumbers = tn; tdeps = td; told = l }

-- how many are released, told; a refusal leaves the place as it was
abbrev pub released_count_in : Result ℕ QueueRefusal → List ℕ → List ℕ
released_count_in (Ok n) l = told_in n l
released_count_in (Err e) l = l

-- what the answer leaves, against the first k of the hashes gs
abbrev pub Left : List ℕ → ℕ → Stock → Stock → Result ℕ QueueRefusal → Type 0
Left gs k m m' a = ReleasedTo a gs k m.hashes m.numbers m.deps m.count m.thashes m.tnumbers m.tdeps m'.hashes m'.numbers m'.deps m'.count m'.thashes m'.tnumbers m'.tdeps
    × (m'.told ≡ released_count_in a m.told)

-- the answer to a valid queue
abbrev pub answer_of : List ℕ → ℕ → Stock → Result ℕ QueueRefusal
answer_of gs k m = released_as (ready_of gs k m.hashes m.numbers m.deps m.count) m.thashes m.tnumbers m.tdeps

-- a release against a table of hashes of which the first k are known: 1 exactly where the queue is not valid or the table has fewer
abbrev pub Freed : List ℕ → ℕ → Stock → ℕ → Stock → Type 0
Freed gs k m r m' = Numbered queue_number (Lent gs k m.hashes m.numbers m.deps m.count) (answer_of gs k m) (Err NotValid) (Left gs k m m') r

-- a release against a graph: 1 exactly where the graph or the queue is not valid; known are the graph's changes
abbrev pub FreedBy : Stock → ℕ → Stock → Tables → Type 0
FreedBy m r m' t = Numbered queue_number (Valid t × StoreValid m.hashes m.numbers m.deps m.count) (answer_of t.hashes (changes t) m) (Err NotValid) (Left t.hashes (changes t) m m') r

-- ---- laws

-- nothing changed
left_same : (gs : List ℕ) (k : ℕ) (m m' : Stock) → m' ≡ m → Left gs k m m' (Err NotValid)
unfolding ReleasedTo
left_same gs k m m' e =
    subst (λ (x : Stock). Left gs k m x (Err NotValid)) (sym e) (record { queue = record { hashes = refl; numbers = refl; deps = refl; count = refl }; hashes = refl; numbers = refl; deps = refl }, refl)

-- a graph that is not valid
pub freed_not : (m m' : Stock) (r : ℕ) (t : Tables) → (Valid t → ⊥) → (r ≡ number not_valid) × (m' ≡ m) → FreedBy m r m' t
freed_not m m' r t bad o = record { met = λ h. absurd (bad h.0); unmet = λ _. (o.0, left_same t.hashes (changes t) m m' o.1) }

pub freed_refused : (m m' : Stock) (r : ℕ) (t : Tables) → 16384 < edge_room_of t → (r ≡ number not_valid) × (m' ≡ m) → FreedBy m r m' t
freed_refused m m' r t l o = freed_not m m' r t (λ v. let b = valid_bounding t v in omega arith) o

-- a graph that is valid has the hashes that it counts
pub freed_valid : (m m' : Stock) (r : ℕ) (t : Tables) → Valid t → Freed t.hashes (changes t) m r m' → FreedBy m r m' t
freed_valid m m' r t v c = record {
  met = λ h. c.met (record { known = v.sound.counts.changes_fit; queue = h.1 });
  unmet = λ n. c.unmet (λ l. n (v, l.queue));
}
