-- Two outcomes that meet one promise for the same input are one, for each shape that the promises of the C functions have.
-- Whether what is lent is valid need not be decidable: numbers and lists of numbers that cannot be different are the same.
-- Assumes nothing.
use Rattle.std.specs.Prelude.{◌≡◌, Result, Bool, List, ℕ}
use Rattle.std.proofs.Common.{sym, ap, ◌∙◌}
use Rattle.std.proofs.Math.Decide.{ℕ_discrete}
use Rattle.paper.specs.Adding.{Change}
use Rattle.tables.specs.Tables.{Tables}
use Rattle.graph.specs.PlaceLaws.{same_tables}
use Rattle.edges.specs.Edges.{lent}
use Rattle.edges.specs.EdgesLaws.{same_edges}
use Rattle.edges.specs.Told.{Checked, Answered}
use Rattle.edges.specs.declared.Edge.{Edge}
use Rattle.hub_answer.specs.Asks.{Reply, Asks}
use Rattle.hub_add.specs.Operations.{Added}
use Rattle.lent_place.specs.Places.{Numbered}
use Rattle.clock_checked.specs.Told.{SliceAsked, EntriesLeft}
use Rattle.clock_checked.specs.declared.ClockRefusal.{ClockRefusal}
use Rattle.hub_clock_slices.specs.Face.{SliceGave, SliceChanged}
use Rattle.clock_struct.specs.Clocks.{StructDone, struct_done, StructEntered}
use Rattle.demands.specs.RefusalLaws.{stable}

-- ---- whether what is lent is valid or not

-- a statement that holds where it cannot fail
abbrev pub Firm : Type 0 → Type 0
Firm p = ((p → ⊥) → ⊥) → p

-- it holds where it does if what is lent is valid, and does if it is not
either_way : {held p : Type 0} → Firm p → (held → p) → ((held → ⊥) → p) → p
either_way firm good bad = firm (λ n. n (bad (λ h. n (good h))))

-- equations of numbers, of lists of numbers and of tables are such statements, and two of them together
pub firm_number : (a b : ℕ) → Firm (a ≡ b)
firm_number a b n = elim (ℕ_discrete a b) [
  | yes e ↦ e
  | no d ↦ absurd (n d)
]

pub firm_list : (xs ys : List ℕ) → Firm (xs ≡ ys)
firm_list = stable

pub firm_tables : (t u : Tables) → Firm (t ≡ u)
firm_tables t u n =
    same_tables (column (λ (x : Tables). x.hashes)) (column (λ (x : Tables). x.nodes)) (column (λ (x : Tables). x.targets)) (column (λ (x : Tables). x.nexts)) (column (λ (x : Tables). x.clocks))
    (column (λ (x : Tables). x.counts))
  where
    column : (f : Tables → List ℕ) → f t ≡ f u
    column f = stable (f t) (f u) (λ d. n (λ e. d (ap f e)))

pub firm_both : {p q : Type 0} → Firm p → Firm q → Firm (p × q)
firm_both a b n = (a (λ d. n (λ e. d e.0)), b (λ d. n (λ e. d e.1)))

-- two that one third settles are one
pub settled : {A : Type 0} {x y z : A} → x ≡ z → y ≡ z → x ≡ y
settled p q = p ∙ sym q

-- ---- operations that check the tables

pub checked_once : {P : Tables → Type 0} {n : Tables → ℕ} {new : Tables → Tables} {t t' t'' : Tables} {r' r'' : ℕ} → Checked P n new t r' t' → Checked P n new t r'' t'' → (r' ≡ r'') × (t' ≡ t'')
checked_once {P} {n} {new} {t} {t'} {t''} {r'} {r''} p q = (
  either_way (firm_number r' r'') (λ v. settled (p.met v).0 (q.met v).0) (λ v. settled (p.unmet v).0 (q.unmet v).0),
  either_way (firm_tables t' t'') (λ v. settled (p.met v).1 (q.met v).1) (λ v. settled (p.unmet v).1 (q.unmet v).1),
)

-- the two plain tables say all of the edge records
pub lent_once : {hs ns cs us hs' ns' cs' us' : List ℕ} (es es' : List Edge) → lent hs ns es cs us ≡ lent hs' ns' es' cs' us' → (hs ≡ hs') × (ns ≡ ns') × (es ≡ es') × (cs ≡ cs') × (us ≡ us')
lent_once es es' e = (
  ap (λ (t : Tables). t.hashes) e,
  ap (λ (t : Tables). t.nodes) e,
  same_edges es es' (ap (λ (t : Tables). t.targets) e) (ap (λ (t : Tables). t.nexts) e),
  ap (λ (t : Tables). t.clocks) e,
  ap (λ (t : Tables). t.counts) e,
)

-- ---- questions over the tables

-- a statement that follows where both are answered, and where both are refused
pub answered_once : {P Q' Q'' : Tables → Type 0} {refused' refused'' p : Type 0} {t : Tables} → Answered P Q' refused' t → Answered P Q'' refused'' t → Firm p → (Q' t → Q'' t → p) → (refused' → refused'' → p) → p
answered_once a b firm good bad = either_way firm (λ v. good (a.met v) (b.met v)) (λ v. bad (a.unmet v) (b.unmet v))

-- with an answer buffer
pub asks_once : {L : Type 0} {of : L → Reply} {answer : Tables → L} {buffer : Tables → List ℕ} {out told : List ℕ} {t : Tables} {r' : ℕ} {out' told' : List ℕ} {r'' : ℕ} {out'' told'' : List ℕ}
    → Asks of answer buffer out told r' out' told' t
    → Asks of answer buffer out told r'' out'' told'' t
    → (r' ≡ r'') × (out' ≡ out'') × (told' ≡ told'')
asks_once {L} {of} {answer} {buffer} {out} {told} {t} {r'} {out'} {told'} {r''} {out''} {told''} p q = (
  answered_once p q (firm_number r' r'') (λ a b. settled a.number b.number) (λ a b. settled a.0 b.0),
  answered_once p q (firm_list out' out'') (λ a b. settled a.filled b.filled) (λ a b. settled a.1 b.1),
  answered_once p q (firm_list told' told'') (λ a b. settled a.places b.places) (λ a b. settled a.2 b.2),
)

-- ---- adding: the tables, and the place for the unknown dependency

pub added_once : {x : Change} {l l' l'' : List ℕ} {t t' t'' : Tables} {r' r'' : ℕ} → Added x l l' t r' t' → Added x l l'' t r'' t'' → (r' ≡ r'') × (t' ≡ t'') × (l' ≡ l'')
added_once {x} {l} {l'} {l''} p q =
    let e = checked_once p.tables q.tables in
    (e.0, e.1, answered_once p.place q.place (firm_list l' l'') (λ a b. settled a b) (λ a b. settled a b))

-- ---- batch, queue and release: the number, and what follows from the memory that each answer leaves

pub numbered_once : {A : Type 0} {number : A → ℕ} {held : Type 0} {good bad : A} {left' left'' : A → Type 0} {r' r'' : ℕ}
    → Numbered number held good bad left' r'
    → Numbered number held good bad left'' r''
    → (r' ≡ r'') × ((s : Type 0) → Firm s → ((a : A) → left' a → left'' a → s) → s)
numbered_once {A} {number} {held} {good} {bad} {left'} {left''} {r'} {r''} p q = (
  either_way (firm_number r' r'') (λ v. settled (p.met v).0 (q.met v).0) (λ v. settled (p.unmet v).0 (q.unmet v).0),
  λ s firm each. either_way firm (λ v. each good (p.met v).1 (q.met v).1) (λ v. each bad (p.unmet v).1 (q.unmet v).1),
)

-- ---- clocks

-- as slices
pub slice_asked_once : {a : Result Bool ClockRefusal} {l l' l'' : List ℕ} {r' r'' : ℕ} → SliceAsked a l r' l' → SliceAsked a l r'' l'' → (r' ≡ r'') × (l' ≡ l'')
slice_asked_once p q = (settled p.number q.number, settled p.place q.place)

pub slice_gave_once : {g : Result ℕ ClockRefusal} {l l' l'' : List ℕ} {r' r'' : ℕ} → SliceGave g l r' l' → SliceGave g l r'' l'' → (r' ≡ r'') × (l' ≡ l'')
slice_gave_once p q = (settled p.number q.number, settled p.place q.place)

pub slice_changed_once : {A : Type 0} {t : EntriesLeft A} {c' c'' : List ℕ} {r' r'' : ℕ} → SliceChanged t r' c' → SliceChanged t r'' c'' → (r' ≡ r'') × (c' ≡ c'')
slice_changed_once p q = (settled p.number q.number, settled p.entries q.entries)

-- as structs
pub struct_entered_once : {t : EntriesLeft Bool} {l l' l'' c' c'' : List ℕ} {r' r'' : ℕ} → StructEntered t l r' c' l' → StructEntered t l r'' c'' l'' → (r' ≡ r'') × (c' ≡ c'') × (l' ≡ l'')
struct_entered_once p q = let e = slice_asked_once p.asked q.asked in (e.0, settled p.entries q.entries, e.1)

pub struct_done_once : {d : StructDone} {r' y' r'' y'' : ℕ} {c' c'' : List ℕ} → struct_done r' y' c' ≡ d → struct_done r'' y'' c'' ≡ d → (r' ≡ r'') × (y' ≡ y'') × (c' ≡ c'')
struct_done_once {d} {r'} {y'} {r''} {y''} {c'} {c''} p q =
    let e : struct_done r' y' c' ≡ struct_done r'' y'' c'' = settled p q in
    (ap (λ (s : StructDone). s.number) e, ap (λ (s : StructDone). s.yes) e, ap (λ (s : StructDone). s.entries) e)
