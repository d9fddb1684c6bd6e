-- Demand 1 of the operations on a batch or a queue: whatever is lent, the number is one of the paper's, and every number but that of done leaves all lent memory.
-- Assumes nothing.
use Rattle.std.specs.Prelude.{◌≡◌, refl, List, [], ◌∷◌, ℕ, Bool, ⊤, Result, Ok, Err}
use Rattle.paper.specs.Numbers.{done, not_valid, malformed, already_known, many_dependencies, short_buffer, already_waiting, no_queue_room}
use Rattle.tables.specs.Tables.{Tables, changes}
use Rattle.waiting.specs.Valid.{Store, Same, OpenedTo}
use Rattle.waiting.specs.Refused.{queue_refusal_number, queue_number}
use Rattle.waiting.specs.declared.QueueRefusal.{QueueRefusal}
use Rattle.waiting.specs.declared.QueueRefusal.TheVariants as refusal
use Rattle.batch.specs.Push.{PushedTo}
use Rattle.queue.specs.Hand.{NotHanded, HandedTo}
use Rattle.queue.specs.Asked.{ListedTo}
use Rattle.branch.specs.Branch.{RemovedTo}
use Rattle.release.specs.Release.{Unchanged, ReleasedTo}
use Rattle.lent_place.specs.Places.{Numbered}
use Rattle.hub_batch.specs.Operations.{QueueOpened, BatchPushed}
use Rattle.hub_queue.specs.Told.{queue_yes_in, listed_count_in}
use Rattle.hub_queue.specs.Operations.{HandedOver, BranchRemoved, QueueAsked, QueueGiven}
use Rattle.hub_release.specs.Operations.{Stock, Left, FreedBy}
use Rattle.demands.specs.Refusals.{InTable, NotDone, DemandOne, store_lists, stock_lists}
use Rattle.demands.specs.RefusalLaws.{in_table, by_answer, either_way}

-- where each answer's number is one of the table's, and each but those of done leaves the memory
pub numbered_demand : {A : Type 0} {number : A → ℕ} {held : Type 0} {good bad : A} {left : A → Type 0} {r : ℕ} {m m' : List (List ℕ)}
    → ((a : A) → InTable (number a)) → ((a : A) → NotDone (number a) → left a → m' ≡ m) → Numbered number held good bad left r → DemandOne r m m'
numbered_demand {A} {number} {held} {good} {bad} {left} {r} {m} {m'} numbered kept p =
    either_way
    (λ v. let s = p.met v in by_answer s.0 (numbered good) (λ n. kept good n s.1))
    (λ u. let s = p.unmet u in by_answer s.0 (numbered bad) (λ n. kept bad n s.1))

-- every answer's number is one of the table's
refusal_in : (e : QueueRefusal) → InTable (queue_refusal_number e)
refusal_in refusal.NotValid = in_table not_valid
refusal_in refusal.Malformed = in_table malformed
refusal_in refusal.AlreadyKnown = in_table already_known
refusal_in refusal.ManyDependencies = in_table many_dependencies
refusal_in refusal.ShortBuffer = in_table short_buffer
refusal_in refusal.AlreadyWaiting = in_table already_waiting
refusal_in refusal.NoQueueRoom = in_table no_queue_room

answer_in : {A : Type 0} (a : Result A QueueRefusal) → InTable (queue_number a)
answer_in (Ok x) = in_table done
answer_in (Err e) = refusal_in e

-- ---- opening

module _ (s : Store) (cs' : List ℕ) where
  opened_kept : (a : Result ⊤ QueueRefusal) → NotDone (queue_number a) → OpenedTo a s.count cs' → (cs' ∷ []) ≡ (s.count ∷ [])
  unfolding OpenedTo
  opened_kept (Ok x) n l = absurd (n refl)
  opened_kept (Err e) n l = rw l

  pub queue_open_demand : (r : ℕ) → QueueOpened s r cs' → DemandOne r (s.count ∷ []) (cs' ∷ [])
  queue_open_demand r p = numbered_demand answer_in opened_kept p

-- ---- pushing, handing over and dropping

same_store : (s s' : Store) → Same s.hashes s.numbers s.deps s.count s'.hashes s'.numbers s'.deps s'.count → store_lists s' ≡ store_lists s
same_store s s' e = rw (e.hashes, e.numbers, e.deps, e.count)

module _ (b : Store) (h : List ℕ) (key seq top ops : ℕ) (needs : List ℕ) (b' : Store) where
  pushed_kept : (a : Result ⊤ QueueRefusal) → NotDone (queue_number a)
      → PushedTo a b.hashes b.numbers b.deps b.count h key seq top ops needs b'.hashes b'.numbers b'.deps b'.count → store_lists b' ≡ store_lists b
  unfolding PushedTo
  pushed_kept (Ok x) n l = absurd (n refl)
  pushed_kept (Err e) n l = same_store b b' l

  pub push_demand : (r : ℕ) → BatchPushed b h key seq top ops needs r b' → DemandOne r (store_lists b) (store_lists b')
  push_demand r p = numbered_demand answer_in pushed_kept p

module _ (q b q' : Store) (bcs' : List ℕ) where
  not_handed : NotHanded q.hashes q.numbers q.deps q.count b.count q'.hashes q'.numbers q'.deps q'.count bcs' → (bcs' ∷ store_lists q') ≡ (b.count ∷ store_lists q)
  not_handed e = rw (e.batch, same_store q q' e.queue)

  handed_kept : (a : Result ⊤ QueueRefusal) → NotDone (queue_number a)
      → HandedTo a q.hashes q.numbers q.deps q.count b.hashes b.numbers b.deps b.count q'.hashes q'.numbers q'.deps q'.count bcs'
      → (bcs' ∷ store_lists q') ≡ (b.count ∷ store_lists q)
  unfolding HandedTo
  handed_kept (Ok x) n l = absurd (n refl)
  handed_kept (Err e) n l = not_handed l

  pub hand_over_demand : (r : ℕ) → HandedOver q b r q' bcs' → DemandOne r (b.count ∷ store_lists q) (bcs' ∷ store_lists q')
  hand_over_demand r p = numbered_demand answer_in handed_kept p

module _ (q : Store) (key from : ℕ) (q' : Store) where
  removed_kept : (a : Result ⊤ QueueRefusal) → NotDone (queue_number a) → RemovedTo a q.hashes q.numbers q.deps q.count key from q'.hashes q'.numbers q'.deps q'.count → store_lists q' ≡ store_lists q
  unfolding RemovedTo
  removed_kept (Ok x) n l = absurd (n refl)
  removed_kept (Err e) n l = same_store q q' l

  pub branch_demand : (r : ℕ) → BranchRemoved q key from r q' → DemandOne r (store_lists q) (store_lists q')
  branch_demand r p = numbered_demand answer_in removed_kept p

-- ---- questions

module _ (q : Store) (told told' : List ℕ) where
  asked_kept : (a : Result Bool QueueRefusal) → NotDone (queue_number a) → told' ≡ queue_yes_in a told → (told' ∷ []) ≡ (told ∷ [])
  asked_kept (Ok x) n l = absurd (n refl)
  asked_kept (Err e) n l = rw l

  pub queue_question_demand : (answer : Result Bool QueueRefusal) (r : ℕ) → QueueAsked q answer told r told' → DemandOne r (told ∷ []) (told' ∷ [])
  queue_question_demand answer r p = numbered_demand answer_in asked_kept p

  module _ (th tn td th' tn' td' : List ℕ) where
    unlisted : ((th' ≡ th) × (tn' ≡ tn) × (td' ≡ td)) × (told' ≡ told) → (th' ∷ tn' ∷ td' ∷ told' ∷ []) ≡ (th ∷ tn ∷ td ∷ told ∷ [])
    unlisted e = rw (e.0.0, e.0.1, e.0.2, e.1)

    listed_kept : (a : Result ℕ QueueRefusal) → NotDone (queue_number a) → ListedTo a q.hashes q.numbers q.deps th tn td th' tn' td' × (told' ≡ listed_count_in a told)
        → (th' ∷ tn' ∷ td' ∷ told' ∷ []) ≡ (th ∷ tn ∷ td ∷ told ∷ [])
    unfolding ListedTo
    listed_kept (Ok m) n l = absurd (n refl)
    listed_kept (Err e) n l = unlisted l

    pub iter_demand : (r : ℕ) → QueueGiven q th tn td told r th' tn' td' told' → DemandOne r (th ∷ tn ∷ td ∷ told ∷ []) (th' ∷ tn' ∷ td' ∷ told' ∷ [])
    iter_demand r p = numbered_demand answer_in listed_kept p

-- ---- releasing

module _ (m m' : Stock) where
  unreleased : Unchanged m.hashes m.numbers m.deps m.count m.thashes m.tnumbers m.tdeps m'.hashes m'.numbers m'.deps m'.count m'.thashes m'.tnumbers m'.tdeps × (m'.told ≡ m.told)
      → stock_lists m' ≡ stock_lists m
  unreleased e = rw (e.0.queue.hashes, e.0.queue.numbers, e.0.queue.deps, e.0.queue.count, e.0.hashes, e.0.numbers, e.0.deps, e.1)

  released_kept : (gs : List ℕ) (k : ℕ) (a : Result ℕ QueueRefusal) → NotDone (queue_number a) → Left gs k m m' a → stock_lists m' ≡ stock_lists m
  unfolding ReleasedTo
  released_kept gs k (Ok i) n l = absurd (n refl)
  released_kept gs k (Err e) n l = unreleased l

  pub release_demand : (r : ℕ) (t : Tables) → FreedBy m r m' t → DemandOne r (stock_lists m) (stock_lists m')
  release_demand r t p = numbered_demand answer_in (released_kept t.hashes (changes t)) p
