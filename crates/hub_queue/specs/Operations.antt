-- What the operations on a queue come to from C: the number, and the lent memory before and after. 1 is given exactly where a store that is lent is not valid.
-- Assumes nothing.
use Rattle.std.specs.Prelude.{◌≡◌, List, ℕ, Bool, eqb, ⊤, Result, Ok, Err}
use Rattle.paper.specs.Queue.{Queue, has_actor_seq}
use Rattle.ready.specs.Tables.{queue_of}
use Rattle.waiting.specs.Refused.{queue_number}
use Rattle.waiting.specs.Valid.{Store, GoodStore, waiting}
use Rattle.waiting.specs.declared.QueueRefusal.{QueueRefusal}
use Rattle.waiting.specs.declared.QueueRefusal.TheVariants.{NotValid}
use Rattle.queue.specs.Hand.{handed_as, HandedTo}
use Rattle.queue.specs.Asked.{yes_or_no, asked_hash, listed_as, ListedTo}
use Rattle.branch.specs.Branch.{RemovedTo}
use Rattle.lent_place.specs.Places.{Numbered}
use Rattle.hub_queue.specs.Told.{queue_yes_in, listed_count_in}

-- the paper's queue that the store holds
abbrev pub store_queue : Store → Queue
store_queue s = queue_of s.hashes s.numbers s.deps (waiting s.count)

-- handing the batch b over to the queue q answers r and leaves q' and the batch's count bcs'
abbrev pub HandedOver : Store → Store → ℕ → Store → List ℕ → Type 0
HandedOver q b r q' bcs' =
    Numbered queue_number (GoodStore q × GoodStore b) (handed_as q.hashes q.numbers q.count b.hashes b.numbers b.count) (Err NotValid)
    (λ (a : Result ⊤ QueueRefusal). HandedTo a q.hashes q.numbers q.deps q.count b.hashes b.numbers b.deps b.count q'.hashes q'.numbers q'.deps q'.count bcs') r

-- dropping the actor's changes from the sequence on, and all that hang on them, answers r and leaves q'
abbrev pub BranchRemoved : Store → ℕ → ℕ → ℕ → Store → Type 0
BranchRemoved q key from r q' =
    Numbered queue_number (GoodStore q) (Ok tt) (Err NotValid)
    (λ (a : Result ⊤ QueueRefusal). RemovedTo a q.hashes q.numbers q.deps q.count key from q'.hashes q'.numbers q'.deps q'.count) r

-- a question on the queue that is answered with `answer`: r, and told' is left
abbrev pub QueueAsked : Store → Result Bool QueueRefusal → List ℕ → ℕ → List ℕ → Type 0
QueueAsked q answer told r told' = Numbered queue_number (GoodStore q) answer (Err NotValid) (λ (a : Result Bool QueueRefusal). told' ≡ queue_yes_in a told) r

abbrev pub QueueIsEmpty : Store → List ℕ → ℕ → List ℕ → Type 0
QueueIsEmpty q = QueueAsked q (yes_or_no (eqb (waiting q.count) 0))

abbrev pub QueueHasHash : Store → List ℕ → List ℕ → ℕ → List ℕ → Type 0
QueueHasHash q h = QueueAsked q (asked_hash (store_queue q) h)

abbrev pub QueueHasActorSeq : Store → ℕ → ℕ → List ℕ → ℕ → List ℕ → Type 0
QueueHasActorSeq q key seq = QueueAsked q (yes_or_no (has_actor_seq (store_queue q) key seq))

-- giving all records out into the tables th, tn, td, and how many in told
abbrev pub QueueGiven : Store → List ℕ → List ℕ → List ℕ → List ℕ → ℕ → List ℕ → List ℕ → List ℕ → List ℕ → Type 0
QueueGiven q th tn td told r th' tn' td' told' =
    Numbered queue_number (GoodStore q) (listed_as (waiting q.count) th tn td) (Err NotValid)
    (λ (a : Result ℕ QueueRefusal). ListedTo a q.hashes q.numbers q.deps th tn td th' tn' td' × (told' ≡ listed_count_in a told)) r
