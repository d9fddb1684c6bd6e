-- Any calls of the C functions that change a queue and its batches, refused ones among them: what each promises of the lent memory, and nothing else of them.
-- Assumes nothing.
use Rattle.std.specs.Prelude.{◌≡◌, cond, List, [], ◌∷◌, ◌++◌, ℕ, eqb}
use Rattle.paper.specs.Numbers.{number, done}
use Rattle.paper.specs.Queue.{Waiting}
use Rattle.tables.specs.Tables.{Tables, changes}
use Rattle.ready.specs.Tables.{known_in}
use Rattle.waiting.specs.Valid.{Store}
use Rattle.paper.specs.Books.{Call, open_queue, open_batch, push, hand_over, release, drop_branch}
use Rattle.queue_books.specs.View.{records_of}
use Rattle.queue_books.specs.Stays.{waiting_change}
use Rattle.queue_books.specs.Books.{recount, fewer}
use Rattle.hub_batch.specs.Operations.{QueueOpened, BatchPushed}
use Rattle.hub_queue.specs.Operations.{HandedOver, BranchRemoved}
use Rattle.hub_release.specs.Operations.{Stock, stock, FreedBy}

-- the lent tables of a queue, and of its batches by number; each is memory of its own
pub record Stores : Type 0 where
  pub queue : Store
  pub batch : ℕ → Store

-- the tables lent for what a release gives out, and the place for how many
pub record AnswerTables : Type 0 where
  pub hashes : List ℕ
  pub numbers : List ℕ
  pub deps : List ℕ
  pub told : List ℕ

-- a call of a C function, with what it is given beside the queue and the batches
pub data QueueCall : Type 0 where
  -- cg_queue_open of the queue, and of a batch
  opening_queue : QueueCall
  opening_batch : ℕ → QueueCall
  -- cg_batch_push: to which batch; hash, actor key, sequence, max op, op count, and the dependencies' bytes
  pushing : ℕ → List ℕ → ℕ → ℕ → ℕ → ℕ → List ℕ → QueueCall
  -- cg_hand_over of a batch
  handing : ℕ → QueueCall
  -- cg_release against a graph; the answer's tables before and after
  releasing : Tables → AnswerTables → AnswerTables → QueueCall
  -- cg_remove_actor_branch_from: actor key and sequence
  dropping : ℕ → ℕ → QueueCall

-- no batch changes
abbrev pub BatchesKept : Stores → Stores → Type 0
BatchesKept s s' = (j : ℕ) → s'.batch j ≡ s.batch j

-- no batch but batch i changes
abbrev pub OthersKept : ℕ → Stores → Stores → Type 0
OthersKept i s s' = (j : ℕ) → (j ≡ i → ⊥) → s'.batch j ≡ s.batch j

-- no table but the count changes
abbrev pub TablesKept : Store → Store → Type 0
TablesKept b b' = b' ≡ recount b b'.count

-- all memory that a release may change
abbrev pub stock_of : Store → AnswerTables → Stock
stock_of q a = stock q.hashes q.numbers q.deps q.count a.hashes a.numbers a.deps a.told

-- the call on the stores s answers r and leaves s': the C function's promise, and what it is not lent stays
abbrev pub Called : QueueCall → Stores → ℕ → Stores → Type 0
Called opening_queue s r s' = QueueOpened s.queue r s'.queue.count × TablesKept s.queue s'.queue × BatchesKept s s'
Called (opening_batch i) s r s' = QueueOpened (s.batch i) r (s'.batch i).count × TablesKept (s.batch i) (s'.batch i) × (s'.queue ≡ s.queue) × OthersKept i s s'
Called (pushing i h key seq top ops needs) s r s' = BatchPushed (s.batch i) h key seq top ops needs r (s'.batch i) × (s'.queue ≡ s.queue) × OthersKept i s s'
Called (handing i) s r s' = HandedOver s.queue (s.batch i) r s'.queue (s'.batch i).count × TablesKept (s.batch i) (s'.batch i) × OthersKept i s s'
Called (releasing t a a') s r s' = FreedBy (stock_of s.queue a) r (stock_of s'.queue a') t × BatchesKept s s'
Called (dropping key from) s r s' = BranchRemoved s.queue key from r s'.queue × BatchesKept s s'

-- any calls, one after the other, from the stores s to s'
pub data Calls : Stores → Stores → Type 0 where
  stop : (s : Stores) → Calls s s
  then : (s s₁ s' : Stores) (c : QueueCall) (r : ℕ) → Called c s r s₁ → Calls s₁ s' → Calls s s'

-- ---- what is seen of them

-- the paper's call
abbrev pub call_of : QueueCall → Call
call_of opening_queue = open_queue
call_of (opening_batch i) = open_batch i
call_of (pushing i h key seq top ops needs) = push i (waiting_change h key seq top ops needs)
call_of (handing i) = hand_over i
call_of (releasing t a a') = release (known_in t.hashes (changes t))
call_of (dropping key from) = drop_branch key from

-- the change that it takes in
abbrev pub pushed_by : QueueCall → List Waiting
pushed_by opening_queue = []
pushed_by (opening_batch i) = []
pushed_by (pushing i h key seq top ops needs) = waiting_change h key seq top ops needs ∷ []
pushed_by (handing i) = []
pushed_by (releasing t a a') = []
pushed_by (dropping key from) = []

-- what then stands in the answer's tables: as many records as fewer wait
abbrev pub given_by : QueueCall → Stores → Stores → List Waiting
given_by opening_queue s s' = []
given_by (opening_batch i) s s' = []
given_by (pushing i h key seq top ops needs) s s' = []
given_by (handing i) s s' = []
given_by (releasing t a a') s s' = records_of a'.hashes a'.numbers a'.deps (fewer s.queue s'.queue)
given_by (dropping key from) s s' = []

-- it counts where the number is 0
abbrev pub if_done {ℓ} : {A : Type ℓ} → ℕ → List A → List A
if_done r l = cond (eqb r (number done)) l []

-- the paper's calls
unfoldable pub calls_of : {s s' : Stores} → Calls s s' → List Call
calls_of (stop s) = []
calls_of (then s s₁ s' c r p more) = if_done r (call_of c ∷ []) ++ calls_of more

-- what C pushed
unfoldable pub pushed_in : {s s' : Stores} → Calls s s' → List Waiting
pushed_in (stop s) = []
pushed_in (then s s₁ s' c r p more) = if_done r (pushed_by c) ++ pushed_in more

-- what C got
unfoldable pub given_in : {s s' : Stores} → Calls s s' → List Waiting
given_in (stop s) = []
given_in (then s s₁ s' c r p more) = if_done r (given_by c s s₁) ++ given_in more
