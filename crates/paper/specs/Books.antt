-- The books of a queue and its batches over any calls: what was taken in, what waits, and what was released and dropped. Nothing here speaks of tables.
-- Assumes nothing.
use Rattle.std.specs.Prelude.{◌≡◌, Bool, ℕ, zero, suc, ◌+◌, get_or}
use mathlib.Core.List.{List, [], ◌∷◌, ◌++◌, map, flatten}
use Rattle.paper.specs.Lists.{count}
use Rattle.paper.specs.Queue.{Waiting, Queue, of_list, order, rest, dropped, kept}

-- a queue and its batches by number, and what was taken in, released and dropped so far; a batch past the end of the list is empty
pub record Books : Type 0 where
  pub waiting : List Waiting
  pub batches : List (List Waiting)
  pub taken : List Waiting
  pub released : List Waiting
  pub gone : List Waiting

-- at the beginning
abbrev pub fresh : Books
fresh = record { waiting = []; batches = []; taken = []; released = []; gone = [] }

-- what is in batch i
unfoldable pub batch_at : ℕ → List (List Waiting) → List Waiting
batch_at i bs = get_or bs i []

-- the batches where batch i is l
unfoldable pub with_batch : ℕ → List Waiting → List (List Waiting) → List (List Waiting)
with_batch zero l [] = l ∷ []
with_batch zero l (b ∷ bs) = l ∷ bs
with_batch (suc i) l [] = [] ∷ with_batch i l []
with_batch (suc i) l (b ∷ bs) = b ∷ with_batch i l bs

-- a call that answers 0; one that answers another number is no call
pub data Call : Type 0 where
  open_queue : Call
  open_batch : ℕ → Call
  -- a change into a batch
  push : ℕ → Waiting → Call
  -- a batch into the queue
  hand_over : ℕ → Call
  -- what is ready, where these hashes are known
  release : (List ℕ → Bool) → Call
  -- an actor's changes from a sequence on, and all that hang on them
  drop_branch : ℕ → ℕ → Call

-- the changes at these positions
unfoldable pub changes_at : Queue → List ℕ → List Waiting
changes_at q l = map q.at l

-- what a release does, `q` being the queue
unfoldable pub after_release : (List ℕ → Bool) → Queue → Books → Books
after_release known q b =
    record {
      waiting = changes_at q (rest known q);
      batches = b.batches;
      taken = b.taken;
      released = b.released ++ changes_at q (order known q);
      gone = b.gone;
    }

-- what dropping a branch does
unfoldable pub after_drop : ℕ → ℕ → Queue → Books → Books
after_drop key from q b =
    record {
      waiting = changes_at q (kept q key from);
      batches = b.batches;
      taken = b.taken;
      released = b.released;
      gone = b.gone ++ changes_at q (dropped q key from);
    }

-- what a call does; opening drops what was there
unfoldable pub after : Call → Books → Books
after open_queue b = record { waiting = []; batches = b.batches; taken = b.taken; released = b.released; gone = b.gone ++ b.waiting }
after (open_batch i) b =
    record {
      waiting = b.waiting;
      batches = with_batch i [] b.batches;
      taken = b.taken;
      released = b.released;
      gone = b.gone ++ batch_at i b.batches;
    }
after (push i w) b =
    record {
      waiting = b.waiting;
      batches = with_batch i (batch_at i b.batches ++ (w ∷ [])) b.batches;
      taken = b.taken ++ (w ∷ []);
      released = b.released;
      gone = b.gone;
    }
after (hand_over i) b =
    record {
      waiting = b.waiting ++ batch_at i b.batches;
      batches = with_batch i [] b.batches;
      taken = b.taken;
      released = b.released;
      gone = b.gone;
    }
after (release known) b = after_release known (of_list b.waiting) b
after (drop_branch key from) b = after_drop key from (of_list b.waiting) b

-- what calls do, one after the other
unfoldable pub after_all : List Call → Books → Books
after_all [] b = b
after_all (c ∷ cs) b = after_all cs (after c b)

-- every change taken in is waiting, in the queue or a batch, or released, or dropped, exactly once: so many of any kind
unfoldable pub Balanced : Books → Type 0
Balanced b =
    (p : Waiting → Bool) → count p b.taken ≡ (count p b.waiting + count p (flatten b.batches)) + (count p b.released + count p b.gone)
