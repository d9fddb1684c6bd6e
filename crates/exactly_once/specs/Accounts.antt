-- What is said of any calls: taken in is what C pushed, released is what C got in its tables, waiting is what the lent tables hold. What a queue or a batch held when it
-- was opened again counts as dropped.
-- Assumes nothing.
use Rattle.std.specs.Prelude.{◌≡◌, ◌⊎◌, List, [], ◌++◌, ℕ}
use Rattle.paper.specs.Queue.{Waiting}
use Rattle.waiting.specs.Valid.{Store, GoodStore}
use Rattle.paper.specs.Books.{Books, batch_at, Balanced}
use Rattle.queue_books.specs.Books.{Holding}
use Rattle.exactly_once.specs.Operations.{Stores, Calls, pushed_in, given_in}

-- what the books say of a store: it is valid and exactly l waits in it, or it is not valid, and l is nothing
abbrev pub InBooks : Store → List Waiting → Type 0
InBooks s l = Holding s l ⊎ ((GoodStore s → ⊥) × (l ≡ []))

-- the books say what the queue and every batch hold
pub record Agree (s : Stores) (k : Books) : Type 0 where
  pub queue : InBooks s.queue k.waiting
  pub batches : (i : ℕ) → InBooks (s.batch i) (batch_at i k.batches)

-- and all are valid
pub record AllHolding (s : Stores) (k : Books) : Type 0 where
  pub queue : Holding s.queue k.waiting
  pub batches : (i : ℕ) → Holding (s.batch i) (batch_at i k.batches)

-- what was valid is valid
pub record StillValid (s s' : Stores) : Type 0 where
  pub queue : GoodStore s.queue → GoodStore s'.queue
  pub batches : (i : ℕ) → GoodStore (s.batch i) → GoodStore (s'.batch i)

-- the calls cs lead from the books k to k': what waits, was taken in and released stands in memory, and each change taken in is accounted for, exactly once
pub record Accounted {s s' : Stores} (cs : Calls s s') (k k' : Books) : Type 0 where
  pub agree : Agree s' k'
  pub still : StillValid s s'
  pub taken : k'.taken ≡ k.taken ++ pushed_in cs
  pub released : k'.released ≡ k.released ++ given_in cs
  pub balanced : Balanced k'
