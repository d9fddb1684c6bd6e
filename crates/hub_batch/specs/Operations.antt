-- What opening a queue or a batch, and pushing to a batch, come to from C: the number, and the lent tables before and after.
-- Assumes nothing.
use Rattle.std.specs.Prelude.{List, ℕ, ⊤, Result, Ok, Err}
use Rattle.waiting.specs.Refused.{queue_number}
use Rattle.waiting.specs.Valid.{Store, StoreLaid, GoodStore, OpenedTo}
use Rattle.waiting.specs.declared.QueueRefusal.{QueueRefusal}
use Rattle.waiting.specs.declared.QueueRefusal.TheVariants.{NotValid}
use Rattle.batch.specs.Push.{push_judged, PushedTo}
use Rattle.lent_place.specs.Places.{Numbered}

-- opening the store s answers r and leaves the count cs': 1 exactly where the lengths disagree
abbrev pub QueueOpened : Store → ℕ → List ℕ → Type 0
QueueOpened s r cs' = Numbered queue_number (StoreLaid s.hashes s.numbers s.deps s.count) (Ok tt) (Err NotValid) (λ (a : Result ⊤ QueueRefusal). OpenedTo a s.count cs') r

-- pushing the change to the batch b answers r and leaves b': 1 exactly where the batch is not valid
abbrev pub BatchPushed : Store → List ℕ → ℕ → ℕ → ℕ → ℕ → List ℕ → ℕ → Store → Type 0
BatchPushed b h key seq top ops needs r b' =
    Numbered queue_number (GoodStore b) (push_judged b.hashes b.numbers b.count h key seq needs) (Err NotValid)
    (λ (a : Result ⊤ QueueRefusal). PushedTo a b.hashes b.numbers b.deps b.count h key seq top ops needs b'.hashes b'.numbers b'.deps b'.count) r
