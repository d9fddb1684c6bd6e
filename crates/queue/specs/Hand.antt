-- What handing a batch over answers, and what it leaves. The batch's tables are bhs, bns, bds, bcs.
use Rattle.std.specs.Prelude.{◌≡◌, ℕ, ◌+◌, ◌*◌, List, Bool, cond, ◌||◌, ltb, get_or, set, ⊤, Result, Ok, Err}
use Rattle.paper.specs.Lists.{some_below, hash_at}
use Rattle.ready.specs.Tables.{known_in}
use Rattle.records.specs.Records.{Filled}
use Rattle.waiting.specs.Valid.{room, waiting, has_actor_seq_in, Same}
use Rattle.waiting.specs.declared.QueueRefusal.{QueueRefusal}
use Rattle.waiting.specs.declared.QueueRefusal.TheVariants.{AlreadyWaiting, NoQueueRoom}

-- record i of the batch has the hash, or the actor and sequence, of one of the first n of the queue
unfoldable pub clash_at : List ℕ → List ℕ → ℕ → List ℕ → List ℕ → ℕ → Bool
clash_at hs ns n bhs bns i = known_in hs n (hash_at bhs i) || has_actor_seq_in ns n (get_or bns (5 * i) 0) (get_or bns (5 * i + 1) 0)

-- one of the first m does
unfoldable pub any_clash : List ℕ → List ℕ → ℕ → List ℕ → List ℕ → ℕ → Bool
any_clash hs ns n bhs bns m = some_below (clash_at hs ns n bhs bns) m

-- what handing a valid batch over to a valid queue answers: any clash first, then the room
unfoldable pub handed_as : List ℕ → List ℕ → List ℕ → List ℕ → List ℕ → List ℕ → Result ⊤ QueueRefusal
handed_as hs ns cs bhs bns bcs = cond (any_clash hs ns (waiting cs) bhs bns (waiting bcs)) (Err AlreadyWaiting) (cond (ltb (room hs) (waiting cs + waiting bcs)) (Err NoQueueRoom) (Ok tt))

-- the batch's records stand after the queue's, and the batch is empty
pub record Appended (hs ns ds cs bhs bns bds bcs hs' ns' ds' cs' bcs' : List ℕ) : Type 0 where
  pub tables : Filled bhs bns bds (λ i. i) (waiting cs) (waiting bcs) hs ns ds hs' ns' ds'
  pub count : cs' ≡ set cs 0 (waiting cs + waiting bcs)
  pub emptied : bcs' ≡ set bcs 0 0

-- nothing changed
pub record NotHanded (hs ns ds cs bcs hs' ns' ds' cs' bcs' : List ℕ) : Type 0 where
  pub queue : Same hs ns ds cs hs' ns' ds' cs'
  pub batch : bcs' ≡ bcs

-- on 0 all are appended, on every other number nothing changed
unfoldable pub HandedTo : Result ⊤ QueueRefusal → List ℕ → List ℕ → List ℕ → List ℕ → List ℕ → List ℕ → List ℕ → List ℕ → List ℕ → List ℕ → List ℕ → List ℕ → List ℕ → Type 0
HandedTo (Ok a) hs ns ds cs bhs bns bds bcs hs' ns' ds' cs' bcs' = Appended hs ns ds cs bhs bns bds bcs hs' ns' ds' cs' bcs'
HandedTo (Err e) hs ns ds cs bhs bns bds bcs hs' ns' ds' cs' bcs' = NotHanded hs ns ds cs bcs hs' ns' ds' cs' bcs'
