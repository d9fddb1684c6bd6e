-- What a release answers, and what it leaves.
use Rattle.std.specs.Prelude.{◌≡◌, ℕ, ◌/◌, ◌≤◌, List, cond, length, Result, Ok, Err}
use Rattle.paper.specs.Queue.{order, rest}
use Rattle.ready.specs.Tables.{queue_of, known_in}
use Rattle.records.specs.Records.{Filled, place_of}
use Rattle.waiting.specs.Valid.{waiting, StoreValid, is_roomy, Same}
use Rattle.waiting.specs.Taken.{TakenOut}
use Rattle.waiting.specs.declared.QueueRefusal.{QueueRefusal}
use Rattle.waiting.specs.declared.QueueRefusal.TheVariants.{ShortBuffer}

-- the positions of the ready ones in ready order, and of the rest
unfoldable pub ready_of : List ℕ → ℕ → List ℕ → List ℕ → List ℕ → List ℕ → List ℕ
ready_of gs k hs ns ds cs = order (known_in gs k) (queue_of hs ns ds (waiting cs))

unfoldable pub rest_of : List ℕ → ℕ → List ℕ → List ℕ → List ℕ → List ℕ → List ℕ
rest_of gs k hs ns ds cs = rest (known_in gs k) (queue_of hs ns ds (waiting cs))

-- what a release from a valid queue answers: all or none
unfoldable pub released_as : List ℕ → List ℕ → List ℕ → List ℕ → Result ℕ QueueRefusal
released_as l th tn td = cond (is_roomy (length th) (length tn) (length td) (length l)) (Ok (length l)) (Err ShortBuffer)

-- the ready ones stand in the answer tables, the rest in the queue
pub record GivenOut (gs : List ℕ) (k : ℕ) (hs ns ds cs th tn td hs' ns' ds' cs' th' tn' td' : List ℕ) : Type 0 where
  pub answer : Filled hs ns ds (place_of (ready_of gs k hs ns ds cs)) 0 (length (ready_of gs k hs ns ds cs)) th tn td th' tn' td'
  pub queue : TakenOut hs ns ds cs (rest_of gs k hs ns ds cs) hs' ns' ds' cs'

-- nothing changed
pub record Unchanged (hs ns ds cs th tn td hs' ns' ds' cs' th' tn' td' : List ℕ) : Type 0 where
  pub queue : Same hs ns ds cs hs' ns' ds' cs'
  pub hashes : th' ≡ th
  pub numbers : tn' ≡ tn
  pub deps : td' ≡ td

-- on 0 all ready ones are given out, on every other number nothing changed
unfoldable pub ReleasedTo : Result ℕ QueueRefusal → List ℕ → ℕ → List ℕ → List ℕ → List ℕ → List ℕ → List ℕ → List ℕ → List ℕ → List ℕ → List ℕ → List ℕ → List ℕ → List ℕ → List ℕ → List ℕ → Type 0
ReleasedTo (Ok r) gs k hs ns ds cs th tn td hs' ns' ds' cs' th' tn' td' = GivenOut gs k hs ns ds cs th tn td hs' ns' ds' cs' th' tn' td'
ReleasedTo (Err e) gs k hs ns ds cs th tn td hs' ns' ds' cs' th' tn' td' = Unchanged hs ns ds cs th tn td hs' ns' ds' cs' th' tn' td'

-- what is lent for a release is valid: the queue, and a table of hashes that has the k known ones
pub record Lent (gs : List ℕ) (k : ℕ) (hs ns ds cs : List ℕ) : Type 0 where
  pub known : k ≤ length gs / 32
  pub queue : StoreValid hs ns ds cs
