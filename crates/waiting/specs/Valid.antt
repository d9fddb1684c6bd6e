-- A valid queue or batch: what its lent tables must be. What opening and asking for the room answer.
use Rattle.std.specs.Prelude.{◌≡◌, ◌⊎◌, ℕ, ◌+◌, ◌*◌, ◌/◌, ◌<◌, ◌≤◌, List, Bool, ◌&&◌, eqb, leb, length, get_or, set, ⊤, Result, Ok, Err}
use Rattle.paper.specs.Lists.{some_below, hash_at}
use Rattle.paper.specs.Queue.{Distinct}
use Rattle.ready.specs.Tables.{queue_of}
use Rattle.records.specs.Records.{Few}
use Rattle.waiting.specs.declared.QueueRefusal.{QueueRefusal}

-- the lent tables of a queue or a batch
pub record Store : Type 0 where
  pub hashes : List ℕ
  pub numbers : List ℕ
  pub deps : List ℕ
  pub count : List ℕ

abbrev pub store : List ℕ → List ℕ → List ℕ → List ℕ → Store
store hs ns ds cs = record { hashes = hs; numbers = ns; deps = ds; count = cs }

-- how many records there is room for
abbrev pub room : List ℕ → ℕ
room hs = length hs / 32

-- how many records wait
abbrev pub waiting : List ℕ → ℕ
waiting cs = get_or cs 0 0

-- lengths agree, and the room is at most 256
pub record StoreLaid (hs ns ds cs : List ℕ) : Type 0 where
  pub one_count : length cs ≡ 1
  pub most : room hs ≤ 256
  pub hashes_whole : length hs ≡ 32 * room hs
  pub numbers_agree : length ns ≡ 5 * room hs
  pub deps_agree : length ds ≡ 1024 * room hs

-- besides, the count is within the room
pub record Sized (hs ns ds cs : List ℕ) : Type 0 where
  pub laid : StoreLaid hs ns ds cs
  pub within : waiting cs ≤ room hs

-- valid: besides, at most 32 dependencies each, hashes distinct, (actor, sequence) distinct
pub record StoreValid (hs ns ds cs : List ℕ) : Type 0 where
  pub sized : Sized hs ns ds cs
  pub few : Few ns (waiting cs)
  pub distinct : Distinct (queue_of hs ns ds (waiting cs))

-- the same of a store
abbrev pub GoodStore : Store → Type 0
GoodStore s = StoreValid s.hashes s.numbers s.deps s.count

-- a public operation: what is lent is valid and the one holds, or it is not and the other does
abbrev pub HeldOrNot : Type 0 → Type 0 → Type 0 → Type 0
HeldOrNot held good bad = (held × good) ⊎ ((held → ⊥) × bad)

-- one of the first n records has the actor and the sequence
unfoldable pub has_actor_seq_in : List ℕ → ℕ → ℕ → ℕ → Bool
has_actor_seq_in ns n key seq = some_below (λ i. eqb (get_or ns (5 * i) 0) key && eqb (get_or ns (5 * i + 1) 0) seq) n

-- no record of the first n has the hash, or the actor and sequence, of an earlier one
pub record Apart (hs ns : List ℕ) (n : ℕ) : Type 0 where
  pub hashes : (i j : ℕ) → i < j → j < n → hash_at hs i ≡ hash_at hs j → ⊥
  pub actors : (i j : ℕ) → i < j → j < n → get_or ns (5 * i) 0 ≡ get_or ns (5 * j) 0 → get_or ns (5 * i + 1) 0 ≡ get_or ns (5 * j + 1) 0 → ⊥

-- tables of these lengths have room for r records
unfoldable pub is_roomy : ℕ → ℕ → ℕ → ℕ → Bool
is_roomy a b c r = leb (32 * r) a && (leb (5 * r) b && leb (1024 * r) c)

-- nothing changed
pub record Same (hs ns ds cs hs' ns' ds' cs' : List ℕ) : Type 0 where
  pub hashes : hs' ≡ hs
  pub numbers : ns' ≡ ns
  pub deps : ds' ≡ ds
  pub count : cs' ≡ cs

-- ---- opening

-- the count is 0, or it is as it was
unfoldable pub OpenedTo : Result ⊤ QueueRefusal → List ℕ → List ℕ → Type 0
OpenedTo (Ok a) cs cs' = cs' ≡ set cs 0 0
OpenedTo (Err e) cs cs' = cs' ≡ cs
