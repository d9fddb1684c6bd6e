-- What a push answers, and what it leaves.
use Rattle.std.specs.Prelude.{◌≡◌, ℕ, ◌+◌, ◌*◌, ◌/◌, ◌%◌, ◌<◌, ◌≤◌, List, [], ◌∷◌, Bool, not, cond, ◌||◌, eqb, ltb, leb, length, set, ⊤, Result, Ok, Err}
use Rattle.list_laws.specs.Over.{over}
use Rattle.ready.specs.Tables.{known_in}
use Rattle.records.specs.Records.{Rooms}
use Rattle.waiting.specs.Valid.{room, waiting, has_actor_seq_in, Same}
use Rattle.waiting.specs.declared.QueueRefusal.{QueueRefusal}
use Rattle.waiting.specs.declared.QueueRefusal.TheVariants.{Malformed, AlreadyKnown, ManyDependencies, AlreadyWaiting, NoQueueRoom}

-- the hash is not of 32 bytes, or the list no multiple of 32
unfoldable pub is_malformed : List ℕ → List ℕ → Bool
is_malformed h needs = not (eqb (length h) 32) || not (eqb (length needs % 32) 0)

-- what a push to a valid batch answers: each in its turn, where none before it is given
unfoldable pub push_judged : List ℕ → List ℕ → List ℕ → List ℕ → ℕ → ℕ → List ℕ → Result ⊤ QueueRefusal
push_judged hs ns cs h key seq needs =
    cond (is_malformed h needs) (Err Malformed)
    (cond (known_in hs (waiting cs) h) (Err AlreadyKnown)
    (cond (has_actor_seq_in ns (waiting cs) key seq) (Err AlreadyWaiting)
    (cond (ltb 32 (length needs / 32)) (Err ManyDependencies)
    (cond (leb (room hs) (waiting cs)) (Err NoQueueRoom) (Ok tt)))))

-- what judging asks for
pub record Counted (hs ns cs : List ℕ) : Type 0 where
  pub one_count : length cs ≡ 1
  pub in_hashes : 32 * waiting cs ≤ length hs
  pub in_numbers : 5 * waiting cs ≤ length ns

-- what placing asks for
pub record Placeable (hs ns ds cs h needs : List ℕ) : Type 0 where
  pub one_count : length cs ≡ 1
  pub rooms : Rooms hs ns ds (waiting cs + 1)
  pub small : waiting cs < 256
  pub hash_whole : length h ≡ 32
  pub few : length needs ≤ 1024

-- the change stands after the others
pub record StandsLast (hs ns ds cs h : List ℕ) (key seq top ops : ℕ) (needs hs' ns' ds' cs' : List ℕ) : Type 0 where
  pub hashes : hs' ≡ over hs (32 * waiting cs) h
  pub numbers : ns' ≡ over ns (5 * waiting cs) (key ∷ seq ∷ top ∷ ops ∷ (length needs / 32) ∷ [])
  pub deps : ds' ≡ over ds (1024 * waiting cs) needs
  pub count : cs' ≡ set cs 0 (waiting cs + 1)

-- on 0 the change stands after the others, on every other number nothing changed
unfoldable pub PushedTo : Result ⊤ QueueRefusal → List ℕ → List ℕ → List ℕ → List ℕ → List ℕ → ℕ → ℕ → ℕ → ℕ → List ℕ → List ℕ → List ℕ → List ℕ → List ℕ → Type 0
PushedTo (Ok a) hs ns ds cs h key seq top ops needs hs' ns' ds' cs' = StandsLast hs ns ds cs h key seq top ops needs hs' ns' ds' cs'
PushedTo (Err e) hs ns ds cs h key seq top ops needs hs' ns' ds' cs' = Same hs ns ds cs hs' ns' ds' cs'
