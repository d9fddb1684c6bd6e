-- Dropping a branch over the lent tables: the list of the dropped ones, and what is left.
use Rattle.std.specs.Prelude.{◌≡◌, ℕ, ◌+◌, ◌-◌, ◌*◌, ◌≤◌, List, ◌++◌, Bool, not, ◌&&◌, eqb, leb, length, get_or, take, ⊤, Result, Ok, Err}
use Rattle.paper.specs.Lists.{mem, names, pick, tally}
use Rattle.paper.specs.Queue.{drop_from, dropped, kept}
use Rattle.paper.proofs.Dropped.{Spread}
use Rattle.paper.specs.Lists.{hash_at, hashes_from}
use Rattle.ready.specs.Tables.{queue_of, dep_count, DepsHeld}
use Rattle.waiting.specs.Valid.{waiting, Same}
use Rattle.waiting.specs.Taken.{TakenOut}
use Rattle.waiting.specs.declared.QueueRefusal.{QueueRefusal}

-- record i is the actor's, at or after the sequence
abbrev pub on_branch : List ℕ → ℕ → ℕ → ℕ → Bool
on_branch ns key from i = eqb (get_or ns (5 * i) 0) key && leb from (get_or ns (5 * i + 1) 0)

-- record i depends on record k
unfoldable pub depends_on : List ℕ → List ℕ → List ℕ → ℕ → ℕ → Bool
depends_on hs ns ds k i = names (hash_at hs k) (hashes_from ds (dep_count ns i) (32 * i))

-- and is not listed
abbrev pub new_child : List ℕ → List ℕ → List ℕ → ℕ → List ℕ → ℕ → Bool
new_child hs ns ds k l i = depends_on hs ns ds k i && not (mem i l)

-- those below i that pass the test are put after the first r₀
pub record PutAfter (p : ℕ → Bool) (i r₀ : ℕ) (list₀ : List ℕ) (r : ℕ) (list : List ℕ) : Type 0 where
  pub listed : take r list ≡ take r₀ list₀ ++ pick p i
  pub counted : r ≡ r₀ + tally p i
  pub list_length : length list ≡ length list₀

-- what listing the dropped ones asks for
pub record Droppable (hs ns ds : List ℕ) (n : ℕ) (list : List ℕ) : Type 0 where
  pub hashes_fit : 32 * n ≤ length hs
  pub held : DepsHeld ns ds n
  pub small : n ≤ 256
  pub room : n ≤ length list

-- the first c of the r listed are looked at
pub record Spreading (hs ns ds : List ℕ) (n key from c : ℕ) (list₀ : List ℕ) (r : ℕ) (list : List ℕ) : Type 0 where
  pub spread : Spread (queue_of hs ns ds n) key from c (take r list)
  pub leads : drop_from (queue_of hs ns ds n) (n - c) c (take r list) ≡ dropped (queue_of hs ns ds n) key from
  pub placed : c ≤ r
  pub fits : r ≤ length list
  pub list_length : length list ≡ length list₀

-- the first r positions are the dropped ones
pub record DropList (hs ns ds : List ℕ) (n key from : ℕ) (list₀ : List ℕ) (r : ℕ) (list : List ℕ) : Type 0 where
  pub listed : take r list ≡ dropped (queue_of hs ns ds n) key from
  pub fits : r ≤ length list
  pub list_length : length list ≡ length list₀

-- the positions of what is kept
unfoldable pub kept_of : List ℕ → List ℕ → List ℕ → List ℕ → ℕ → ℕ → List ℕ
kept_of hs ns ds cs key from = kept (queue_of hs ns ds (waiting cs)) key from

-- on 0 the kept ones stand in the queue, on 1 nothing changed
unfoldable pub RemovedTo : Result ⊤ QueueRefusal → List ℕ → List ℕ → List ℕ → List ℕ → ℕ → ℕ → List ℕ → List ℕ → List ℕ → List ℕ → Type 0
RemovedTo (Ok a) hs ns ds cs key from hs' ns' ds' cs' = TakenOut hs ns ds cs (kept_of hs ns ds cs key from) hs' ns' ds' cs'
RemovedTo (Err e) hs ns ds cs key from hs' ns' ds' cs' = Same hs ns ds cs hs' ns' ds' cs'
