-- The missing list from the clock of the have-list, and each answer from its condition.
-- Assumes nothing.
use Rattle.std.specs.Prelude.{◌≡◌, ℕ, ◌*◌, ◌%◌, ◌≤◌, ◌<◌, length, take}
use Rattle.std.proofs.Math.Path.{ap}
use Rattle.std.proofs.Common.{arith}
use mathlib.Core.List.{List, map}
use Rattle.std.proofs.Math.Dec.{ltb}
use borrow.Author.Tests.{eq-eqb, ne_eqb}
use Rattle.paper.specs.Lists.{pick, hash_at, hashes_of}
use Rattle.paper.specs.Text.{flat}
use Rattle.paper.specs.Graph.{Graph, nodes, clock, above, missing}
use Rattle.paper.proofs.Bools.{pick_ext}
use Rattle.hash.specs.HashLaws.{hash_length}
use Rattle.tables.specs.Tables.{Tables, changes, actor_at, seq_at, graph}
use Rattle.tables.specs.Valid.{Valid}
use Rattle.answer_buffer.specs.Answers.{list_answer, filled}
use Rattle.answer_buffer.specs.Room.{room, actor_low}
use Rattle.list_clock.specs.Clocks.{clock_entries, Entries}
use Rattle.missing.specs.Missing.{above_at, Within, missing_hashes, missing_told, missing_filled, shown}
use Rattle.answer_buffer.specs.declared.Refusal.TheVariants.{Malformed}
use Rattle.std.specs.Prelude.{Ok, Err}

module _ (t : Tables) (v : Valid t) (have clock₀ clock' : List ℕ) (e : Entries t have clock₀ clock') where
  above_is : (k : ℕ) → k < changes t → above_at t.nodes clock' k ≡ above (graph t) (clock (graph t) (nodes (graph t) (hashes_of have))) k
  unfolding above_at above clock_entries
  above_is k l = ap (λ (x : ℕ). ltb x (seq_at t.nodes k)) (e.each (actor_at t.nodes k) (actor_low t v k l))

  pub missing_is : flat (map (hash_at t.hashes) (pick (above_at t.nodes clock') (changes t))) ≡ missing_hashes (graph t) have
  unfolding missing_hashes missing
  missing_is =
      ap (λ (l : List ℕ). flat (map (hash_at t.hashes) l))
      (pick_ext (above_at t.nodes clock') (above (graph t) (clock (graph t) (nodes (graph t) (hashes_of have)))) (changes t) above_is)

  pub within : 64 ≤ length clock₀ → Within t.nodes (changes t) clock'
  within l = record { inside = (room t v).nodes_in; few = (room t v).few; actors = λ k b. let a = actor_low t v k b in let r = (room t v).few_actors in let w = e.long in omega arith }

-- ---- each answer

module _ (g : Graph) (have : List ℕ) where
  pub bad_told : (length have % 32 ≡ 0 → ⊥) → (room : ℕ) → missing_told g have room ≡ Err Malformed
  unfolding missing_told
  bad_told n room = rw (ne_eqb (length have % 32) 0 n)

  pub bad_filled : (length have % 32 ≡ 0 → ⊥) → (out : List ℕ) → missing_filled g have out ≡ out
  unfolding missing_filled
  bad_filled n out = rw (ne_eqb (length have % 32) 0 n)

  module _ (e : length have % 32 ≡ 0) where
    pub empty_told : length have ≡ 0 → (room : ℕ) → missing_told g have room ≡ Ok (32 * g.size)
    unfolding missing_told
    empty_told z room = rw (eq-eqb (length have % 32) 0 e, eq-eqb (length have) 0 z)

    pub empty_filled : length have ≡ 0 → (out : List ℕ) → missing_filled g have out ≡ out
    unfolding missing_filled
    empty_filled z out = rw (eq-eqb (length have % 32) 0 e, eq-eqb (length have) 0 z)

    pub list_told : (length have ≡ 0 → ⊥) → (room : ℕ) → missing_told g have room ≡ list_answer (missing_hashes g have) room
    unfolding missing_told
    list_told n room = rw (eq-eqb (length have % 32) 0 e, ne_eqb (length have) 0 n)

    pub list_filled : (length have ≡ 0 → ⊥) → (out : List ℕ) → missing_filled g have out ≡ filled (missing_hashes g have) out
    unfolding missing_filled
    list_filled n out = rw (eq-eqb (length have % 32) 0 e, ne_eqb (length have) 0 n)

pub shown_table : (hs answer have : List ℕ) (len : ℕ) → length have ≡ 0 → shown hs answer have len ≡ take len hs
unfolding shown
shown_table hs answer have len e = rw (eq-eqb (length have) 0 e)

pub shown_answer : (hs answer have : List ℕ) (len : ℕ) → (length have ≡ 0 → ⊥) → shown hs answer have len ≡ take len answer
unfolding shown
shown_answer hs answer have len n = rw (ne_eqb (length have) 0 n)

-- the hashes of the first n nodes are 32 bytes each
pub hashes_wide : (hs : List ℕ) (n : ℕ) → 32 * n ≤ length hs → (j : ℕ) → j < n → length (hash_at hs j) ≡ 32
hashes_wide hs n l j b = hash_length hs j (omega arith)
