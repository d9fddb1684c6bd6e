-- The missing list as an answer.
-- Assumes nothing.
use Rattle.std.specs.Prelude.{◌≡◌, Bool, cond, List, map, ℕ, ◌*◌, ◌≤◌, ◌<◌, eqb, ltb, length, take, get_or}
use Rattle.paper.specs.Lists.{hashes_of}
use Rattle.paper.specs.Text.{flat}
use Rattle.paper.specs.Graph.{Graph, nodes, missing}
use Rattle.tables.specs.Tables.{actor_at, seq_at}
use Rattle.answer_buffer.specs.Answers.{whole_list, list_answer, filled}
use Rattle.answer_buffer.specs.Answers.{Listed}
use Rattle.answer_buffer.specs.declared.Refusal.TheVariants.{Malformed}
use Rattle.std.specs.Prelude.{Ok, Err}

-- node k's sequence is above its actor's entry in the clock table
unfoldable pub above_at : List ℕ → List ℕ → ℕ → Bool
above_at ns clock k = ltb (get_or clock (actor_at ns k) 0) (seq_at ns k)

-- the first n nodes lie in their table, and the clock has an entry for each one's actor
pub record Within (ns : List ℕ) (n : ℕ) (clock : List ℕ) : Type 0 where
  pub inside : 6 * n ≤ length ns
  pub few : n ≤ 4096
  pub actors : (k : ℕ) → k < n → actor_at ns k < length clock

-- the hashes of the missing list, one after the other
unfoldable pub missing_hashes : Graph → List ℕ → List ℕ
missing_hashes g have = flat (map g.hash (missing g (nodes g (hashes_of have))))

-- with an empty have-list all hashes of the table, which is not written; else the list goes into the buffer
unfoldable pub missing_told : Graph → List ℕ → ℕ → Listed
missing_told g have room = cond (whole_list have) (cond (eqb (length have) 0) (Ok (32 * g.size)) (list_answer (missing_hashes g have) room)) (Err Malformed)

unfoldable pub missing_filled : Graph → List ℕ → List ℕ → List ℕ
missing_filled g have out = cond (whole_list have) (cond (eqb (length have) 0) out (filled (missing_hashes g have) out)) out

-- the part that is shown lies in the table, or in the answer
unfoldable pub shown : List ℕ → List ℕ → List ℕ → ℕ → List ℕ
shown hs answer have len = cond (eqb (length have) 0) (take len hs) (take len answer)

pub record Shown (hs answer have : List ℕ) (len : ℕ) : Type 0 where
  pub in_table : length have ≡ 0 → len ≤ length hs
  pub in_answer : (length have ≡ 0 → ⊥) → len ≤ length answer
