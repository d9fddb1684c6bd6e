-- The op clock of a list of hashes as an answer.
-- Assumes nothing.
use Rattle.std.specs.Prelude.{Bool, cond, ◌&&◌, List, ℕ, zero, suc, ◌*◌, ◌≤◌, ◌<◌, eqb, length, get_or}
use Rattle.paper.specs.Lists.{each_below, hashes_of}
use Rattle.paper.specs.Graph.{Graph, nodes, op_clock}
use Rattle.tables.specs.Tables.{Tables, graph, actors, actor_at, seq_at, max_op_at}
use Rattle.answer_buffer.specs.Answers.{whole_list, list_answer, filled}
use Rattle.answer_buffer.specs.Answers.{Listed}
use Rattle.answer_buffer.specs.declared.Refusal.TheVariants.{Malformed}
use Rattle.std.specs.Prelude.{Err}

-- the op clock of the hashes of some bytes, at an actor
unfoldable pub op_entries : Graph → List ℕ → ℕ → ℕ
op_entries g bytes = op_clock g (nodes g (hashes_of bytes))

-- an entry for each actor
abbrev pub whole_op_clock : Tables → List ℕ → List ℕ
whole_op_clock t bytes = each_below (op_entries (graph t) bytes) (actors t)

unfoldable pub op_clock_told : Tables → List ℕ → ℕ → Listed
op_clock_told t bytes room = cond (whole_list bytes) (list_answer (whole_op_clock t bytes) room) (Err Malformed)

unfoldable pub op_clock_filled : Tables → List ℕ → List ℕ → List ℕ
op_clock_filled t bytes out = cond (whole_list bytes) (filled (whole_op_clock t bytes) out) out

-- what f says of the last number below m that passes the test, or 0
unfoldable pub latest : (ℕ → Bool) → (ℕ → ℕ) → ℕ → ℕ
latest p f zero = 0
latest p f (suc m) = cond (p m) (f m) (latest p f m)

-- the max op of the last of the first n nodes that is the actor a's and has the sequence of its entry in the clock table, or 0
unfoldable pub latest_at : List ℕ → List ℕ → ℕ → ℕ → ℕ
latest_at ns clock n a = latest (λ k. eqb (actor_at ns k) a && eqb (seq_at ns k) (get_or clock a 0)) (max_op_at ns) n

-- the first n nodes lie in their table, and each one's actor has an entry in the clock table and in w entries
pub record Placed (ns : List ℕ) (n : ℕ) (clock : List ℕ) (w : ℕ) : Type 0 where
  pub inside : 6 * n ≤ length ns
  pub few : n ≤ 4096
  pub wide : w ≤ length clock
  pub actors : (k : ℕ) → k < n → actor_at ns k < w
