-- The clock of a list of hashes as an answer.
-- Assumes nothing.
use Rattle.std.specs.Prelude.{◌≡◌, cond, List, ℕ, ◌<◌, length, get_or}
use Rattle.paper.specs.Lists.{each_below, hashes_of}
use Rattle.paper.specs.Graph.{Graph, nodes, clock}
use Rattle.tables.specs.Tables.{Tables, graph, actors}
use Rattle.answer_buffer.specs.Answers.{whole_list, list_answer, filled}
use Rattle.answer_buffer.specs.Answers.{Listed}
use Rattle.answer_buffer.specs.declared.Refusal.TheVariants.{Malformed}
use Rattle.std.specs.Prelude.{Err}

-- the sequence clock of the hashes of some bytes, at an actor
unfoldable pub clock_entries : Graph → List ℕ → ℕ → ℕ
clock_entries g bytes = clock g (nodes g (hashes_of bytes))

-- an entry for each actor
abbrev pub whole_clock : Tables → List ℕ → List ℕ
whole_clock t bytes = each_below (clock_entries (graph t) bytes) (actors t)

unfoldable pub clock_told : Tables → List ℕ → ℕ → Listed
clock_told t bytes room = cond (whole_list bytes) (list_answer (whole_clock t bytes) room) (Err Malformed)

unfoldable pub clock_filled : Tables → List ℕ → List ℕ → List ℕ
clock_filled t bytes out = cond (whole_list bytes) (filled (whole_clock t bytes) out) out

-- the first entries of the clock table are the clock of the listed hashes
pub record Entries (t : Tables) (bytes clock₀ clock : List ℕ) : Type 0 where
  pub long : length clock ≡ length clock₀
  pub each : (a : ℕ) → a < actors t → get_or clock a 0 ≡ clock_entries (graph t) bytes a
