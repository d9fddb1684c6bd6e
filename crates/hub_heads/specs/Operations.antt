-- What each public question for the heads comes to.
-- Assumes nothing.
use Rattle.std.specs.Prelude.{List, ℕ, length}
use Rattle.heads.specs.Heads.{head_hashes, head_places}
use Rattle.tables.specs.Tables.{Tables, graph}
use Rattle.answer_buffer.specs.Answers.{list_answer, filled}
use Rattle.hub_answer.specs.Asks.{of_listed, Asks}

-- asking the tables t for the heads' hashes answers r and leaves out' and told'
abbrev pub HeadsOf : List ℕ → List ℕ → ℕ → List ℕ → List ℕ → Tables → Type 0
HeadsOf out told r out' told' t = Asks of_listed (λ t. list_answer (head_hashes (graph t)) (length out)) (λ t. filled (head_hashes (graph t)) out) out told r out' told' t

-- asking for the heads' nodes
abbrev pub HeadIndexes : List ℕ → List ℕ → ℕ → List ℕ → List ℕ → Tables → Type 0
HeadIndexes out told r out' told' t = Asks of_listed (λ t. list_answer (head_places (graph t)) (length out)) (λ t. filled (head_places (graph t)) out) out told r out' told' t
