-- What each public question for the hash of a change comes to.
-- Assumes nothing.
use Rattle.std.specs.Prelude.{Err, List, ℕ, length}
use Rattle.paper.specs.Graph.{change_at}
use Rattle.tables.specs.Tables.{Tables, graph}
use Rattle.answer_buffer.specs.Answers.{node_hash, node_hash_filled}
use Rattle.answer_buffer.specs.declared.Refusal.TheVariants.{NotFound}
use Rattle.hub_answer.specs.Asks.{of_listed, Asks}

-- asking the tables t for the hash of the node answers r and leaves out' and told'
abbrev pub IndexToHash : ℕ → List ℕ → List ℕ → ℕ → List ℕ → List ℕ → Tables → Type 0
IndexToHash index out told r out' told' t = Asks of_listed (λ t. node_hash (graph t) index (Err NotFound) (length out)) (λ t. node_hash_filled (graph t) index out) out told r out' told' t

-- asking for the hash of the actor's change with the sequence
abbrev pub HashForActorSeq : ℕ → ℕ → List ℕ → List ℕ → ℕ → List ℕ → List ℕ → Tables → Type 0
HashForActorSeq actor seq out told r out' told' t = Asks of_listed (λ t. node_hash (graph t) (change_at (graph t) actor seq) (Err NotFound) (length out)) (λ t. node_hash_filled (graph t) (change_at (graph t) actor seq) out) out told r out' told' t
