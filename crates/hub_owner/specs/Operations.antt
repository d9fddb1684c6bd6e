-- What the public question for the owner of an op comes to.
-- Assumes nothing.
use Rattle.std.specs.Prelude.{Err, List, ℕ, length}
use Rattle.paper.specs.Graph.{owner}
use Rattle.tables.specs.Tables.{Tables, graph}
use Rattle.answer_buffer.specs.Answers.{node_hash, node_hash_filled}
use Rattle.answer_buffer.specs.declared.Refusal.TheVariants.{NoOwner}
use Rattle.hub_answer.specs.Asks.{of_listed, Asks}

-- asking the tables t for the owner of the op answers r and leaves out' and told'
abbrev pub OwnerOf : ℕ → ℕ → List ℕ → List ℕ → ℕ → List ℕ → List ℕ → Tables → Type 0
OwnerOf actor counter out told r out' told' t = Asks of_listed (λ t. node_hash (graph t) (owner (graph t) actor counter) (Err NoOwner) (length out)) (λ t. node_hash_filled (graph t) (owner (graph t) actor counter) out) out told r out' told' t
