-- What each public question for a sequence or a max op comes to.
-- Assumes nothing.
use Rattle.std.specs.Prelude.{List, ℕ}
use Rattle.paper.specs.Graph.{change_at, max_op_of}
use Rattle.paper.specs.Adding.{seq_for_actor}
use Rattle.tables.specs.Tables.{Tables, graph}
use Rattle.lookups.specs.Lookups.{largest}
use Rattle.hub_answer.specs.Asks.{gives, Tells}

-- asking the tables t for the last sequence of the actor answers r and leaves told'
abbrev pub SeqForActor : ℕ → List ℕ → ℕ → List ℕ → Tables → Type 0
SeqForActor actor told r told' t = Tells gives (λ t. seq_for_actor (graph t) actor) told r told' t

-- asking for the max op of the actor's last change
abbrev pub MaxOpForActor : ℕ → List ℕ → ℕ → List ℕ → Tables → Type 0
MaxOpForActor actor told r told' t = Tells gives (λ t. max_op_of (graph t) (change_at (graph t) actor (seq_for_actor (graph t) actor))) told r told' t

-- asking for the largest max op
abbrev pub MaxOp : List ℕ → ℕ → List ℕ → Tables → Type 0
MaxOp told r told' t = Tells gives (λ t. largest (graph t).max_op (graph t).size) told r told' t
