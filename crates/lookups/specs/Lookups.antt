-- What the small questions answer, in the paper's words.
-- Assumes nothing.
use Rattle.std.specs.Prelude.{Bool, true, not, cond, List, ℕ, zero, suc, max, ltb, Ok, Err}
use Rattle.paper.specs.Lists.{pick}
use Rattle.paper.specs.Graph.{Graph, node}
use Rattle.paper.specs.Adding.{seq_for_actor}
use Rattle.tables.specs.Tables.{Tables, graph, actors}
use Rattle.answer_buffer.specs.Answers.{Place, YesNo, one_hash}
use Rattle.answer_buffer.specs.declared.Refusal.TheVariants.{Malformed, NotFound}
use Rattle.lookups.specs.declared.Which.{Which}
use Rattle.lookups.specs.declared.Which.TheVariants.{Used, Unused, All}

-- the node that has the hash
unfoldable pub looked_up : Graph → List ℕ → Place
looked_up g h = cond (one_hash h) (cond (ltb (node g h) g.size) (Ok (node g h)) (Err NotFound)) (Err Malformed)

-- the hash is known
unfoldable pub has : Graph → List ℕ → YesNo
has g h = cond (one_hash h) (Ok (ltb (node g h) g.size)) (Err Malformed)

-- the largest of f 0, f 1, .. , m of them, or 0
unfoldable pub largest : (ℕ → ℕ) → ℕ → ℕ
largest f zero = 0
largest f (suc m) = max (largest f m) (f m)

-- the actor is among those that are listed: an actor is used that has changes
abbrev pub actor_listed : Graph → Which → ℕ → Bool
actor_listed g Used a = ltb 0 (seq_for_actor g a)
actor_listed g Unused a = not (ltb 0 (seq_for_actor g a))
actor_listed g All a = true

-- those below the count, in ascending order
unfoldable pub actor_list : Tables → Which → List ℕ
actor_list t w = pick (actor_listed (graph t) w) (actors t)
