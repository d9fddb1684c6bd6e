-- The dependencies of a hash as an answer.
-- Assumes nothing.
use Rattle.std.specs.Prelude.{cond, List, [], map, ℕ, ltb}
use Rattle.paper.specs.Text.{flat}
use Rattle.paper.specs.Graph.{Graph, node}
use Rattle.answer_buffer.specs.Answers.{one_hash, list_answer, filled}
use Rattle.answer_buffer.specs.Answers.{Listed}
use Rattle.answer_buffer.specs.declared.Refusal.TheVariants.{Malformed}
use Rattle.std.specs.Prelude.{Err}

-- the hashes of node k's dependencies, in listed order with repeats
unfoldable pub node_deps : Graph → ℕ → List ℕ
node_deps g k = flat (map g.hash (g.deps k))

-- those of the hash h; an unknown hash has none
unfoldable pub hash_deps : Graph → List ℕ → List ℕ
hash_deps g h = cond (ltb (node g h) g.size) (node_deps g (node g h)) []

unfoldable pub deps_told : Graph → List ℕ → ℕ → Listed
deps_told g h room = cond (one_hash h) (list_answer (hash_deps g h) room) (Err Malformed)

unfoldable pub deps_filled : Graph → List ℕ → List ℕ → List ℕ
deps_filled g h out = cond (one_hash h) (filled (hash_deps g h) out) out
