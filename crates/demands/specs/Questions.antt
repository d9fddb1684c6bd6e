-- The public questions, each by the answer that its promise names: those that answer into a lent buffer, and those whose whole answer is one number that is told.
-- Assumes nothing.
use Rattle.std.specs.Prelude.{Bool, List, ℕ, length}
use Rattle.paper.specs.Graph.{change_at, owner, max_op_of}
use Rattle.paper.specs.Adding.{seq_for_actor}
use Rattle.tables.specs.Tables.{Tables, graph, actors}
use Rattle.answer_buffer.specs.Answers.{list_answer, filled, node_hash, node_hash_filled}
use Rattle.lookups.specs.Lookups.{actor_list, looked_up, has, largest}
use Rattle.lookups.specs.declared.Which.{Which}
use Rattle.heads.specs.Heads.{head_hashes, head_places}
use Rattle.current_heads.specs.Current.{current_told}
use Rattle.chained.specs.Chained.{chained}
use Rattle.list_clock.specs.Clocks.{clock_told, clock_filled}
use Rattle.op_clock.specs.OpClocks.{op_clock_told, op_clock_filled}
use Rattle.missing.specs.Missing.{missing_told, missing_filled}
use Rattle.deps.specs.Deps.{deps_told, deps_filled}
use Rattle.ancestors.specs.Ancestors.{removed_told, removed_filled}
use Rattle.hub_answer.specs.Asks.{Reply, gives, of_listed, of_place, of_yes_no, of_bool, Asks, Tells}
use Rattle.answer_buffer.specs.Answers.{Listed, Place, YesNo}
use Rattle.answer_buffer.specs.declared.Refusal.TheVariants.{NotFound, NoOwner}
use Rattle.std.specs.Prelude.{Err}

pub data Question : Type 0 where
  clock_of : List ℕ → Question
  clock_at : List ℕ → Question
  missing_from : List ℕ → Question
  owner_of : ℕ → ℕ → Question
  heads : Question
  head_indexes : Question
  index_to_hash : ℕ → Question
  hash_for_actor_seq : ℕ → ℕ → Question
  deps_for_hash : List ℕ → Question
  actor_ids : Which → Question
  -- the listed hashes outside the history of the second list
  remove_ancestors : List ℕ → List ℕ → Question

-- the answer for a buffer of `room` elements
abbrev pub answer_on : Question → ℕ → Tables → Listed
answer_on (clock_of l) room t = clock_told t l room
answer_on (clock_at l) room t = op_clock_told t l room
answer_on (missing_from have) room t = missing_told (graph t) have room
answer_on (owner_of a c) room t = node_hash (graph t) (owner (graph t) a c) (Err NoOwner) room
answer_on heads room t = list_answer (head_hashes (graph t)) room
answer_on head_indexes room t = list_answer (head_places (graph t)) room
answer_on (index_to_hash k) room t = node_hash (graph t) k (Err NotFound) room
answer_on (hash_for_actor_seq a q) room t = node_hash (graph t) (change_at (graph t) a q) (Err NotFound) room
answer_on (deps_for_hash h) room t = deps_told (graph t) h room
answer_on (actor_ids w) room t = list_answer (actor_list t w) room
answer_on (remove_ancestors l hs) room t = removed_told (graph t) l hs room

-- the buffer afterwards
abbrev pub buffer_on : Question → List ℕ → Tables → List ℕ
buffer_on (clock_of l) out t = clock_filled t l out
buffer_on (clock_at l) out t = op_clock_filled t l out
buffer_on (missing_from have) out t = missing_filled (graph t) have out
buffer_on (owner_of a c) out t = node_hash_filled (graph t) (owner (graph t) a c) out
buffer_on heads out t = filled (head_hashes (graph t)) out
buffer_on head_indexes out t = filled (head_places (graph t)) out
buffer_on (index_to_hash k) out t = node_hash_filled (graph t) k out
buffer_on (hash_for_actor_seq a q) out t = node_hash_filled (graph t) (change_at (graph t) a q) out
buffer_on (deps_for_hash h) out t = deps_filled (graph t) h out
buffer_on (actor_ids w) out t = filled (actor_list t w) out
buffer_on (remove_ancestors l hs) out t = removed_filled (graph t) l hs out

-- the promise: the question answers r, and leaves the buffer out' and the places told'
abbrev pub Answers : Question → List ℕ → List ℕ → ℕ → List ℕ → List ℕ → Tables → Type 0
Answers q out told r out' told' t = Asks of_listed (answer_on q (length out)) (buffer_on q out) out told r out' told' t

-- ---- the questions without a buffer

pub data NumberQuestion : Type 0 where
  hash_to_index : List ℕ → NumberQuestion
  has_change : List ℕ → NumberQuestion
  seq_of_actor : ℕ → NumberQuestion
  max_op_of_actor : ℕ → NumberQuestion
  max_op_of_all : NumberQuestion
  how_many : NumberQuestion
  how_many_actors : NumberQuestion
  are_heads : List ℕ → NumberQuestion
  chained_asked : NumberQuestion

-- the kind of its answer
abbrev pub AnswerOf : NumberQuestion → Type 0
AnswerOf (hash_to_index h) = Place
AnswerOf (has_change h) = YesNo
AnswerOf (seq_of_actor a) = ℕ
AnswerOf (max_op_of_actor a) = ℕ
AnswerOf max_op_of_all = ℕ
AnswerOf how_many = ℕ
AnswerOf how_many_actors = ℕ
AnswerOf (are_heads l) = YesNo
AnswerOf chained_asked = Bool

-- as a reply
abbrev pub reply_of : (q : NumberQuestion) → AnswerOf q → Reply
reply_of (hash_to_index h) = of_place
reply_of (has_change h) = of_yes_no
reply_of (seq_of_actor a) = gives
reply_of (max_op_of_actor a) = gives
reply_of max_op_of_all = gives
reply_of how_many = gives
reply_of how_many_actors = gives
reply_of (are_heads l) = of_yes_no
reply_of chained_asked = of_bool

-- the answer of the tables
abbrev pub number_asked : (q : NumberQuestion) → Tables → AnswerOf q
number_asked (hash_to_index h) t = looked_up (graph t) h
number_asked (has_change h) t = has (graph t) h
number_asked (seq_of_actor a) t = seq_for_actor (graph t) a
number_asked (max_op_of_actor a) t = max_op_of (graph t) (change_at (graph t) a (seq_for_actor (graph t) a))
number_asked max_op_of_all t = largest (graph t).max_op (graph t).size
number_asked how_many t = (graph t).size
number_asked how_many_actors t = actors t
number_asked (are_heads l) t = current_told (graph t) l
number_asked chained_asked t = chained (graph t)

-- the promise: the question answers r, and leaves the places told'
abbrev pub AnswersNumber : NumberQuestion → List ℕ → ℕ → List ℕ → Tables → Type 0
AnswersNumber q told r told' t = Tells (reply_of q) (number_asked q) told r told' t
