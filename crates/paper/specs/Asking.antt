-- Questions over a valid graph: what each comes to. `room` is how many elements the lent answer buffer has. A question that asks for a number alone (how many
-- changes or actors, an actor's last sequence or max op, the largest max op, whether the graph is chained) refuses nothing.
-- Assumes nothing.
use Rattle.std.specs.Prelude.{Bool, false, not, cond, ◌||◌, List, [], map, ℕ, ◌%◌, eqb, ltb, leb, length}
use Rattle.paper.specs.Lists.{tally, hashes_of}
use Rattle.paper.specs.Numbers.{Outcome, done, malformed, not_found, no_owner, short_buffer}
use Rattle.paper.specs.Text.{flat}
use Rattle.paper.specs.Graph.{Graph, node, nodes, missing, heads, change_at, owner, remove_ancestors}
use Rattle.paper.specs.Adding.{Hub}

-- a hash is not 32 bytes
unfoldable pub not_hash : List ℕ → Bool
not_hash h = not (eqb (length h) 32)

-- a list of hashes is no multiple of 32 bytes
unfoldable pub not_hashes : List ℕ → Bool
not_hashes bytes = not (eqb (length bytes % 32) 0)

-- an answer of n elements: 15 exactly where the buffer is shorter
unfoldable pub judged_room : ℕ → ℕ → Outcome
judged_room n room = cond (ltb room n) short_buffer done

-- the order of every question: 2 where what is asked with is misshapen, its own refusal where what is asked for is not there, then 15
unfoldable pub judged_question : Bool → Bool → Outcome → ℕ → ℕ → Outcome
judged_question misshapen nowhere refusal n room = cond misshapen malformed (cond nowhere refusal (judged_room n room))

-- ---- one hash, one node

-- the node of a hash: 2, then 13; nothing is written
unfoldable pub judged_look_up : Graph → List ℕ → Outcome
judged_look_up g h = judged_question (not_hash h) (leb g.size (node g h)) not_found 0 0

-- whether a hash is known: 2
unfoldable pub judged_known : List ℕ → Outcome
judged_known h = judged_question (not_hash h) false done 0 0

-- the hash of node k: the refusal where k is no node, then 15
unfoldable pub judged_node : Graph → ℕ → Outcome → ℕ → Outcome
judged_node g k refusal room = judged_question false (leb g.size k) refusal (length (g.hash k)) room

-- the hash of a node by its number: 13, then 15
unfoldable pub judged_index : Graph → ℕ → ℕ → Outcome
judged_index g k room = judged_node g k not_found room

-- the hash of the actor's change with the sequence: 13, then 15
unfoldable pub judged_actor_seq : Graph → ℕ → ℕ → ℕ → Outcome
judged_actor_seq g a q room = judged_node g (change_at g a q) not_found room

-- the hash of the change that owns the op: 14, then 15
unfoldable pub judged_owner : Graph → ℕ → ℕ → ℕ → Outcome
judged_owner g a c room = judged_node g (owner g a c) no_owner room

-- ---- lists

-- the actors that are listed, those below the count that pass the test: 15
unfoldable pub judged_actors : Hub → (ℕ → Bool) → ℕ → Outcome
judged_actors u listed room = judged_question false false done (tally listed u.actors) room

-- the heads' hashes: 15
unfoldable pub judged_heads : Graph → ℕ → Outcome
judged_heads g room = judged_question false false done (length (flat (heads g))) room

-- the heads' nodes: 15
unfoldable pub judged_head_nodes : Graph → ℕ → Outcome
judged_head_nodes g room = judged_question false false done (length (heads g)) room

-- whether a list is the heads': 2
unfoldable pub judged_current : List ℕ → Outcome
judged_current bytes = judged_question (not_hashes bytes) false done 0 0

-- the dependencies of a hash, none where it is unknown: 2, then 15
unfoldable pub judged_deps : Graph → List ℕ → ℕ → Outcome
judged_deps g h room = judged_question (not_hash h) false done (length (cond (ltb (node g h) g.size) (flat (map g.hash (g.deps (node g h)))) [])) room

-- the sequence clock or the op clock of a list, an entry for each actor: 2, then 15
unfoldable pub judged_clock : Hub → List ℕ → ℕ → Outcome
judged_clock u bytes room = judged_question (not_hashes bytes) false done u.actors room

-- the missing list: 2, then 15; with an empty have-list it is shown in the hash table, the buffer is not used, and 15 is not given
unfoldable pub judged_missing : Graph → List ℕ → ℕ → Outcome
judged_missing g have room =
    judged_question (not_hashes have) false done (cond (eqb (length have) 0) 0 (length (flat (map g.hash (missing g (nodes g (hashes_of have))))))) room

-- the listed hashes outside the history of other listed ones: 2, then 15
unfoldable pub judged_outside : Graph → List ℕ → List ℕ → ℕ → Outcome
judged_outside g list of room = judged_question (not_hashes list || not_hashes of) false done (length (flat (remove_ancestors g (hashes_of list) (hashes_of of)))) room
