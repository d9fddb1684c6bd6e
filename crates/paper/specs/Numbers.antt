-- The numbers that an operation may answer, with their meanings.
-- Assumes nothing.
use Rattle.std.specs.Prelude.{ℕ}

pub data Outcome : Type 0 where
  -- done
  done : Outcome
  -- lent tables or queue not valid, or two clocks of different lengths given to covers
  not_valid : Outcome
  -- a hash is not 32 bytes, or a list of hashes no multiple of 32
  malformed : Outcome
  -- the hash is known already; the change counts as accepted
  already_known : Outcome
  -- a dependency is unknown; the first one in the order listed is named
  unknown_dependency : Outcome
  -- no such actor
  no_actor : Outcome
  -- the sequence is not the actor's count plus 1
  wrong_sequence : Outcome
  -- the max op is above 4,294,967,295, or the op count above the max op
  wrong_ops : Outcome
  -- more than 32 dependencies
  many_dependencies : Outcome
  -- no room for the node or nodes
  no_node_room : Outcome
  -- edges used and dependencies exceed the edge room
  no_edge_room : Outcome
  -- the actor that is to be removed has changes
  actor_has_changes : Outcome
  -- the actor place is above the count, or there are more actors than room
  no_actor_room : Outcome
  -- no such hash, node, or actor and sequence
  not_found : Outcome
  -- no change owns the op, as for an unknown actor
  no_owner : Outcome
  -- the answer buffer is shorter than the answer
  short_buffer : Outcome
  -- the actor and sequence, or the hash, waits already
  already_waiting : Outcome
  -- more would wait than there is room
  no_queue_room : Outcome
  -- the load columns disagree
  columns_disagree : Outcome

abbrev pub number : Outcome → ℕ
number done = 0
number not_valid = 1
number malformed = 2
number already_known = 3
number unknown_dependency = 4
number no_actor = 5
number wrong_sequence = 6
number wrong_ops = 7
number many_dependencies = 8
number no_node_room = 9
number no_edge_room = 10
number actor_has_changes = 11
number no_actor_room = 12
number not_found = 13
number no_owner = 14
number short_buffer = 15
number already_waiting = 16
number no_queue_room = 17
number columns_disagree = 18
