-- Samples of the order of the numbers: judgements in which a later condition holds too, beside the outcome that is given.
-- Assumes nothing.
use Rattle.std.specs.Prelude.{true, false, List, [], ◌∷◌, ℕ, replicate}
use Rattle.paper.specs.Numbers.{Outcome, done, not_valid, malformed, already_known, no_actor, many_dependencies, actor_has_changes, no_actor_room, not_found, no_owner, short_buffer, already_waiting, no_queue_room}
use Rattle.paper.specs.Queue.{Queue, of_list}
use Rattle.paper.specs.Samples.{H, change, worked, wait}
use Rattle.paper.specs.Actors.{judged_open, judged_insert, judged_remove}
use Rattle.paper.specs.Asking.{judged_question, judged_look_up, judged_index, judged_actor_seq, judged_owner, judged_heads, judged_clock, judged_missing}
use Rattle.paper.specs.Clocks.{judged_place, judged_covers, judged_entry}
use Rattle.paper.specs.Pushing.{judged_push, judged_hand_over, judged_iter}

pub record OrderSample : Type 0 where
  pub judged : Outcome
  pub given : Outcome

abbrev pub first_given : Outcome → Outcome → OrderSample
first_given j o = record { judged = j; given = o }

-- a queue of two, H1 and H2, each of its own actor
abbrev pub two_waiting : Queue
two_waiting = of_list (wait 1 [] ∷ wait 2 [] ∷ [])

-- 33 dependencies
abbrev pub many : List ℕ
many = replicate 1056 17

abbrev pub order_samples : List OrderSample
order_samples =
    -- actors: 12; 12 for a place above the count, and without room; 5, then 11
    first_given (judged_open 2 3) no_actor_room
    ∷ first_given (judged_open 2 2) done
    ∷ first_given (judged_insert 3 worked 3) no_actor_room
    ∷ first_given (judged_insert 2 worked 2) no_actor_room
    ∷ first_given (judged_insert 3 worked 2) done
    ∷ first_given (judged_remove worked 2) no_actor
    ∷ first_given (judged_remove worked 1) actor_has_changes
    -- questions: 2, then 13 or 14, then 15
    ∷ first_given (judged_question true true not_found 32 31) malformed
    ∷ first_given (judged_question false true not_found 32 31) not_found
    ∷ first_given (judged_look_up worked.graph (17 ∷ [])) malformed
    ∷ first_given (judged_look_up worked.graph (H 9)) not_found
    ∷ first_given (judged_look_up worked.graph (H 3)) done
    ∷ first_given (judged_index worked.graph 3 0) not_found
    ∷ first_given (judged_index worked.graph 2 31) short_buffer
    ∷ first_given (judged_actor_seq worked.graph 0 0 0) not_found
    ∷ first_given (judged_owner worked.graph 0 6 0) no_owner
    ∷ first_given (judged_owner worked.graph 0 4 31) short_buffer
    ∷ first_given (judged_owner worked.graph 0 4 32) done
    ∷ first_given (judged_heads worked.graph 63) short_buffer
    ∷ first_given (judged_clock worked (17 ∷ []) 0) malformed
    ∷ first_given (judged_clock worked [] 1) short_buffer
    -- an empty have-list gives no 15, one of an unknown hash does
    ∷ first_given (judged_missing worked.graph [] 0) done
    ∷ first_given (judged_missing worked.graph (H 9) 95) short_buffer
    -- clocks: 5, 1, 12
    ∷ first_given (judged_place 2 2) no_actor
    ∷ first_given (judged_covers 1 2) not_valid
    ∷ first_given (judged_entry 2 1 2) no_actor_room
    ∷ first_given (judged_entry 2 2 0) no_actor_room
    -- push to a full batch: 2, 3, 16, 8, 17
    ∷ first_given (judged_push 2 two_waiting (change 1 1 1 1 1 (17 ∷ []))) malformed
    ∷ first_given (judged_push 2 two_waiting (change 1 1 1 1 1 many)) already_known
    ∷ first_given (judged_push 2 two_waiting (change 3 1 1 1 1 many)) already_waiting
    ∷ first_given (judged_push 2 two_waiting (change 3 3 1 1 1 many)) many_dependencies
    ∷ first_given (judged_push 2 two_waiting (change 3 3 1 1 1 [])) no_queue_room
    ∷ first_given (judged_push 3 two_waiting (change 3 3 1 1 1 [])) done
    -- handing over: 16, then 17
    ∷ first_given (judged_hand_over 2 two_waiting (of_list (wait 3 [] ∷ wait 2 [] ∷ []))) already_waiting
    ∷ first_given (judged_hand_over 2 two_waiting (of_list (wait 3 [] ∷ []))) no_queue_room
    ∷ first_given (judged_hand_over 3 two_waiting (of_list (wait 3 [] ∷ []))) done
    ∷ first_given (judged_iter two_waiting 1) short_buffer
    ∷ []
