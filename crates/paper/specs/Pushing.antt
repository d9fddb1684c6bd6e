-- Queue and batch: what pushing, handing over and giving out come to. `m` is the room for waiting changes. What a queue or a batch holds afterwards says
-- `after` of Books.
-- Assumes nothing.
use Rattle.std.specs.Prelude.{Bool, false, cond, ◌||◌, List, ℕ, ◌+◌, ltb, leb, length}
use Rattle.paper.specs.Lists.{some_below, hashes_of}
use Rattle.paper.specs.Numbers.{Outcome, done, malformed, already_known, many_dependencies, already_waiting, no_queue_room}
use Rattle.paper.specs.Adding.{Change}
use Rattle.paper.specs.Queue.{Waiting, Queue, has_hash, has_actor_seq, order}
use Rattle.paper.specs.Asking.{not_hash, not_hashes, judged_room, judged_question}

-- a change that is pushed waits so; its actor is the caller's key
unfoldable pub waiting_as : Change → Waiting
waiting_as x = record { hash = x.hash; key = x.actor; seq = x.seq; max_op = x.max_op; ops = x.ops; deps = hashes_of x.deps }

-- pushing a change to the valid batch b: 2, 3 for a hash in the batch, 16 for an actor and sequence in it, 8, 17, each where none before is given
unfoldable pub judged_push : ℕ → Queue → Change → Outcome
judged_push m b x =
    cond (not_hash x.hash || not_hashes x.deps) malformed
    (cond (has_hash b x.hash) already_known
    (cond (has_actor_seq b x.actor x.seq) already_waiting
    (cond (ltb 32 (length (hashes_of x.deps))) many_dependencies
    (cond (leb m b.size) no_queue_room done))))

-- a change of the batch b has the hash, or the actor and sequence, of one that waits in the queue q
unfoldable pub clash_between : Queue → Queue → Bool
clash_between q b = some_below (λ i. has_hash q (b.at i).hash || has_actor_seq q (b.at i).key (b.at i).seq) b.size

-- handing the valid batch b over to the valid queue q: 16 for any clash, then 17 where more would wait than there is room
unfoldable pub judged_hand_over : ℕ → Queue → Queue → Outcome
judged_hand_over m q b = cond (clash_between q b) already_waiting (cond (ltb m (q.size + b.size)) no_queue_room done)

-- releasing what is ready into an answer with room for r changes: 15 where they do not all fit
unfoldable pub judged_release : (List ℕ → Bool) → Queue → ℕ → Outcome
judged_release known q r = judged_room (length (order known q)) r

-- giving all out, in queue order: 15 in the same way
unfoldable pub judged_iter : Queue → ℕ → Outcome
judged_iter q r = judged_room q.size r

-- whether a hash waits: 2
unfoldable pub judged_waits : List ℕ → Outcome
judged_waits h = judged_question (not_hash h) false done 0 0
