-- The paper's numbers of what an operation on a queue or a batch answers.
use Rattle.std.specs.Prelude.{ℕ, Result, Ok, Err}
use Rattle.paper.specs.Numbers.{number, done, not_valid, malformed, already_known, many_dependencies, short_buffer, already_waiting, no_queue_room}
use Rattle.waiting.specs.declared.QueueRefusal.{QueueRefusal}
use Rattle.waiting.specs.declared.QueueRefusal.TheVariants.{NotValid, Malformed, AlreadyKnown, ManyDependencies, ShortBuffer, AlreadyWaiting, NoQueueRoom}

-- a refusal's
abbrev pub queue_refusal_number : QueueRefusal → ℕ
queue_refusal_number NotValid = number not_valid
queue_refusal_number Malformed = number malformed
queue_refusal_number AlreadyKnown = number already_known
queue_refusal_number ManyDependencies = number many_dependencies
queue_refusal_number ShortBuffer = number short_buffer
queue_refusal_number AlreadyWaiting = number already_waiting
queue_refusal_number NoQueueRoom = number no_queue_room

-- an answer's: done, or its refusal's
abbrev pub queue_number : {A : Type 0} → Result A QueueRefusal → ℕ
queue_number (Ok a) = number done
queue_number (Err e) = queue_refusal_number e
