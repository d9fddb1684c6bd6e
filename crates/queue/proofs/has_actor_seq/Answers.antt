use Rattle.std.proofs.Common.{inl}
use Rattle.paper.specs.Queue.{has_actor_seq}
use Rattle.waiting.specs.Valid.{has_actor_seq_in}
use Rattle.waiting.specs.ValidLaws.{held}
use Rattle.queue.proofs.has_actor_seq.Goals as goal

pub returns : goal.returns
unfolding has_actor_seq_in has_actor_seq
returns c = inl (held c.check.ensures c.in_ok-check.was, rw c.has_pair.ensures)
