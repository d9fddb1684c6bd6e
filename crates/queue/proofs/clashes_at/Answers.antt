use Rattle.hash.specs.HashLaws.{hash_part}
use Rattle.queue.specs.Hand.{clash_at}
use Rattle.queue.proofs.clashes_at.Goals as goal
use Rattle.std.proofs.Common.{sym}

pub returns-then-is_known : goal.returns-then-is_known
unfolding clash_at
returns-then-is_known c = rw (sym (rw hash_part at c.is_known.ensures), c.if-is_known.true)

pub returns-else-is_known : goal.returns-else-is_known
unfolding clash_at
returns-else-is_known c = rw (sym (rw hash_part at c.is_known.ensures), c.if-is_known.false) c.has_pair.ensures
