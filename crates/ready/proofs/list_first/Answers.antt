use Rattle.std.proofs.Common.{arith}
use Rattle.ready.specs.Open.{unknown_of}
use Rattle.ready.specs.PassLaws.{begun_start, begun_next}
use Rattle.ready.proofs.list_first.Goals as goal

pub loop-i-init : goal.loop-i-init
loop-i-init c = begun_start _ _ _

pub loop-i-preserved : goal.loop-i-preserved
unfolding unknown_of
loop-i-preserved c = begun_next c.loop-i.invariant (omega (arith, c.loop-i.invariant.left_length)) c.count_unknown-due.ensures c.put_if-listed.ensures.value.0 c.put_if-listed.ensures.value.1 c.put_if-listed.ensures.order_after
