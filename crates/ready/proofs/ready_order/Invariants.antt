-- The first c listed changes are looked at, and the listing leads to the ready order; the measure is how many of the waiting are left.
-- Assumes nothing.
use Rattle.std.proofs.Common.{◌-◌}
use Rattle.ready.specs.Ordering.{Turned}
use Rattle.ready.proofs.ready_order.Given as goal

abbrev pub invariant-loop-c : goal.invariant-loop-c
invariant-loop-c l = Turned l.graph l.n l.hashes l.numbers l.deps l.count l.c l.initial.left l.initial.order l.left l.listed l.order

abbrev pub decreases-loop-c : goal.decreases-loop-c
decreases-loop-c l = l.count - l.c
