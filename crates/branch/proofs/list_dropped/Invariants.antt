-- The first c listed are looked at, and the listing leads to the dropped ones; the measure is how many of the waiting are left.
-- Assumes nothing.
use Rattle.std.proofs.Common.{◌-◌}
use Rattle.branch.specs.Branch.{Spreading}
use Rattle.branch.proofs.list_dropped.Given as goal

abbrev pub invariant-loop-c : goal.invariant-loop-c
invariant-loop-c l = Spreading l.hashes l.numbers l.deps l.n l.key l.from l.c l.initial.list l.r l.list

abbrev pub decreases-loop-c : goal.decreases-loop-c
decreases-loop-c l = l.n - l.c
