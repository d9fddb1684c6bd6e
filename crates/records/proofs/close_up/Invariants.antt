-- The records so far are gone through and those not listed stand at the front.
-- Assumes nothing.
use Rattle.records.specs.Records.{Closed}
use Rattle.records.proofs.close_up.Given as goal

abbrev pub invariant-loop-i : goal.invariant-loop-i
invariant-loop-i l = Closed l.initial.hashes l.initial.numbers l.initial.deps l.n l.order l.r l.i l.hashes l.numbers l.deps l.w
