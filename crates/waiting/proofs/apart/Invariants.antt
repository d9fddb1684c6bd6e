-- The records so far are apart.
-- Assumes nothing.
use Rattle.waiting.specs.Valid.{Apart}
use Rattle.waiting.proofs.apart.Given as goal

abbrev pub invariant-loop-i : goal.invariant-loop-i
invariant-loop-i l = Apart l.hashes l.numbers l.i
