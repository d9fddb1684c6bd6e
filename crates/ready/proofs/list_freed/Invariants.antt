-- What is hit is taken from the changes so far.
-- Assumes nothing.
use Rattle.ready.specs.Open.{hits_of, Passed}
use Rattle.ready.proofs.list_freed.Given as goal

abbrev pub invariant-loop-i : goal.invariant-loop-i
invariant-loop-i l = Passed (hits_of l.hashes l.numbers l.deps l.k) l.i l.initial.left l.from l.initial.order l.left l.listed l.order
