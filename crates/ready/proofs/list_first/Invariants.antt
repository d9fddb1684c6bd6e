-- The changes so far are counted and listed.
-- Assumes nothing.
use Rattle.ready.specs.Open.{unknown_of, Begun}
use Rattle.ready.proofs.list_first.Given as goal

abbrev pub invariant-loop-i : goal.invariant-loop-i
invariant-loop-i l = Begun (unknown_of l.graph l.n l.numbers l.deps) l.i l.initial.left l.initial.order l.left l.listed l.order
