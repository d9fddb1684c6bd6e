-- The invariant, `Spreading`: what the marks come to by looking at the nodes below k is as at the start.
use Rattle.tables.specs.Lent.{lists}
use Rattle.walk.specs.Whole.{Spreading}
use Rattle.walk.proofs.spread.Given as goal

abbrev pub invariant-loop-k : goal.invariant-loop-k
invariant-loop-k l = Spreading (lists l.tables) l.initial.marks l.marks l.k
