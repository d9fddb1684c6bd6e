-- The invariant, `Walking`: what the clock has, with what the marked nodes below k bring, is as at the start, and so is what will be left over.
use Rattle.tables.specs.Lent.{lists}
use Rattle.walk.specs.WalkLaws.{Walking}
use Rattle.walk.proofs.walk.Given as goal

abbrev pub invariant-loop-k : goal.invariant-loop-k
invariant-loop-k l = Walking (lists l.tables) l.top l.limit l.initial.clock l.initial.marks l.clock l.marks l.k l.visited
