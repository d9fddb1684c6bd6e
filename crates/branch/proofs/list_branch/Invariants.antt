-- Those so far that are on the branch are put.
-- Assumes nothing.
use Rattle.branch.specs.Branch.{on_branch, PutAfter}
use Rattle.branch.proofs.list_branch.Given as goal

abbrev pub invariant-loop-i : goal.invariant-loop-i
invariant-loop-i l = PutAfter (on_branch l.numbers l.key l.from) l.i 0 l.initial.list l.r l.list
