-- The new children so far are put.
-- Assumes nothing.
use Rattle.std.proofs.Common.{take}
use Rattle.branch.specs.Branch.{new_child, PutAfter}
use Rattle.branch.proofs.list_children.Given as goal

abbrev pub invariant-loop-i : goal.invariant-loop-i
invariant-loop-i l = PutAfter (new_child l.hashes l.numbers l.deps l.k (take l.r l.initial.list)) l.i l.r l.initial.list l.q l.list
