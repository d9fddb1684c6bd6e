-- `Marked`: the targets of the edges met have the mark 1, the other marks are as they were, and the length stays.
use Rattle.tables.specs.Checks.{Marked}
use Rattle.tables.proofs.mark_targets.Given as goal

abbrev pub invariant-loop-i : goal.invariant-loop-i
invariant-loop-i l = Marked l.targets l.i l.initial.marks l.marks
