-- The known ones among the first i hashes are marked, and no other node is.
use Rattle.tables.specs.Tables.{graph}
use Rattle.tables.specs.Lent.{lists}
use Rattle.list_clock.specs.Known.{KnownMarks}
use Rattle.list_clock.proofs.mark_known.Given as goal

abbrev pub invariant-loop-i : goal.invariant-loop-i
invariant-loop-i l = KnownMarks (graph (lists l.tables)) l.list l.i l.initial.marks l.marks
