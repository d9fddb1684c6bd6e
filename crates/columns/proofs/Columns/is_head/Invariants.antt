use Rattle.std.proofs.Common.{◌/◌, length}
use Rattle.paper.proofs.Scans.{Missed}
use Rattle.columns.specs.Columns.{column_head_is}
use Rattle.columns.proofs.Columns.is_head.Given as goal

-- none so far is the head
abbrev pub invariant-loop-k : goal.invariant-loop-k
invariant-loop-k l = Missed (column_head_is l.self.ids.now l.used l.hash) (length l.self.ids.now / 32) l.k
