use Rattle.std.proofs.Common.{◌/◌, length}
use Rattle.paper.proofs.Scans.{Passed}
use Rattle.columns.specs.Columns.{head_told}
use Rattle.columns.proofs.Columns.heads_told.Given as goal

-- each so far is told
abbrev pub invariant-loop-k : goal.invariant-loop-k
invariant-loop-k l = Passed (head_told l.self.ids.now l.used l.self.heads.now) (length l.self.ids.now / 32) l.k
