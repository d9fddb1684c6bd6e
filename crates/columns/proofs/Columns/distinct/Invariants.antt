use Rattle.std.proofs.Common.{◌/◌, length}
use Rattle.paper.proofs.Scans.{Passed}
use Rattle.columns.specs.Columns.{is_new}
use Rattle.columns.proofs.Columns.distinct.Given as goal

-- each so far is new
abbrev pub invariant-loop-k : goal.invariant-loop-k
invariant-loop-k l = Passed (is_new l.self.ids.now) (length l.self.ids.now / 32) l.k
