use Rattle.std.proofs.Common.{◌/◌, length}
use Rattle.paper.proofs.Scans.{Passed}
use Rattle.columns.specs.Columns.{stated_right}
use Rattle.columns.proofs.Columns.stated_right.Given as goal

-- each so far is right
abbrev pub invariant-loop-i : goal.invariant-loop-i
invariant-loop-i l = Passed (stated_right l.self.ids.now (length l.self.ids.now / 32) l.used l.self.heads.now) (length l.self.heads.now / 32) l.i
