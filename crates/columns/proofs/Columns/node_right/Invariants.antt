use Rattle.std.proofs.Common.{get_or, length}
use Rattle.paper.proofs.Scans.{Passed}
use Rattle.columns.specs.Columns.{dep_right}
use Rattle.columns.proofs.Columns.node_right.Given as goal

-- each so far is right
abbrev pub invariant-loop-j : goal.invariant-loop-j
invariant-loop-j l = Passed (λ i. dep_right l.self.maxes.now l.k (get_or l.deps i 0)) (length l.deps) l.j-index
