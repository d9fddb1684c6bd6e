use Rattle.std.proofs.Common.{◌/◌, length}
use Rattle.paper.proofs.Scans.{Passed}
use Rattle.columns.specs.Columns.{runs_on}
use Rattle.columns.proofs.Columns.sequences_run.Given as goal

-- each so far runs on
abbrev pub invariant-loop-k : goal.invariant-loop-k
invariant-loop-k l = Passed (runs_on l.self.actors.now l.self.seqs.now) (length l.self.ids.now / 32) l.k
