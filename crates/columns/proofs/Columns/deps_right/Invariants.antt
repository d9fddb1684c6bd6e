use Rattle.std.proofs.Common.{◌/◌, length}
use Rattle.paper.specs.Lists.{all_in}
use Rattle.paper.proofs.Scans.{Passed}
use Rattle.columns.specs.Columns.{dep_right, deps_at}
use Rattle.columns.specs.ColumnsLaws.{Summed}
use Rattle.columns.proofs.Columns.deps_right.Given as goal

-- each so far is right, with the place where the next change's values start
abbrev pub invariant-loop-k : goal.invariant-loop-k
invariant-loop-k l = record {
  sum : Summed l.self.deps.now (length l.self.ids.now / 32) l.at l.k;
  passed : Passed (λ i. all_in (dep_right l.self.maxes.now i) (deps_at l.self.deps.now l.self.values.now i)) (length l.self.ids.now / 32) l.k;
}
