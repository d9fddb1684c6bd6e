use Rattle.tables.specs.Tables.{tables}
use Rattle.columns.specs.Columns.{listed}
use Rattle.load.specs.LoadLaws.{Filled}
use Rattle.load.proofs.fill.Given as goal

-- the tables after adding the first k, with the place where the next change's values start
abbrev pub invariant-loop-k : goal.invariant-loop-k
invariant-loop-k l =
    Filled (listed l.columns) (tables l.initial.hashes l.initial.nodes l.initial.targets l.initial.nexts l.initial.clocks l.initial.counts) l.at l.k (tables l.hashes l.nodes l.targets l.nexts l.clocks l.counts)
