use Rattle.tables.specs.Tables.{tables}
use Rattle.tables.specs.Valid.{Valid}
use Rattle.samples.proofs.fill.Given as goal

-- the tables are valid at every turn
abbrev pub invariant-loop-k : goal.invariant-loop-k
invariant-loop-k l = Valid (tables l.hashes l.nodes l.targets l.nexts l.clocks l.counts)
