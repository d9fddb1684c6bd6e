use Rattle.std.proofs.Common.{◌/◌, length}
use Rattle.columns.specs.ColumnsLaws.{Enough}
use Rattle.columns.proofs.Columns.edges.Given as goal

-- the dependencies so far, and that there are values for them
abbrev pub invariant-loop-d : goal.invariant-loop-d
invariant-loop-d l = Enough l.self.deps.now (length l.self.ids.now / 32) (length l.self.values.now) l.at l.d-index
