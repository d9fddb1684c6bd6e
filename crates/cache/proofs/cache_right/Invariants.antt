-- The invariant: the rows passed are right, and no node is marked.
use Rattle.std.proofs.Common.{◌≡◌}
use Rattle.list_laws.specs.Iff.{Below}
use Rattle.tables.specs.Lent.{lists}
use Rattle.walk.specs.Rows.{RowsRight}
use Rattle.cache.proofs.cache_right.Given as goal

abbrev pub invariant-loop-k : goal.invariant-loop-k
invariant-loop-k l = (l.marks ≡ l.initial.marks) × Below (RowsRight (lists l.tables)) l.k
