use Rattle.std.proofs.Common.{refl, arith}
use Rattle.records.specs.RecordLaws.{closed_most}
use Rattle.waiting.specs.ValidLaws.{valid_small}
use Rattle.waiting.specs.Taken.{closed_out}
use Rattle.branch.specs.BranchLaws.{dropped_out}
use Rattle.branch.proofs.drop_branch.Goals as goal

pub overflow_cast-count : goal.overflow_cast-count
overflow_cast-count c = omega (arith, closed_most c.close_up-w.ensures, valid_small c.requires)

pub returns : goal.returns
returns c = dropped_out _ c.list_dropped-r.ensures (closed_out _ c.close_up-w.ensures refl)
