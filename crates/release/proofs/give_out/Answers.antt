use Rattle.std.proofs.Common.{refl, arith}
use Rattle.records.specs.RecordLaws.{closed_most}
use Rattle.waiting.specs.ValidLaws.{valid_small}
use Rattle.waiting.specs.Taken.{closed_out}
use Rattle.release.proofs.give_out.Goals as goal

pub overflow_cast-count : goal.overflow_cast-count
overflow_cast-count c = omega (arith, closed_most c.close_up-w.ensures, valid_small c.requires.store_valid)

pub returns-clause-taken_out : goal.returns-clause-taken_out
returns-clause-taken_out c = closed_out _ c.close_up-w.ensures refl
