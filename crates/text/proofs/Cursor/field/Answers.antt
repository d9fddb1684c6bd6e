-- Past the end there is no field; else it ends within the bytes, so the place past it does not wrap. Assumes nothing.
use Rattle.std.proofs.Common.{arith}
use Rattle.text.specs.PartsLaws.{end_bounds}
use Rattle.text.specs.CursorLaws.{field_part, field_out}
use Rattle.text.proofs.Cursor.field.Goals as goal

pub returns-then-s-at : goal.returns-then-s-at
returns-then-s-at c = field_out _ _ c.if-s-at.true

pub overflow_add-next : goal.overflow_add-next
overflow_add-next c = omega (arith, end_bounds 9 c.args.s.now c.args.self.at (omega arith), c.until-end.ensures)

pub returns : goal.returns
returns c = field_part _ _ c.if-s-at.false _ c.until-end.ensures
