-- Nothing follows, too long, ended by LF, or not ended: one law for each. The end that is found is not before the start. Assumes nothing.
use Rattle.std.proofs.Common.{arith}
use Rattle.text.specs.PartsLaws.{end_bounds}
use Rattle.text.specs.CursorLaws.{line_none, line_long, line_whole, line_open}
use Rattle.text.proofs.Cursor.line.Goals as goal

pub returns-then-s-at : goal.returns-then-s-at
returns-then-s-at c = line_none _ _ c.if-s-at.true

pub overflow_sub-end : goal.overflow_sub-end
overflow_sub-end c = omega (arith, end_bounds 10 c.args.s.now c.args.self.at (omega arith), c.until-end.ensures)

pub returns-then-end-at-gt2400 : goal.returns-then-end-at-gt2400
returns-then-end-at-gt2400 c = line_long _ _ c.if-s-at.false _ c.until-end.ensures c.if-end-at-gt2400.true

pub returns-then-end-s : goal.returns-then-end-s
returns-then-end-s c = line_whole _ _ c.if-s-at.false _ c.until-end.ensures c.if-end-at-gt2400.false c.if-end-s.true

pub returns : goal.returns
returns c = line_open _ _ c.if-s-at.false _ c.until-end.ensures c.if-end-at-gt2400.false c.if-end-s.false
