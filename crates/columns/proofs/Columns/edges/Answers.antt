use Rattle.std.proofs.Common.{arith}
use Rattle.columns.specs.ColumnsLaws.{enough_start, enough_next, enough_many, enough_short, refused}
use Rattle.columns.proofs.Columns.edges.Goals as goal

pub loop-d-init : goal.loop-d-init
loop-d-init c = enough_start _ _ _

pub returns-then-d-gt32 : goal.returns-then-d-gt32
returns-then-d-gt32 c = refused _ _ (enough_many _ _ _ c.loop-d.invariant (omega arith) c.if-d-gt32.true)

pub returns-then-self-at : goal.returns-then-self-at
returns-then-self-at c = refused _ _ (enough_short _ _ _ c.loop-d.invariant (omega arith) c.if-self-at.true)

pub loop-d-preserved : goal.loop-d-preserved
loop-d-preserved c = enough_next _ _ _ c.loop-d.invariant (omega arith) c.if-d-gt32.false c.if-self-at.false
