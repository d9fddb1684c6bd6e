use Rattle.std.proofs.Common.{sym, ◌∙◌, arith}
use Rattle.paper.proofs.Scans.{all_start, all_next, all_no}
use Rattle.columns.proofs.Columns.heads_told.Goals as goal

pub loop-k-init : goal.loop-k-init
loop-k-init c = all_start _ _

pub returns-then-not-head_told : goal.returns-then-not-head_told
returns-then-not-head_told c = all_no _ _ _ (omega arith) (sym c.head_told.ensures ∙ c.if-not-head_told.true)

pub loop-k-preserved : goal.loop-k-preserved
loop-k-preserved c = all_next _ _ c.loop-k.invariant (omega arith) (sym c.head_told.ensures ∙ c.if-not-head_told.false)
