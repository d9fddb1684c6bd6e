use Rattle.std.proofs.Common.{sym, ◌∙◌}
use Rattle.paper.proofs.Scans.{some_start, some_next, some_yes}
use Rattle.current_heads.proofs.is_head.Goals as goal

pub loop-k-init : goal.loop-k-init
loop-k-init c = some_start _ _

pub returns-then-head_is : goal.returns-then-head_is
returns-then-head_is c = some_yes _ _ _ c.loop-k-test.true (sym c.head_is.ensures ∙ c.if-head_is.true)

pub loop-k-preserved : goal.loop-k-preserved
loop-k-preserved c = some_next _ _ c.loop-k.invariant c.loop-k-test.true (sym c.head_is.ensures ∙ c.if-head_is.false)
