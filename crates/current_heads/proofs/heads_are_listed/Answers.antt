use Rattle.std.proofs.Common.{sym, ◌∙◌}
use Rattle.paper.proofs.Scans.{all_start, all_next, all_no}
use Rattle.current_heads.proofs.heads_are_listed.Goals as goal

pub loop-k-init : goal.loop-k-init
loop-k-init c = all_start _ _

pub returns-then-not-head_named : goal.returns-then-not-head_named
returns-then-not-head_named c = all_no _ _ _ c.loop-k-test.true (sym c.head_named.ensures ∙ c.if-not-head_named.true)

pub loop-k-preserved : goal.loop-k-preserved
loop-k-preserved c = all_next _ _ c.loop-k.invariant c.loop-k-test.true (sym c.head_named.ensures ∙ c.if-not-head_named.false)
