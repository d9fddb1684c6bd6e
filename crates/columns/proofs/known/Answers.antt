use Rattle.std.proofs.Common.{sym, ◌∙◌}
use Rattle.hash.specs.Hash.{same_hash}
use Rattle.paper.proofs.Scans.{some_start, some_next, some_yes}
use Rattle.columns.proofs.known.Goals as goal

pub loop-j-init : goal.loop-j-init
loop-j-init c = some_start _ _

pub returns-then-same_at : goal.returns-then-same_at
unfolding same_hash
returns-then-same_at c = some_yes _ _ _ c.loop-j-test.true (sym c.same_at.ensures ∙ c.if-same_at.true)

pub loop-j-preserved : goal.loop-j-preserved
unfolding same_hash
loop-j-preserved c = some_next _ _ c.loop-j.invariant c.loop-j-test.true (sym c.same_at.ensures ∙ c.if-same_at.false)
