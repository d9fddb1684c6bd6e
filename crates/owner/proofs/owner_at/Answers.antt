use Rattle.std.proofs.Common.{sym, ap, ◌∙◌}
use Rattle.paper.proofs.First.{first_start, first_next, first_hit, first_end}
use Rattle.tables.specs.Node.{found_as}
use Rattle.tables.specs.NodeLaws.{found_at, found_none}
use Rattle.owner.proofs.owner_at.Goals as goal

pub loop-k-init : goal.loop-k-init
loop-k-init c = first_start _ _

pub returns-then-owns : goal.returns-then-owns
returns-then-owns c = sym (ap (found_as c.args.n) (sym c.loop-k.invariant ∙ first_hit _ _ _ c.loop-k-test.true (sym c.owns.ensures ∙ c.if-owns.true)) ∙ found_at _ _ c.loop-k-test.true)

pub loop-k-preserved : goal.loop-k-preserved
loop-k-preserved c = sym (first_next _ _ _ c.loop-k-test.true (sym c.owns.ensures ∙ c.if-owns.false)) ∙ c.loop-k.invariant

pub returns : goal.returns
returns c = sym (ap (found_as c.args.n) (sym c.loop-k.invariant ∙ first_end _ _ _ c.loop-k-test.false) ∙ found_none _ _ c.loop-k-test.false)
