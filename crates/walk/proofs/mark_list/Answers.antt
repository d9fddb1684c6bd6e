use Rattle.walk.specs.MarkLaws.{listing_next, listing_end}
use Rattle.walk.proofs.mark_list.Goals as goal

pub loop-t-preserved : goal.loop-t-preserved
loop-t-preserved c = listing_next c.loop-t.invariant c.loop-t-test.true (c.requires _ c.loop-t-test.true)

pub returns : goal.returns
returns c = listing_end c.loop-t.invariant c.loop-t-test.false
