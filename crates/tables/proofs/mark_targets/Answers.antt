use Rattle.tables.specs.CheckLaws.{marked_start, marked_next}
use Rattle.tables.proofs.mark_targets.Goals as goal

pub loop-i-init : goal.loop-i-init
loop-i-init c = marked_start _ _

pub loop-i-preserved : goal.loop-i-preserved
loop-i-preserved c = marked_next _ _ _ _ c.loop-i.invariant (c.requires.by_index _ c.loop-i-test.true)
