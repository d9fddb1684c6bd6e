use Rattle.records.specs.RecordLaws.{closed_start, closed_keepable, closed_kept}
use Rattle.records.proofs.close_up.Goals as goal

pub loop-i-init : goal.loop-i-init
loop-i-init c = closed_start _ _ _ _ _ _

pub keep-w-requires : goal.keep-w-requires
keep-w-requires c = closed_keepable c.loop-i.invariant c.requires.rooms c.requires.few c.requires.n_bound.0 c.requires.n_bound.1 c.loop-i-test.true

pub loop-i-preserved : goal.loop-i-preserved
loop-i-preserved c = closed_kept c.loop-i.invariant c.requires.rooms c.requires.few c.loop-i-test.true c.keep-w.ensures
