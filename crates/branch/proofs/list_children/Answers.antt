use Rattle.branch.specs.BranchLaws.{after_start, after_room, after_next, after_stays}
use Rattle.branch.proofs.list_children.Goals as goal

pub loop-i-init : goal.loop-i-init
loop-i-init c = after_start _ _ _

pub put_if-q-requires : goal.put_if-q-requires
put_if-q-requires c =
    rw (rw (after_stays c.loop-i.invariant _ c.loop-i-test.true c.requires.n_in_bounds) at c.new_child-yes.ensures) (after_room c.loop-i.invariant _ c.loop-i-test.true c.requires.n_in_bounds)

pub loop-i-preserved : goal.loop-i-preserved
loop-i-preserved c =
    let put = c.put_if-q.ensures in
    after_next c.loop-i.invariant (rw (after_stays c.loop-i.invariant _ c.loop-i-test.true c.requires.n_in_bounds) at c.new_child-yes.ensures) put.value.0 put.value.1 put.order_after
