use Rattle.std.proofs.Common.{arith}
use Rattle.paper.proofs.Count.{tally_most}
use Rattle.branch.specs.Branch.{on_branch}
use Rattle.branch.specs.BranchLaws.{after_start, after_room, after_next}
use Rattle.branch.proofs.list_branch.Goals as goal

pub loop-i-init : goal.loop-i-init
loop-i-init c = after_start _ _ _

pub put_if-r-requires : goal.put_if-r-requires
put_if-r-requires c =
    rw c.on_branch.ensures (after_room c.loop-i.invariant c.args.n c.loop-i-test.true (omega (arith, tally_most (on_branch c.args.numbers.now c.args.key c.args.from) c.args.n, c.requires)))

pub loop-i-preserved : goal.loop-i-preserved
loop-i-preserved c =
    let put = c.put_if-r.ensures in
    after_next c.loop-i.invariant c.on_branch.ensures put.value.0 put.value.1 put.order_after
