use Rattle.std.proofs.Common.{◌≤◌, ◌∙◌, length, refl, arith}
use Rattle.branch.specs.BranchLaws.{spreading_start, spreading_in, spreading_room, spreading_next, spreading_most, spreading_end}
use Rattle.branch.proofs.list_dropped.Goals as goal

pub loop-c-init : goal.loop-c-init
loop-c-init c =
    let first = spreading_start {hs = c.args.hashes.now} {ns = c.args.numbers.now} {ds = c.args.deps.now} {key = c.args.key} {from = c.args.from} c.list_branch-own.ensures c.requires.room in
    record { spread = first.spread; leads = first.leads; placed = first.placed; fits = first.fits; list_length = refl }

pub list_children-r-requires-clause-k_in_bounds : goal.list_children-r-requires-clause-k_in_bounds
list_children-r-requires-clause-k_in_bounds c = (omega (arith, spreading_in c.loop-c.invariant c.loop-c-test.true, c.requires.hashes_fit), c.requires.held, c.requires.small)

pub list_children-r-requires-clause-n_in_bounds : goal.list_children-r-requires-clause-n_in_bounds
list_children-r-requires-clause-n_in_bounds c =
    spreading_room c.loop-c.invariant c.loop-c-test.true (omega (arith, c.loop-c.invariant.list_length, c.list_branch-own.ensures.list_length, c.requires.room))

pub loop-c-smaller : goal.loop-c-smaller
loop-c-smaller c = omega (arith, spreading_most c.loop-c.invariant)

pub loop-c-preserved : goal.loop-c-preserved
loop-c-preserved c =
    let room : c.args.n ≤ length c.loop-c.list = omega (arith, c.loop-c.invariant.list_length, c.list_branch-own.ensures.list_length, c.requires.room) in
    spreading_next c.loop-c.invariant c.loop-c-test.true room c.list_children-r.ensures

pub returns : goal.returns
returns c =
    let end = spreading_end c.loop-c.invariant c.loop-c-test.false in
    record { listed = end.listed; fits = end.fits; list_length = end.list_length ∙ c.list_branch-own.ensures.list_length }
