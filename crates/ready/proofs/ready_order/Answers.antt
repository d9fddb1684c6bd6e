use Rattle.std.proofs.Common.{refl, ◌∙◌, arith}
use Rattle.ready.specs.Ordering.{turns_start, turns_end, turned_most}
use Rattle.ready.proofs.ready_order.Goals as goal

pub loop-c-init : goal.loop-c-init
loop-c-init c =
    record { state = (turns_start c.list_first-listed.ensures c.requires.count_in_bounds).state; left_length = refl; list_length = refl }

pub loop-c-smaller : goal.loop-c-smaller
loop-c-smaller c = omega (arith, turned_most c.loop-c.invariant)

pub returns : goal.returns
returns c =
    let end = turns_end c.loop-c.invariant c.loop-c-test.false in
    record { ordered = end.ordered; counted = end.counted; list_length = end.list_length ∙ c.list_first-listed.ensures.order_length }
