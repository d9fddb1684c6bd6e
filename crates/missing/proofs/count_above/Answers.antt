use Rattle.std.proofs.Common.{ℕ, ◌+◌, refl, ap, ◌∙◌, arith}
use Rattle.paper.specs.Lists.{tally}
use Rattle.answer_buffer.specs.Picking.{tally_by, tally_fits, at_most_one}
use Rattle.missing.specs.Missing.{above_at}
use Rattle.missing.proofs.count_above.Goals as goal

pub loop-k-init : goal.loop-k-init
unfolding tally
loop-k-init c = refl

pub overflow_add-c : goal.overflow_add-c
overflow_add-c c =
    let fits = tally_fits (above_at c.args.nodes.now c.args.clock.now) c.loop-k.k c.loop-k.c c.loop-k.invariant in
    let one = at_most_one c.is_above.result in
    let few = c.requires.few in
    omega arith

pub loop-k-preserved : goal.loop-k-preserved
loop-k-preserved c =
    ap (λ (n : ℕ). c.loop-k.c + n) c.from-c.ensures
    ∙ tally_by (above_at c.args.nodes.now c.args.clock.now) c.loop-k.k c.loop-k.c c.is_above.result c.is_above.ensures c.loop-k.invariant
