use Rattle.std.proofs.Common.{ℕ, ◌+◌, refl, ap, ◌∙◌, arith}
use Rattle.paper.specs.Lists.{tally}
use Rattle.tables.specs.Tables.{graph}
use Rattle.tables.specs.Lent.{lists}
use Rattle.answer_buffer.specs.Picking.{tally_by, tally_fits, at_most_one}
use Rattle.lookups.specs.Lookups.{actor_listed}
use Rattle.lookups.proofs.count_among.Goals as goal

pub loop-a-init : goal.loop-a-init
unfolding tally
loop-a-init c = refl

pub overflow_add-c : goal.overflow_add-c
overflow_add-c c =
    let fits = tally_fits (actor_listed (graph (lists c.args.tables.now)) c.args.which) c.loop-a.a c.loop-a.c c.loop-a.invariant in
    let one = at_most_one c.is_among.result in
    omega arith

pub loop-a-preserved : goal.loop-a-preserved
loop-a-preserved c =
    ap (λ (n : ℕ). c.loop-a.c + n) c.from-c.ensures
    ∙ tally_by (actor_listed (graph (lists c.args.tables.now)) c.args.which) c.loop-a.a c.loop-a.c c.is_among.result c.is_among.ensures c.loop-a.invariant
