-- A number of 32 bits has few digits. The text has one comma less. Assumes nothing.
use Rattle.std.proofs.Common.{sym, get_or, arith}
use Rattle.print.specs.ClockLaws.{up_none, up_length, clock_length, digits_few}
use Rattle.print.proofs.clock_length.Goals as goal

pub loop-v-init : goal.loop-v-init
loop-v-init c = (sym (up_none _), omega arith)

pub overflow_add-n : goal.overflow_add-n
overflow_add-n c =
    let d = rw c.from.ensures at c.number_length.ensures in
    omega (arith, c.type_inv.clock c.loop-v.v-index, digits_few (get_or c.args.clock.now c.loop-v.v-index 0))

pub overflow_add-n-in-loop-v : goal.overflow_add-n-in-loop-v
overflow_add-n-in-loop-v c =
    let d = rw c.from.ensures at c.number_length.ensures in
    omega (arith, c.type_inv.clock c.loop-v.v-index, digits_few (get_or c.args.clock.now c.loop-v.v-index 0))

pub loop-v-preserved : goal.loop-v-preserved
loop-v-preserved c =
    let d = rw c.from.ensures at c.number_length.ensures in
    let u = up_length c.args.clock.now c.loop-v.v-index c.loop-v-test.true in
    (omega arith, omega (arith, c.type_inv.clock c.loop-v.v-index, digits_few (get_or c.args.clock.now c.loop-v.v-index 0)))

pub overflow_sub-result : goal.overflow_sub-result
overflow_sub-result c = omega (arith, clock_length c.args.clock.now c.loop-v.v-index c.loop-v.auto.v-index-end c.loop-v-test.false c.requires.0)

pub returns : goal.returns
returns c = omega (arith, clock_length c.args.clock.now c.loop-v.v-index c.loop-v.auto.v-index-end c.loop-v-test.false c.requires.0)
