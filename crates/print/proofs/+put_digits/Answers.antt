-- Below 10 one store; else the digits of v / 10 are written by the function itself, and the last digit past them. Assumes nothing.
use Rattle.std.proofs.Common.{arith}
use Rattle.print.specs.PrintLaws.{length_small, length_large, place_small, place_large}
use Rattle.print.proofs.+put_digits.Goals as goal

pub bounds-out-at : goal.bounds-out-at
bounds-out-at t c = omega (arith, length_small c.args.v c.if-v-lt10.true)

pub returns-then-v-lt10-clause-value : goal.returns-then-v-lt10-clause-value
returns-then-v-lt10-clause-value t c = omega (arith, length_small c.args.v c.if-v-lt10.true)

pub returns-then-v-lt10-clause-out_after : goal.returns-then-v-lt10-clause-out_after
returns-then-v-lt10-clause-out_after t c = place_small _ _ _ c.requires c.if-v-lt10.true

pub put_digits-p-requires : goal.put_digits-p-requires
put_digits-p-requires t c = (omega arith, omega (arith, length_large c.args.v c.if-v-lt10.false))

pub bounds-out-p : goal.bounds-out-p
bounds-out-p t c = omega (arith, length_large c.args.v c.if-v-lt10.false, c.put_digits-p.auto.out)

pub overflow_add-result-2 : goal.overflow_add-result-2
overflow_add-result-2 t c = omega (arith, length_large c.args.v c.if-v-lt10.false, c.put_digits-p.auto.out)

pub returns-clause-value : goal.returns-clause-value
returns-clause-value t c = omega (arith, length_large c.args.v c.if-v-lt10.false)

pub returns-clause-out_after : goal.returns-clause-out_after
returns-clause-out_after t c =
    rw (c.put_digits-p.ensures.value, c.put_digits-p.ensures.out_after)
    (place_large _ _ _ c.requires c.if-v-lt10.false)
