-- A number from 10 on has one digit more than its tenth. Assumes nothing.
use Rattle.std.proofs.Common.{arith}
use Rattle.print.specs.PrintLaws.{length_small, length_large}
use Rattle.print.proofs.number_length.Goals as goal

pub loop-w-preserved : goal.loop-w-preserved
loop-w-preserved c = (omega arith, omega (arith, length_large c.loop-w.w c.loop-w-test.true))

pub returns : goal.returns
returns c = omega (arith, length_small c.loop-w.w c.loop-w-test.false)
