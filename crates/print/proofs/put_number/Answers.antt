-- The digits are counted first: what fits is written, and what does not fit is not. Assumes nothing.
use Rattle.std.proofs.Common.{arith}
use Rattle.paper.specs.Text.{digits_of}
use Rattle.print.specs.PrintLaws.{put_done, put_full}
use Rattle.print.proofs.put_number.Goals as goal

pub returns-then-out-at : goal.returns-then-out-at
returns-then-out-at c = put_full _ _ _ (omega (arith, c.number_length.ensures))

pub returns : goal.returns
returns c = put_done (digits_of c.args.v) c.args.out.now c.args.at (omega (arith, c.number_length.ensures)) _ c.put_digits.ensures.value _ c.put_digits.ensures.out_after
