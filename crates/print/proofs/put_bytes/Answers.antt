-- With room for them the bytes are written, and else nothing is. Assumes nothing.
use Rattle.std.proofs.Common.{refl, arith}
use Rattle.print.specs.PrintLaws.{put_done, put_full, part_written}
use Rattle.print.proofs.put_bytes.Goals as goal

pub returns-then-out-at : goal.returns-then-out-at
returns-then-out-at c = put_full _ _ _ (omega arith)

pub returns : goal.returns
returns c = put_done c.args.bs.now c.args.out.now c.args.at (omega arith) _ refl _ (part_written _ _ _ _ _ c.copy_from_slice.ensures.after (omega arith))
