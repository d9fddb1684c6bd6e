-- A hash is 64 digits in hex: with room for them it is written, and else nothing is. Assumes nothing.
use Rattle.std.proofs.Common.{arith}
use Rattle.paper.specs.Text.{hex_of}
use Rattle.print.specs.PrintLaws.{put_done, put_full}
use Rattle.print.specs.HexLaws.{hex_length}
use Rattle.print.proofs.put_hash.Goals as goal

pub returns-then-out-at-lt64 : goal.returns-then-out-at-lt64
returns-then-out-at-lt64 c = put_full _ _ _ (omega (arith, hex_length c.args.hash.now))

pub returns : goal.returns
returns c =
    let h = hex_length c.args.hash.now in
    put_done (hex_of c.args.hash.now) c.args.out.now c.args.at (omega arith) _ (omega arith) _ c.put_hex.ensures
