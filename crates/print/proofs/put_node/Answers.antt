-- A node's hash is 32 bytes of the table, and 64 digits in hex. Assumes nothing.
use Rattle.std.proofs.Common.{arith, length-take, length-drop}
use Rattle.print.specs.HexLaws.{node_part}
use Rattle.print.proofs.put_node.Goals as goal

pub put_hex-requires : goal.put_hex-requires
put_hex-requires c = simp (length-take, length-drop) (omega arith)

pub returns : goal.returns
returns c = rw (node_part c.args.hashes.now c.args.node) at c.put_hex.ensures
