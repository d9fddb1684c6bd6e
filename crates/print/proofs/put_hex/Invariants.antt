-- Both digits of each of the first i bytes are placed.
use Rattle.std.proofs.Common.{◌≡◌, ◌*◌}
use Rattle.list_laws.specs.Over.{placing}
use Rattle.paper.specs.Text.{hex_of}
use Rattle.print.proofs.put_hex.Given as goal

abbrev pub invariant-loop-i : goal.invariant-loop-i
invariant-loop-i l = l.out ≡ placing (2 * l.i) (hex_of l.s) l.at l.initial.out
