-- The first i bytes that the digits write are placed.
use Rattle.std.proofs.Common.{◌≡◌}
use Rattle.list_laws.specs.Over.{placing}
use Rattle.paper.specs.Text.{bytes_of}
use Rattle.text.proofs.decode.Given as goal

abbrev pub invariant-loop-i : goal.invariant-loop-i
invariant-loop-i l = l.out ≡ placing l.i (bytes_of l.s) l.at l.initial.out
