-- The first k hashes stand at the start of the buffer.
use Rattle.std.proofs.Common.{◌≡◌}
use Rattle.list_laws.specs.Over.{over}
use Rattle.paper.specs.Text.{flat}
use Rattle.text.specs.Lists.{hashes_in_bytes}
use Rattle.text.proofs.decode_list.Given as goal

abbrev pub invariant-loop-k : goal.invariant-loop-k
invariant-loop-k l = l.out ≡ over l.initial.out 0 (flat (hashes_in_bytes l.s l.k))
