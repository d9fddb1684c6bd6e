-- n is how many bytes the entries so far take, each with its comma, and at most 4294967298 for each, so no sum wraps.
use Rattle.std.proofs.Common.{◌≡◌, ◌*◌, ◌≤◌, length}
use Rattle.print.specs.ClockLaws.{up_to}
use Rattle.print.proofs.clock_length.Given as goal

abbrev pub invariant-loop-v : goal.invariant-loop-v
invariant-loop-v l = (l.n ≡ length (up_to l.clock l.v-index)) × (l.n ≤ 4294967298 * l.v-index)
