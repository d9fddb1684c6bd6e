-- n and the digits of w are together one more than the digits of v, and n + w is at most v + 1, so n does not wrap.
use Rattle.std.proofs.Common.{◌≡◌, ◌+◌, ◌≤◌, length}
use Rattle.paper.specs.Text.{digits_of}
use Rattle.print.proofs.number_length.Given as goal

abbrev pub invariant-loop-w : goal.invariant-loop-w
invariant-loop-w l = (l.n + l.w ≤ l.v + 1) × (l.n + length (digits_of l.w) ≡ length (digits_of l.v) + 1)

abbrev pub decreases-loop-w : goal.decreases-loop-w
decreases-loop-w l = l.w
