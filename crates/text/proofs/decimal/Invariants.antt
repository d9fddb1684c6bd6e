-- The whole number is v with the digits left after it.
use Rattle.std.proofs.Common.{◌≡◌, ◌<◌, ◌^◌, drop}
use Rattle.paper.specs.Text.{decimal_of, digits_after}
use Rattle.text.proofs.decimal.Given as goal

abbrev pub invariant-loop-b : goal.invariant-loop-b
invariant-loop-b l = (l.v < 2 ^ 64) × (decimal_of l.s ≡ digits_after l.v (drop l.b-index l.s))
