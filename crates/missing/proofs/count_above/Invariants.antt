-- As many of the first k nodes are above as were counted.
use Rattle.std.proofs.Common.{◌≡◌}
use Rattle.paper.specs.Lists.{tally}
use Rattle.missing.specs.Missing.{above_at}
use Rattle.missing.proofs.count_above.Given as goal

abbrev pub invariant-loop-k : goal.invariant-loop-k
invariant-loop-k l = l.c ≡ tally (above_at l.nodes l.clock) l.k
