-- As many of the first i hashes are kept and new as were counted.
use Rattle.std.proofs.Common.{◌≡◌}
use Rattle.paper.specs.Lists.{tally}
use Rattle.ancestors.specs.Ancestors.{first_kept}
use Rattle.ancestors.proofs.count_kept.Given as goal

abbrev pub invariant-loop-i : goal.invariant-loop-i
invariant-loop-i l = l.c ≡ tally (first_kept l.hashes l.n l.marks l.list) l.i
