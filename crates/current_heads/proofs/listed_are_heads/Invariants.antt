-- Every listed hash so far is a head's.
use Rattle.std.proofs.Common.{◌/◌, length}
use Rattle.paper.specs.Lists.{some_below, hash_at}
use Rattle.paper.proofs.Scans.{Passed}
use Rattle.current_heads.specs.Current.{head_is}
use Rattle.current_heads.proofs.listed_are_heads.Given as goal

abbrev pub invariant-loop-i : goal.invariant-loop-i
invariant-loop-i l = Passed (λ j. some_below (head_is l.hashes l.nodes (hash_at l.list j)) l.n) (length l.list / 32) l.i
