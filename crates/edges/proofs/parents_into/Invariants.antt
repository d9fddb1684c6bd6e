use Rattle.std.proofs.Common.{◌-◌, min, length}
use Rattle.edges.specs.WalkLaws.{Walking}
use Rattle.edges.proofs.parents_into.Given as goal

abbrev pub invariant-loop-out : goal.invariant-loop-out
invariant-loop-out l = Walking l.edges l.initial.at l.initial.out l.at l.n (min (length l.edges) (length l.out) - l.n) l.out

abbrev pub decreases-loop-out : goal.decreases-loop-out
decreases-loop-out l = min (length l.edges) (length l.out) - l.n
