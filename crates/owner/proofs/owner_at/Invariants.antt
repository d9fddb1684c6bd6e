-- The first owner among the nodes from k on is the first of all.
use Rattle.std.proofs.Common.{◌≡◌, ◌-◌}
use Rattle.paper.specs.Lists.{first_from, first_below}
use Rattle.owner.specs.Owns.{owns_at}
use Rattle.owner.proofs.owner_at.Given as goal

abbrev pub invariant-loop-k : goal.invariant-loop-k
invariant-loop-k l = first_from (owns_at l.nodes l.actor l.counter) (l.n - l.k) l.k ≡ first_below (owns_at l.nodes l.actor l.counter) l.n
