-- As many of the first k nodes as were counted are the actor's.
use Rattle.std.proofs.Common.{◌≡◌}
use Rattle.tables.specs.Valid.{count_of}
use Rattle.judge.proofs.count_of.Given as goal

abbrev pub invariant-loop-k : goal.invariant-loop-k
invariant-loop-k l = l.count ≡ count_of l.nodes l.actor l.k
