-- No node so far is a head with the hash.
use Rattle.paper.proofs.Scans.{Missed}
use Rattle.current_heads.specs.Current.{head_is}
use Rattle.current_heads.proofs.is_head.Given as goal

abbrev pub invariant-loop-k : goal.invariant-loop-k
invariant-loop-k l = Missed (head_is l.hashes l.nodes l.hash) l.n l.k
