-- Every head so far is listed.
use Rattle.paper.proofs.Scans.{Passed}
use Rattle.current_heads.specs.Current.{head_named}
use Rattle.current_heads.proofs.heads_are_listed.Given as goal

abbrev pub invariant-loop-k : goal.invariant-loop-k
invariant-loop-k l = Passed (head_named l.hashes l.nodes l.list) l.n l.k
