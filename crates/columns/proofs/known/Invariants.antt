use Rattle.paper.specs.Lists.{same_list, hash_at}
use Rattle.paper.proofs.Scans.{Missed}
use Rattle.columns.proofs.known.Given as goal

-- none so far is the hash
abbrev pub invariant-loop-j : goal.invariant-loop-j
invariant-loop-j l = Missed (λ i. same_list (hash_at l.hashes i) l.hash) l.n l.j
