-- The search from hash k on finds what the whole search finds.
use Rattle.std.proofs.Common.{◌≡◌, ◌-◌}
use Rattle.hash.specs.Hash.{find_from, find_hash}
use Rattle.hash.proofs.find.Given as goal

abbrev pub invariant-loop-k : goal.invariant-loop-k
invariant-loop-k l = find_from l.hashes l.hash (l.n - l.k) l.k ≡ find_hash l.hashes l.n l.hash
