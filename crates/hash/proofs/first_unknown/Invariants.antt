-- The first unknown from dependency i on is the first unknown of all.
use Rattle.std.proofs.Common.{◌≡◌, ◌-◌, ◌/◌, length}
use Rattle.hash.specs.Hash.{unknown_from, first_unknown}
use Rattle.hash.proofs.first_unknown.Given as goal

abbrev pub invariant-loop-i : goal.invariant-loop-i
invariant-loop-i l = unknown_from l.hashes l.n l.deps (length l.deps / 32 - l.i) l.i ≡ first_unknown l.hashes l.n l.deps
