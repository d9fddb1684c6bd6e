-- The total is the count over the hashes so far.
-- Assumes nothing.
use Rattle.std.proofs.Common.{◌≡◌, ◌+◌, ◌-◌, ◌≤◌}
use Rattle.paper.specs.Lists.{count, hashes_from}
use Rattle.ready.specs.Tables.{known_in}
use Rattle.ready.proofs.count_known.Given as goal

abbrev pub invariant-loop-j : goal.invariant-loop-j
invariant-loop-j l =
    (l.total ≤ l.j) × (l.total + count (known_in l.table l.n) (hashes_from l.deps (l.m - l.j) (l.first + l.j)) ≡ count (known_in l.table l.n) (hashes_from l.deps l.m l.first))
