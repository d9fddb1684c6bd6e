-- The hashes of the first i stand in the buffer.
use Rattle.std.proofs.Common.{◌*◌}
use Rattle.tables.specs.Lent.{lists}
use Rattle.deps.specs.DepsLaws.{Telling}
use Rattle.deps.proofs.deps_for_hash.Given as goal

abbrev pub invariant-loop-i : goal.invariant-loop-i
invariant-loop-i l = Telling (lists l.tables) l.parents l.initial.out l.out (32 * l.i) l.i
