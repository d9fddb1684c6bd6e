-- The bytes so far are pasted.
use Rattle.std.proofs.Common.{◌≡◌}
use lib.Seq.{paste}
use Rattle.list_laws.specs.Over.{part}
use Rattle.records.proofs.copy.Given as goal

abbrev pub invariant-loop-j : goal.invariant-loop-j
invariant-loop-j l = l.out ≡ paste l.initial.out l.at (part l.src l.from l.len) l.j
