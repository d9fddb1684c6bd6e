-- The entries below i are joined, the others as they were.
use Rattle.std.proofs.Common.{◌≡◌}
use Rattle.list_laws.specs.Blend.{blend}
use Rattle.clock.specs.Clock.{joined}
use Rattle.clock.proofs.merge.Given as goal

abbrev pub invariant-loop-i : goal.invariant-loop-i
invariant-loop-i l = l.a ≡ blend l.i (joined l.initial.a l.b) l.initial.a
