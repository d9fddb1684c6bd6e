-- The entries so far are written, each with its comma, up to p.
use Rattle.print.specs.ClockLaws.{Clocking}
use Rattle.print.proofs.put_clock.Given as goal

abbrev pub invariant-loop-v : goal.invariant-loop-v
invariant-loop-v l = Clocking l.clock l.at l.initial.out l.out l.v-index l.p
