use Rattle.load.specs.LoadLaws.{Put}
use Rattle.load.proofs.put_hashes.Given as goal

-- the hashes of the first i nodes, and behind them the buffer as it was
abbrev pub invariant-loop-i : goal.invariant-loop-i
invariant-loop-i l = Put l.ids l.deps l.initial.out l.i l.out
