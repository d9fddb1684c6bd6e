-- `tables::run_end` meets its contract.
use Prim.Native.Nat.{◌-◌}
use Rattle.tables.specs.LaidLaws.{RunFrom}
use Rattle.tables.proofs.run_end.Given as goal

abbrev pub invariant-loop-i : goal.invariant-loop-i
invariant-loop-i l = RunFrom l.targets l.nexts l.k l.c l.i
