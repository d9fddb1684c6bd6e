-- The invariant, `Merging`: the entries passed are merged.
use Rattle.walk.specs.WalkLaws.{Merging}
use Rattle.walk.proofs.merge_row.Given as goal

abbrev pub invariant-loop-a : goal.invariant-loop-a
invariant-loop-a l = Merging l.rows l.from l.initial.clock l.clock l.a
