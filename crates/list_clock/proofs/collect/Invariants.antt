-- The marked ones of the first k nodes stand in the buffer.
use Rattle.paper.specs.Lists.{pick}
use Rattle.walk.specs.Marks.{marked}
use Rattle.answer_buffer.specs.AnswerLaws.{Holds}
use Rattle.list_clock.proofs.collect.Given as goal

abbrev pub invariant-loop-k : goal.invariant-loop-k
invariant-loop-k l = Holds (pick (marked l.marks) l.k) l.initial.out l.out l.c
