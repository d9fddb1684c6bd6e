-- Those of the first a actors stand in the buffer.
use Rattle.paper.specs.Lists.{pick}
use Rattle.tables.specs.Tables.{graph}
use Rattle.tables.specs.Lent.{lists}
use Rattle.answer_buffer.specs.AnswerLaws.{Holds}
use Rattle.lookups.specs.Lookups.{actor_listed}
use Rattle.lookups.proofs.actor_ids.Given as goal

abbrev pub invariant-loop-a : goal.invariant-loop-a
invariant-loop-a l = Holds (pick (actor_listed (graph (lists l.tables)) l.which) l.a) l.initial.out l.out l.c
