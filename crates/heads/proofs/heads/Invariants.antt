-- The heads from node k on stand in the buffer, ascending.
use Rattle.tables.specs.Lent.{lists}
use Rattle.answer_buffer.specs.Entering.{Entering}
use Rattle.heads.specs.HeadLaws.{from_node}
use Rattle.heads.proofs.heads.Given as goal

abbrev pub invariant-loop-k : goal.invariant-loop-k
invariant-loop-k l = Entering (from_node (lists l.tables) l.k) l.initial.out l.out l.c
