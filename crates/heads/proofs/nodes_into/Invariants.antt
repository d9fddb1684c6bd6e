-- The nodes of the first i hashes of the list stand in the buffer.
use Rattle.std.specs.Prelude.{map}
use Rattle.paper.specs.Lists.{hashes_from}
use Rattle.answer_buffer.specs.AnswerLaws.{Holds}
use Rattle.heads.specs.Heads.{node_in}
use Rattle.heads.proofs.nodes_into.Given as goal

abbrev pub invariant-loop-i : goal.invariant-loop-i
invariant-loop-i l = Holds (map (node_in l.hashes l.n) (hashes_from l.list l.i 0)) l.initial.out l.out l.i
