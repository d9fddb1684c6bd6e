-- The hashes of those of the first k nodes that are above stand in the buffer.
use Rattle.std.specs.Prelude.{map}
use Rattle.paper.specs.Lists.{pick, hash_at}
use Rattle.paper.specs.Text.{flat}
use Rattle.answer_buffer.specs.AnswerLaws.{Holds}
use Rattle.missing.specs.Missing.{above_at}
use Rattle.missing.proofs.above_into.Given as goal

abbrev pub invariant-loop-k : goal.invariant-loop-k
invariant-loop-k l = Holds (flat (map (hash_at l.hashes) (pick (above_at l.nodes l.clock) l.k))) l.initial.out l.out l.c
