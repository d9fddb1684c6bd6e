-- Those kept among the first i hashes stand in the buffer, ascending.
use Rattle.answer_buffer.specs.Entering.{Entering}
use Rattle.ancestors.specs.Ancestors.{hash_stays}
use Rattle.ancestors.specs.KeptLaws.{kept_to}
use Rattle.ancestors.proofs.kept_into.Given as goal

abbrev pub invariant-loop-i : goal.invariant-loop-i
invariant-loop-i l = Entering (kept_to (hash_stays l.hashes l.n l.marks) l.list l.i) l.initial.out l.out l.c
