-- The first k hashes are written, each with its comma.
use Rattle.print.specs.HexLaws.{Listing}
use Rattle.print.proofs.put_list.Given as goal

abbrev pub invariant-loop-k : goal.invariant-loop-k
invariant-loop-k l = Listing l.hashes l.n l.at l.initial.out l.out l.k
