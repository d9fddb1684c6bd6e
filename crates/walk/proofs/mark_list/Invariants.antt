-- The invariant, `Listing`: what is left of the list, with what is marked, is the whole list.
use Rattle.walk.specs.MarkLaws.{Listing}
use Rattle.walk.proofs.mark_list.Given as goal

abbrev pub invariant-loop-t : goal.invariant-loop-t
invariant-loop-t l = Listing l.starts l.initial.marks l.marks l.t-index
