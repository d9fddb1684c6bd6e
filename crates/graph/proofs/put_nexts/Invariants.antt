-- The invariant, `Pasted`: the nexts of the first i edges are written, and the length stays. What a turn writes names the edge after it, and for the last edge none.
use Rattle.list_laws.specs.Paste.{Pasted}
use Rattle.graph.specs.Place.{nexts_from}
use Rattle.graph.proofs.put_nexts.Given as goal

abbrev pub invariant-loop-i : goal.invariant-loop-i
invariant-loop-i l = Pasted l.initial.nexts l.e (nexts_from l.d l.e) l.i l.nexts
