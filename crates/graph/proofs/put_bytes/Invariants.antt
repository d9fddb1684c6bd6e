-- The invariant, `Pasted`: the first j bytes are written, and the length stays.
use Prim.Native.Nat.{◌-◌}
use Rattle.list_laws.specs.Paste.{Pasted}
use Rattle.graph.proofs.put_bytes.Given as goal

abbrev pub invariant-loop-j : goal.invariant-loop-j
invariant-loop-j l = Pasted l.initial.out l.at l.bytes l.j l.out
