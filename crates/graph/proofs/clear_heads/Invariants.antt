-- The invariant: with the flag taken from the targets from edge i on, the nodes table is what it is to be, and its length stays.
use mathlib.Core.Path.{◌≡◌}
use lib.ListN.{length}
use lib.Seq.{slice}
use Rattle.graph.specs.Place.{unheaded}
use Rattle.graph.proofs.clear_heads.Given as goal

abbrev pub invariant-loop-i : goal.invariant-loop-i
invariant-loop-i l = (length l.nodes ≡ length l.initial.nodes) × (unheaded (slice l.i l.f l.targets) l.nodes ≡ unheaded (slice l.e l.f l.targets) l.initial.nodes)
