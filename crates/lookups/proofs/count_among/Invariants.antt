-- c of the first a actors are listed.
use Rattle.std.proofs.Common.{◌≡◌}
use Rattle.paper.specs.Lists.{tally}
use Rattle.tables.specs.Tables.{graph}
use Rattle.tables.specs.Lent.{lists}
use Rattle.lookups.specs.Lookups.{actor_listed}
use Rattle.lookups.proofs.count_among.Given as goal

abbrev pub invariant-loop-a : goal.invariant-loop-a
invariant-loop-a l = l.c ≡ tally (actor_listed (graph (lists l.tables)) l.which) l.a
