-- Without change room the definition divides by 0, which gives 0.
use Rattle.std.proofs.Common.{rules, sym}
use Rattle.tables.specs.Tables.{width_of}
use native.Mathlib.Nat.{div-zero}
use Rattle.tables.proofs.actor_room.Goals as goal

pub returns-then-n-eq0 : goal.returns-then-n-eq0
unfolding width_of
returns-then-n-eq0 c = rw c.if-n-eq0.true (sym (div-zero _))

pub returns : goal.returns
unfolding width_of
returns c = search rules
