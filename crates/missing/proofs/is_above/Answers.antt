use Rattle.std.proofs.Common.{refl, arith}
use Rattle.missing.specs.Missing.{above_at}
use Rattle.missing.proofs.is_above.Goals as goal

pub offset_bounds-clock-actor : goal.offset_bounds-clock-actor
offset_bounds-clock-actor c = omega (arith, c.requires.0.actors c.args.k c.requires.1)

pub bounds-clock-actor : goal.bounds-clock-actor
bounds-clock-actor c = c.requires.0.actors c.args.k c.requires.1

pub returns : goal.returns
unfolding above_at
returns c = refl
