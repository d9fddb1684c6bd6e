use Rattle.std.proofs.Common.{arith}
use Rattle.ready.specs.Tables.{known_in, none_of}
use Rattle.ready.specs.OpenLaws.{counted_both}
use Rattle.ready.proofs.count_unknown.Goals as goal

pub returns : goal.returns
unfolding none_of
returns c = omega (arith, c.count_known.ensures.value, counted_both (known_in c.args.graph.now c.args.n) c.args.deps.now c.args.m c.args.first)
