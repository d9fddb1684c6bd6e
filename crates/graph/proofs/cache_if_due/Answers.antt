-- The clock table is as it was, or as caching leaves it, by whether it is due.
use Rattle.std.proofs.Common.{sym, ◌∙◌}
use Rattle.tables.specs.Tables.{tables}
use Rattle.graph.specs.PlaceLaws.{due_not, due_now}
use Rattle.graph.proofs.cache_if_due.Goals as goal

pub returns-then-k-ne0 : goal.returns-then-k-ne0
returns-then-k-ne0 c = sym (due_not (tables c.args.hashes.now c.args.nodes.now c.args.targets.now c.args.nexts.now c.args.clocks.now c.args.counts.now) c.args.k c.if-k-ne0.true)

pub returns : goal.returns
returns c = c.cache_clock.ensures ∙ sym (due_now (tables c.args.hashes.now c.args.nodes.now c.args.targets.now c.args.nexts.now c.args.clocks.now c.args.counts.now) c.args.k c.if-k-ne0.false)
