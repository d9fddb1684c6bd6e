use Rattle.std.proofs.Common.{sym, ap, ◌∙◌, arith}
use Rattle.tables.specs.Tables.{graph, seq_at}
use Rattle.tables.specs.Lent.{lists}
use Rattle.tables.specs.DepsLaws.{valid_graph}
use Rattle.tables.specs.NodeLaws.{unknown_high}
use Rattle.lookups.specs.LookupLaws.{found_is, change_says, no_last}
use Rattle.lookups.proofs.seq_for_actor.Goals as goal

pub returns-in_default : goal.returns-in_default
returns-in_default c = let t = lists c.args.tables.now in sym (no_last (graph t) (valid_graph t c.requires.sound) _ (unknown_high _ _ (sym c.last_change.ensures ∙ c.in_default.is)))

pub overflow_mul-result : goal.overflow_mul-result
overflow_mul-result c = let f = found_is (lists c.args.tables.now) c.requires _ _ (sym c.last_change.ensures ∙ c.in-Some.is) in omega (arith, f.node_in)

pub overflow_add-result : goal.overflow_add-result
overflow_add-result c = let f = found_is (lists c.args.tables.now) c.requires _ _ (sym c.last_change.ensures ∙ c.in-Some.is) in omega (arith, f.node_in)

pub offset_bounds-tables-k : goal.offset_bounds-tables-k
offset_bounds-tables-k c = let f = found_is (lists c.args.tables.now) c.requires _ _ (sym c.last_change.ensures ∙ c.in-Some.is) in omega (arith, f.node_in)

pub bounds-tables-k : goal.bounds-tables-k
bounds-tables-k c = let f = found_is (lists c.args.tables.now) c.requires _ _ (sym c.last_change.ensures ∙ c.in-Some.is) in omega (arith, f.node_in)

pub returns : goal.returns
returns c = let t = lists c.args.tables.now in let f = found_is t c.requires _ _ (sym c.last_change.ensures ∙ c.in-Some.is) in ap (seq_at c.args.tables.now.nodes.now) (sym f.is) ∙ (change_says (graph t) c.args.actor _ f.low).1
