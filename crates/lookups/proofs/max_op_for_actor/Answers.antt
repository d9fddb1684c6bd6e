use Rattle.std.proofs.Common.{sym, ap, ◌∙◌, arith}
use Rattle.tables.specs.Tables.{graph, max_op_at}
use Rattle.tables.specs.Lent.{lists}
use Rattle.tables.specs.NodeLaws.{unknown_high}
use Rattle.lookups.specs.LookupLaws.{found_is, max_op_known, max_op_none}
use Rattle.lookups.proofs.max_op_for_actor.Goals as goal

pub returns-in_default : goal.returns-in_default
returns-in_default c = let t = lists c.args.tables.now in sym (max_op_none (graph t) _ (unknown_high _ _ (sym c.last_change.ensures ∙ c.in_default.is)))

pub overflow_mul-result : goal.overflow_mul-result
overflow_mul-result c = let f = found_is (lists c.args.tables.now) c.requires _ _ (sym c.last_change.ensures ∙ c.in-Some.is) in omega (arith, f.node_in)

pub overflow_add-result : goal.overflow_add-result
overflow_add-result c = let f = found_is (lists c.args.tables.now) c.requires _ _ (sym c.last_change.ensures ∙ c.in-Some.is) in omega (arith, f.node_in)

pub offset_bounds-tables-k : goal.offset_bounds-tables-k
offset_bounds-tables-k c = let f = found_is (lists c.args.tables.now) c.requires _ _ (sym c.last_change.ensures ∙ c.in-Some.is) in omega (arith, f.node_in)

pub bounds-tables-k : goal.bounds-tables-k
bounds-tables-k c = let f = found_is (lists c.args.tables.now) c.requires _ _ (sym c.last_change.ensures ∙ c.in-Some.is) in omega (arith, f.node_in)

pub returns : goal.returns
returns c = let t = lists c.args.tables.now in let f = found_is t c.requires _ _ (sym c.last_change.ensures ∙ c.in-Some.is) in ap (max_op_at c.args.tables.now.nodes.now) (sym f.is) ∙ sym (max_op_known (graph t) _ f.low)
