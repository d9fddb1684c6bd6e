use Rattle.std.proofs.Common.{sym, ◌∙◌}
use Rattle.tables.specs.Tables.{graph}
use Rattle.tables.specs.Lent.{lists}
use Rattle.answer_buffer.specs.AnswerLaws.{node_told, node_refused, node_filled, node_unfilled}
use Rattle.lookups.proofs.index_to_hash.Goals as goal

pub returns-then-tables-k : goal.returns-then-tables-k
returns-then-tables-k c = let g = graph (lists c.args.tables.now) in record {
  value = sym (node_refused g _ _ _ c.if-tables-k.true);
  out_after = sym (node_unfilled g _ _ c.if-tables-k.true);
}

pub returns : goal.returns
returns c = let g = graph (lists c.args.tables.now) in record {
  value = c.hash_into.ensures.value ∙ sym (node_told g _ _ _ c.if-tables-k.false);
  out_after = c.hash_into.ensures.out_after ∙ sym (node_filled g _ _ c.if-tables-k.false);
}
