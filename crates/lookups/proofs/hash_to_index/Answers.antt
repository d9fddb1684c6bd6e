use Rattle.std.proofs.Common.{sym, ap, ◌∙◌}
use Rattle.std.specs.Prelude.{Option, ℕ}
use Rattle.std.specs.Option.{ok_or}
use Rattle.answer_buffer.specs.declared.Refusal.TheVariants.{NotFound}
use Rattle.tables.specs.Tables.{graph}
use Rattle.tables.specs.Lent.{lists}
use Rattle.tables.specs.NodeLaws.{find_node}
use Rattle.lookups.specs.LookupLaws.{look_bad, look_found}
use Rattle.lookups.proofs.hash_to_index.Goals as goal

pub returns-then-hash-ne32 : goal.returns-then-hash-ne32
returns-then-hash-ne32 c = sym (look_bad (graph (lists c.args.tables.now)) _ c.if-hash-ne32.true)

pub returns : goal.returns
returns c =
    c.ok_or.ensures.value
    ∙ ap (λ (o : Option ℕ). ok_or o NotFound) (c.find.ensures ∙ find_node (lists c.args.tables.now) c.args.hash.now)
    ∙ look_found (graph (lists c.args.tables.now)) _ c.if-hash-ne32.false
