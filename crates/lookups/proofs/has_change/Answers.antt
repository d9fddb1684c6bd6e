use Rattle.std.proofs.Common.{sym, ap, ◌∙◌}
use Rattle.std.specs.Prelude.{Option, ℕ, Bool, Ok}
use Rattle.std.specs.Option.{is_some}
use Rattle.tables.specs.Tables.{graph}
use Rattle.tables.specs.Lent.{lists}
use Rattle.tables.specs.NodeLaws.{find_node}
use Rattle.lookups.specs.LookupLaws.{has_bad, has_found, has_told}
use Rattle.lookups.proofs.has_change.Goals as goal

pub returns-then-hash-ne32 : goal.returns-then-hash-ne32
returns-then-hash-ne32 c = sym (has_bad (graph (lists c.args.tables.now)) _ c.if-hash-ne32.true)

pub returns : goal.returns
returns c =
    let g = graph (lists c.args.tables.now) in
    let found = c.is_some.ensures ∙ ap (λ (o : Option ℕ). is_some o) (c.find.ensures ∙ find_node (lists c.args.tables.now) c.args.hash.now) ∙ has_found g _ c.if-hash-ne32.false in
    ap (λ (b : Bool). Ok b) found ∙ has_told g _ c.if-hash-ne32.false
