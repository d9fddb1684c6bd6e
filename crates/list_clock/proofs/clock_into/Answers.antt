use Rattle.std.proofs.Common.{sym, ◌∙◌, eqb-true}
use Rattle.tables.specs.Tables.{graph}
use Rattle.tables.specs.Lent.{lists}
use Rattle.tables.specs.DepsLaws.{valid_graph}
use Rattle.list_clock.specs.KnownLaws.{empty_clock}
use Rattle.list_clock.proofs.clock_into.Goals as goal

-- An empty list has nothing in its history, so its clock is all 0.
pub returns-then-is_empty : goal.returns-then-is_empty
returns-then-is_empty c =
    let t = lists c.args.tables.now in
    c.clear.ensures ∙ empty_clock (graph t) (valid_graph t c.requires.valid.sound) c.args.list.now (eqb-true _ _ (sym c.is_empty.ensures ∙ c.if-is_empty.true)) _
