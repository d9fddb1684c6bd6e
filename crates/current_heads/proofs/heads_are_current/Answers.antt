use Rattle.std.proofs.Common.{sym, ap, ◌∙◌}
use Rattle.std.specs.Prelude.{Bool, Ok}
use Rattle.tables.specs.Tables.{graph}
use Rattle.tables.specs.Lent.{lists}
use Rattle.current_heads.specs.CurrentLaws.{listed_wrong, heads_decide, told_malformed, told_current}
use Rattle.current_heads.proofs.heads_are_current.Goals as goal

pub returns-then-list-ne0 : goal.returns-then-list-ne0
returns-then-list-ne0 c = sym (told_malformed (graph (lists c.args.tables.now)) _ c.if-list-ne0.true)

pub returns-then-listed_are_heads : goal.returns-then-listed_are_heads
returns-then-listed_are_heads c =
    let t = lists c.args.tables.now in
    ap (λ (b : Bool). Ok b) (c.heads_are_listed.ensures ∙ sym (heads_decide t c.requires _ (sym c.listed_are_heads.ensures ∙ c.if-listed_are_heads.true))) ∙ told_current (graph t) _ c.if-list-ne0.false

pub returns-else-listed_are_heads : goal.returns-else-listed_are_heads
returns-else-listed_are_heads c =
    let t = lists c.args.tables.now in
    ap (λ (b : Bool). Ok b) (c.if-listed_are_heads.false ∙ sym (listed_wrong t c.requires _ (sym c.listed_are_heads.ensures ∙ c.if-listed_are_heads.false))) ∙ told_current (graph t) _ c.if-list-ne0.false
