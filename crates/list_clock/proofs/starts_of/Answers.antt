use Rattle.tables.specs.Tables.{graph, changes}
use Rattle.tables.specs.Lent.{lists}
use Rattle.paper.proofs.Bools.{pick_ext}
use Rattle.answer_buffer.specs.AnswerLaws.{holds_as}
use Rattle.list_clock.specs.KnownLaws.{marked_known}
use Rattle.list_clock.proofs.starts_of.Goals as goal

-- The marks are those of the known nodes, so the list is theirs.
pub returns : goal.returns
returns c =
    let t = lists c.args.tables.now in
    let e = marked_known (graph t) c.args.list.now 4096 _ c.mark_known.ensures in
    holds_as c.collect.ensures _ (pick_ext _ _ (changes t) (λ k l. e k))
