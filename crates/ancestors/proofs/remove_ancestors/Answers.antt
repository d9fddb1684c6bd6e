use Rattle.std.proofs.Common.{ℕ, List, length, sym, ap, ◌∙◌}
use Rattle.tables.specs.Tables.{graph}
use Rattle.tables.specs.Lent.{lists}
use Rattle.answer_buffer.specs.Answers.{list_answer, filled}
use Rattle.answer_buffer.specs.Room.{room}
use Rattle.ancestors.specs.AncestorLaws.{removed_bytes, list_bad, list_unfilled, heads_bad, heads_unfilled, removed_good, filled_good}
use Rattle.ancestors.proofs.remove_ancestors.Goals.{then-list-ne0-via-then-list-ne0, then-list-ne0-via-else-list-ne0+then-heads-ne0}
use Rattle.ancestors.proofs.remove_ancestors.Goals as goal

pub returns-then-list-ne0 : goal.returns-then-list-ne0
returns-then-list-ne0 c =
    let g = graph (lists c.args.tables.now) in
    elim c.then-list-ne0.branch [
      | then-list-ne0-via-then-list-ne0 w ↦ record {
        value = sym (list_bad g _ _ w.if-list-ne0.true _);
        out_after = sym (list_unfilled g _ _ w.if-list-ne0.true _);
      }
      | then-list-ne0-via-else-list-ne0+then-heads-ne0 w ↦ record {
        value = sym (heads_bad g _ _ w.if-list-ne0.false w.if-heads-ne0.true _);
        out_after = sym (heads_unfilled g _ _ w.if-list-ne0.false w.if-heads-ne0.true _);
      }
    ]

-- The marks are those of the heads' history, and what they keep is the paper's list.
pub returns : goal.returns
returns c =
    let s = c.args in
    let t = lists s.tables.now in
    let b = removed_bytes t c.requires s.list.now s.heads.now 4096 (room t c.requires).few c.history_of.ensures in
    record {
      value = c.kept_into.ensures.value ∙ ap (λ (l : List ℕ). list_answer l (length s.out.now)) b ∙ sym (removed_good (graph t) _ _ c.if-list-ne0.false c.if-heads-ne0.false _);
      out_after = c.kept_into.ensures.out_after ∙ ap (λ (l : List ℕ). filled l s.out.now) b ∙ sym (filled_good (graph t) _ _ c.if-list-ne0.false c.if-heads-ne0.false _);
    }
