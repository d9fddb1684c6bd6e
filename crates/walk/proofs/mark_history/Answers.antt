-- What the marks of the list come to is its history.
use Rattle.std.proofs.Common.{◌≡◌, ◌∙◌, length, replicate, rules}
use Rattle.tables.specs.Lent.{lists}
use Rattle.walk.specs.Whole.{history_marked}
use Rattle.walk.proofs.mark_history.Goals as goal

pub returns : goal.returns
returns c =
    let zeros : c.fill.new.self ≡ replicate (length c.args.marks.now) 0 = search rules in
    history_marked (lists c.args.tables.now) c.requires.sound _ _ _ _ c.requires.counts_in_bounds.1 (rw zeros at c.mark_list.ensures) (c.spread.ensures.long ∙ c.mark_list.ensures.long ∙ c.fill.ensures.len) c.spread.ensures
