-- A walk from a clock of zeros and the marks of the list, with no limit, is the clock of the list.
use Rattle.tables.specs.Lent.{lists}
use Rattle.walk.specs.RowLaws.{walkable_whole}
use Rattle.walk.specs.Whole.{clock_walked}
use Rattle.walk.proofs.clock_of.Goals as goal

pub walk-requires-clause-walkable : goal.walk-requires-clause-walkable
walk-requires-clause-walkable c =
    let r = c.requires in
    walkable_whole (lists c.args.tables.now) _ _ _ r.valid c.actor_room-width.ensures r.asked.enough r.asked.narrow c.clear.auto.clock

pub returns : goal.returns
returns c =
    clock_walked (lists c.args.tables.now) c.requires.valid.sound _ _ _ _ _ _ 4096 c.clear.ensures c.mark_list.ensures c.walk.ensures
