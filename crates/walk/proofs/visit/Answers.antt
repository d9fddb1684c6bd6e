-- No loop; each way out is one law of a visit.
use Rattle.std.proofs.Common.{arith, length-set}
use Rattle.tables.specs.Lent.{lists}
use Rattle.walk.specs.RowLaws.{row_room, actor_low}
use Rattle.walk.specs.MarkLaws.{node_chain, chain_up}
use Rattle.walk.specs.WalkLaws.{visit_kept, visit_plain}
use Rattle.walk.proofs.visit.Goals as goal

pub bounds-clock-actor : goal.bounds-clock-actor
bounds-clock-actor c = omega (arith, actor_low (lists c.args.tables.now) c.requires.walkable.sound c.args.k (omega arith))

pub bounds-clock-actor-2 : goal.bounds-clock-actor-2
bounds-clock-actor-2 c = omega (arith, actor_low (lists c.args.tables.now) c.requires.walkable.sound c.args.k (omega arith))

pub bounds-tables-row : goal.bounds-tables-row
bounds-tables-row c =
    let t = lists c.args.tables.now in
    let w = c.requires.walkable in
    omega (arith, actor_low t w.sound c.args.k (omega arith), row_room t _ _ _ w c.args.k (omega arith))

pub returns-then-tables-row-ne0 : goal.returns-then-tables-row-ne0
returns-then-tables-row-ne0 c =
    let r = c.requires in
    visit_kept (lists c.args.tables.now) _ _ _ _ r.walkable r.k_in_bounds.0 r.k_in_bounds.1 _ c.max.ensures _ (omega arith) c.merge_row.ensures

pub mark_links-requires : goal.mark_links-requires
mark_links-requires c =
    let s = c.requires.walkable.sound in
    (chain_up (simp length-set (omega arith)) (node_chain (lists c.args.tables.now) s c.args.k (omega arith)), s.lengths.nexts_same)

pub returns : goal.returns
returns c =
    let r = c.requires in
    visit_plain (lists c.args.tables.now) _ _ _ _ r.walkable r.k_in_bounds.0 r.k_in_bounds.1 _ c.max.ensures _ (omega arith) c.mark_links.ensures
