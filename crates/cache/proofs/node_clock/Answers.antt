-- Node k's own sequence in a clock of zeros, and a walk from its dependencies without a limit.
use Rattle.std.proofs.Common.{arith}
use Rattle.tables.specs.Lent.{lists}
use Rattle.walk.specs.MarkLaws.{node_chain, chain_up}
use Rattle.cache.specs.CheckLaws.{check_actor, node_clocked}
use Rattle.cache.proofs.node_clock.Goals as goal

pub bounds-clock-actor : goal.bounds-clock-actor
bounds-clock-actor c = omega (arith, check_actor (lists c.args.tables.now) _ _ _ _ c.requires)

pub mark_links-requires : goal.mark_links-requires
mark_links-requires c =
    let r = c.requires in
    (chain_up r.room (node_chain (lists c.args.tables.now) r.walkable.sound c.args.k r.known), r.walkable.sound.lengths.nexts_same)

pub returns : goal.returns
returns c = node_clocked (lists c.args.tables.now) _ _ _ _ c.requires _ _ _ _ c.clear.ensures c.mark_links.ensures c.walk.ensures
