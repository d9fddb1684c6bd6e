-- The first entries of the clock table, as many as the rows in use have, are cleared.
use Rattle.std.proofs.Common.{ℕ, ◌*◌, ap, get_or}
use Rattle.tables.specs.Tables.{tables}
use Rattle.cache.specs.CheckLaws.{forgotten_is}
use Rattle.cache.proofs.forget.Goals as goal

pub returns : goal.returns
returns c =
    let a = c.args in
    let end_is = ap (λ (w : ℕ). get_or a.counts.now 0 0 * w) c.actor_room-width.ensures in
    forgotten_is (tables a.hashes.now a.nodes.now a.targets.now a.nexts.now a.clocks.now a.counts.now) c.requires _ _ end_is c.clear.ensures
