-- The walk from node k, in the first `width` entries of a local clock of zeros, and these put into row k.
use Rattle.std.proofs.Common.{◌∙◌, ◌++◌, ◌≡◌, length, take, drop, replicate, ℕ}
use Rattle.tables.specs.Tables.{Tables, tables}
use Rattle.cache.specs.RowLaws.{part_zero, part_long, part_back}
use Rattle.cache.specs.CacheLaws.{narrow, begun}
use Rattle.cache.proofs.begin_cache.Goals as goal

pub returns : goal.returns
returns c =
    let a = c.args in
    let t : Tables = tables a.hashes.now a.nodes.now a.targets.now a.nexts.now a.clocks.now a.counts.now in
    let part_is : length (take a.width (replicate {A = ℕ} 64 0)) ≡ a.width = part_long a.width 64 (narrow t _ _ _ c.requires) in
    let row_back : take a.width (c.walk.new.clock ++ drop a.width (replicate {A = ℕ} 64 0)) ≡ c.walk.new.clock = part_back a.width c.walk.new.clock _ (c.walk.ensures.long ∙ part_is) in
    begun t _ _ _ c.requires _ _ _ (part_zero a.width 64) part_is c.walk.ensures _ _ row_back c.put_row.ensures
