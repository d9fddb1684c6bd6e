-- Sound tables are valid exactly if their rows are right.
use Rattle.tables.specs.Lent.{lists}
use Rattle.walk.specs.Whole.{cleared}
use Rattle.cache.specs.CheckLaws.{valid_rows}
use Rattle.cache.proofs.valid.Goals as goal

pub cache_right-requires-clause-by_index : goal.cache_right-requires-clause-by_index
cache_right-requires-clause-by_index c = cleared 4096

pub returns : goal.returns
returns c = valid_rows (lists c.args.tables.now) _ (c.sound.ensures.0 c.if-not-sound.false) c.cache_right.ensures
