-- Adding keeps tables valid, whatever it answers.
use Rattle.std.proofs.Common.{sym, subst}
use Rattle.tables.specs.Valid.{Valid}
use Rattle.graph.specs.Life.{added_valid}
use Rattle.samples.proofs.add.Goals as goal

pub returns : goal.returns
returns c = subst Valid (sym c.add.ensures.counts_after) (added_valid _ _ c.requires)
