use Rattle.std.proofs.Common.{◌∙◌}
use Rattle.columns.specs.ColumnsLaws.{some_of_list}
use Rattle.columns.proofs.wanted.Goals as goal

pub returns : goal.returns
returns c = c.contains.ensures.value ∙ some_of_list c.args.k c.args.values.now
