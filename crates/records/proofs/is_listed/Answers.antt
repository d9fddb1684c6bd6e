use Rattle.std.proofs.Common.{◌∙◌}
use Rattle.records.specs.RecordLaws.{any_mem}
use Rattle.records.proofs.is_listed.Goals as goal

pub returns : goal.returns
returns c = c.contains.ensures.value ∙ any_mem _ _
