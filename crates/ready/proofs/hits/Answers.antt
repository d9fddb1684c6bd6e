use Rattle.std.proofs.Common.{◌∙◌}
use Rattle.hash.specs.HashLaws.{hash_part}
use Rattle.ready.specs.OpenLaws.{count_one}
use Rattle.ready.proofs.hits.Goals as goal

pub returns : goal.returns
returns c = rw hash_part at c.count_known.ensures.value ∙ count_one _ _ _
