use Rattle.std.proofs.Common.{◌∙◌}
use Rattle.records.specs.RecordLaws.{pasted_over}
use Rattle.records.proofs.shift.Goals as goal

pub returns : goal.returns
returns c = c.copy_within.ensures.after ∙ pasted_over _ _ _ _ c.requires.1
