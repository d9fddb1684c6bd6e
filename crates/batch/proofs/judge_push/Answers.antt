use Rattle.std.proofs.Common.{sym, ◌∙◌}
use Rattle.batch.specs.PushLaws.{whole}
use Rattle.batch.proofs.judge_push.Goals as goal

pub is_known-requires : goal.is_known-requires
is_known-requires c = (c.requires.in_hashes, (whole _ _ (sym c.malformed.ensures ∙ c.if-malformed.false)).0)
