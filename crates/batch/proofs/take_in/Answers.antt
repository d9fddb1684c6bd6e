use Rattle.std.proofs.Common.{sym, ◌∙◌}
use Rattle.batch.specs.PushLaws.{done_fine, fine_placeable}
use Rattle.batch.proofs.take_in.Goals as goal

pub place-requires : goal.place-requires
place-requires c = fine_placeable c.requires (done_fine _ _ _ _ c.args.key c.args.seq _ (sym c.judge_push.ensures ∙ c.in_ok-judge_push.was))
