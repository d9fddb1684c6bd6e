use Rattle.std.proofs.Common.{refl, ap, ◌∙◌}
use Rattle.list_laws.specs.Over.{over}
use Rattle.batch.specs.PushLaws.{whole_part}
use Rattle.batch.proofs.place.Goals as goal

pub returns : goal.returns
returns c =
    record {
      hashes = c.copy.ensures ∙ ap (over _ _) (whole_part _ _ c.requires.hash_whole);
      numbers = c.put_five.ensures;
      deps = c.copy-2.ensures ∙ ap (over _ _) (whole_part _ _ refl);
      count = refl;
    }
