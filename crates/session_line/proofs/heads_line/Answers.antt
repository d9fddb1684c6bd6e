-- The heads are listed into a local buffer that has room for 256 hashes, and are read back from it as they are written.
-- Assumes nothing.
use Rattle.std.proofs.Common.{refl, ap, ◌∙◌}
use Rattle.session_line.specs.Lines.{count_of, unwrapped}
use Rattle.session_line.specs.HeadsLaws.{heads_inside, said_heads}
use Rattle.session_line.proofs.heads_line.Goals as goal

pub put_heads-requires : goal.put_heads-requires
put_heads-requires c =
    (c.requires.at_in_bounds, heads_inside _ c.requires.valid.0 c.requires.valid.1 _ refl _ (c.unwrap_or-n.ensures ∙ unwrapped c.heads.result ∙ ap count_of c.heads.ensures.value) _ c.heads.ensures.out_after)

pub returns : goal.returns
returns c =
    said_heads _ c.requires.valid.0 c.requires.valid.1 _ refl _
    (c.unwrap_or-n.ensures ∙ unwrapped c.heads.result ∙ ap count_of c.heads.ensures.value) _
    c.heads.ensures.out_after _ _ _ _ c.put_heads.ensures
