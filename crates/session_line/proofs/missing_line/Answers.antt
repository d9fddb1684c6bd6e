-- What is shown, a part of the table or of a local buffer that has room for 256 hashes, is the missing list, and is read back from there as it is written.
-- Assumes nothing.
use Rattle.std.proofs.Common.{refl, ap, ◌∙◌}
use Rattle.session_line.specs.Lines.{count_of, unwrapped}
use Rattle.session_line.specs.MissingLaws.{missing_inside, part_long, said_missing}
use Rattle.session_line.proofs.missing_line.Goals as goal

pub missing_shown-shown-requires : goal.missing_shown-shown-requires
missing_shown-shown-requires c =
    missing_inside _ c.requires.valid.0 _ c.requires.valid.1 c.requires.list_len.0 _ refl _
    (c.unwrap_or-n.ensures ∙ unwrapped c.get_hashes.result ∙ ap count_of c.get_hashes.ensures.value) _
    c.get_hashes.ensures.out_after

pub put_missing-requires : goal.put_missing-requires
put_missing-requires c =
    (c.requires.list_len.1, part_long _ c.requires.valid.0 _ c.requires.valid.1 c.requires.list_len.0 _ refl _ (c.unwrap_or-n.ensures ∙ unwrapped c.get_hashes.result ∙ ap count_of c.get_hashes.ensures.value) _ c.get_hashes.ensures.out_after _ c.missing_shown-shown.ensures)

pub returns : goal.returns
returns c =
    said_missing _ c.requires.valid.0 _ c.requires.valid.1 c.requires.list_len.0 _ refl _
    (c.unwrap_or-n.ensures ∙ unwrapped c.get_hashes.result ∙ ap count_of c.get_hashes.ensures.value) _
    c.get_hashes.ensures.out_after _ c.missing_shown-shown.ensures _ _ _ _ c.put_missing.ensures
