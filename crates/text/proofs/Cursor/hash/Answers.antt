-- No field, a hash, or another field: one law for each. A field that is found lies within the bytes. Assumes nothing.
use Rattle.std.proofs.Common.{sym, ◌∙◌}
use Rattle.text.specs.CursorLaws.{field_found, hash_out, hash_tested}
use Rattle.text.proofs.Cursor.hash.Goals as goal

pub returns-in_err-f : goal.returns-in_err-f
returns-in_err-f c = c.from_residual.ensures ∙ hash_out _ _ (sym c.in_err-f.ensures)

pub bytes-requires : goal.bytes-requires
bytes-requires c = let f = field_found _ _ _ (sym c.in_ok-f.ensures) in (f.ordered, f.within)

pub returns : goal.returns
returns c =
    c.then_some.ensures ∙ hash_tested _ _ _ (sym c.in_ok-f.ensures) _ (rw c.bytes.ensures at c.is_hash.ensures)
