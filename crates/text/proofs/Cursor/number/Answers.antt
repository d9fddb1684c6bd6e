-- No field, a number, or another field: one law for each. A field that is found lies within the bytes. Assumes nothing.
use Rattle.std.proofs.Common.{sym, ◌∙◌}
use Rattle.text.specs.CursorLaws.{field_found, number_out, number_value, number_not}
use Rattle.text.proofs.Cursor.number.Goals as goal

pub returns-in_err-f : goal.returns-in_err-f
returns-in_err-f c = c.from_residual.ensures ∙ number_out _ _ (sym c.in_err-f.ensures)

pub bytes-requires : goal.bytes-requires
bytes-requires c = let f = field_found _ _ _ (sym c.in_ok-f.ensures) in (f.ordered, f.within)

pub returns-in_err-v : goal.returns-in_err-v
returns-in_err-v c = c.from_residual-in_err-v.ensures ∙ number_not _ _ _ (sym c.in_ok-f.ensures) (rw c.bytes.ensures at (sym c.in_err-v.ensures))

pub returns : goal.returns
returns c = number_value _ _ _ (sym c.in_ok-f.ensures) _ (rw c.bytes.ensures at (sym c.in_ok-v.ensures))
