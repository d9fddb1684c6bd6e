-- No field, `-`, no list, or a list: one law for each. A field that is found lies within the bytes. Assumes nothing.
use Rattle.std.proofs.Common.{sym, ◌∙◌}
use Rattle.text.specs.CursorLaws.{field_found, list_out, list_dash, list_not, list_found}
use Rattle.text.proofs.Cursor.list.Goals as goal

pub returns-in_err-f : goal.returns-in_err-f
returns-in_err-f c = c.from_residual.ensures ∙ list_out _ _ (sym c.in_err-f.ensures)

pub bytes-bytes-requires : goal.bytes-bytes-requires
bytes-bytes-requires c = let f = field_found _ _ _ (sym c.in_ok-f.ensures) in (f.ordered, f.within)

pub returns-then-same_bytes : goal.returns-then-same_bytes
returns-then-same_bytes c = list_dash _ _ _ (sym c.in_ok-f.ensures) (rw c.bytes-bytes.ensures at (sym c.same_bytes.ensures ∙ c.if-same_bytes.true))

pub returns-in_err-count : goal.returns-in_err-count
returns-in_err-count c =
    c.from_residual-in_err-count.ensures
    ∙ list_not _ _ _ (sym c.in_ok-f.ensures)
    (rw c.bytes-bytes.ensures at (sym c.same_bytes.ensures ∙ c.if-same_bytes.false))
    (rw c.bytes-bytes.ensures at (sym c.in_err-count.ensures))

pub returns-in_ok-count : goal.returns-in_ok-count
returns-in_ok-count c =
    list_found _ _ _ (sym c.in_ok-f.ensures)
    (rw c.bytes-bytes.ensures at (sym c.same_bytes.ensures ∙ c.if-same_bytes.false)) _
    (rw c.bytes-bytes.ensures at (sym c.in_ok-count.ensures))
