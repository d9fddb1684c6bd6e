-- The input from its start, by its first line.
-- Assumes nothing.
use Rattle.std.proofs.Common.{sym, ◌∙◌, ⊎_elim}
use Rattle.session.specs.BeginLaws.{begin_open, begin_long, begin_end, begin_line, line_inside}
use Rattle.session.proofs.read_begin.Goals as goal

pub read_first-requires : goal.read_first-requires
read_first-requires c = line_inside _ _ _ _ _ (sym c.in-Whole.ensures)

pub returns-in-Whole : goal.returns-in-Whole
returns-in-Whole c =
    begin_line _ _ _ _ (sym c.in-Whole.ensures) c.read_first.result c.read_first.ensures

pub returns-in-Unended : goal.returns-in-Unended
returns-in-Unended c =
    ⊎_elim
    (λ e. begin_open _ (sym c.line.ensures ∙ e))
    (⊎_elim (λ e. begin_long _ (sym c.line.ensures ∙ e)) (λ e. begin_end _ (sym c.line.ensures ∙ e)))
    c.in-Unended.is
