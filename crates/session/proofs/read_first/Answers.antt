-- The first line, and what the next line makes of the rest.
-- Assumes nothing.
use Rattle.std.proofs.Common.{sym, ◌∙◌, ⊎_elim}
use Rattle.session.specs.BeginLaws.{first_bad, then_open, then_long, then_end, then_line, line_inside, second_far}
use Rattle.session.proofs.read_first.Goals as goal

pub returns-then-not-is_header : goal.returns-then-not-is_header
returns-then-not-is_header c = first_bad _ _ _ _ c.requires (sym c.is_header.ensures ∙ c.if-not-is_header.true)

pub read_second-requires : goal.read_second-requires
read_second-requires c = (line_inside _ _ _ _ _ (sym c.in-Whole.ensures), second_far _ _ _ _ c.requires (sym c.is_header.ensures ∙ c.if-not-is_header.false) _ _ _ (sym c.in-Whole.ensures))

pub returns-in-Whole : goal.returns-in-Whole
returns-in-Whole c = then_line _ _ _ _ c.requires (sym c.is_header.ensures ∙ c.if-not-is_header.false) _ _ _ (sym c.in-Whole.ensures) c.read_second.result c.read_second.ensures

pub returns-in-Unended : goal.returns-in-Unended
returns-in-Unended c =
    ⊎_elim
    (λ e. then_open _ _ _ _ c.requires (sym c.is_header.ensures ∙ c.if-not-is_header.false) (sym c.line.ensures ∙ e))
    (⊎_elim (λ e. then_long _ _ _ _ c.requires (sym c.is_header.ensures ∙ c.if-not-is_header.false) (sym c.line.ensures ∙ e)) (λ e. then_end _ _ _ _ c.requires (sym c.is_header.ensures ∙ c.if-not-is_header.false) (sym c.line.ensures ∙ e)))
    c.in-Unended.is
