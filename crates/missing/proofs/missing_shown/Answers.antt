use Rattle.std.proofs.Common.{sym, ◌∙◌, eqb-true}
use Rattle.std.proofs.lemmas.Bool.{eqb-false}
use Rattle.missing.specs.MissingLaws.{shown_table, shown_answer}
use Rattle.missing.proofs.missing_shown.Goals as goal

-- Which of the two is shown is decided by whether the have-list is empty.
pub returns-then-is_empty : goal.returns-then-is_empty
returns-then-is_empty c = sym (shown_table _ _ _ _ (eqb-true _ _ (sym c.is_empty.ensures ∙ c.if-is_empty.true)))

pub returns-else-is_empty : goal.returns-else-is_empty
returns-else-is_empty c = sym (shown_answer _ _ _ _ (eqb-false _ _ (sym c.is_empty.ensures ∙ c.if-is_empty.false)))
