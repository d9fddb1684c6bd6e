-- The number, the told length and the buffer by whether the answer fits.
-- Assumes nothing.
use Rattle.std.proofs.Common.{sym, ◌∙◌}
use Rattle.session.specs.FinalLaws.{final_done, final_full}
use Rattle.session.proofs.cg_session.Goals as goal

pub returns-then-is_some-clause-value : goal.returns-then-is_some-clause-value
returns-then-is_some-clause-value c = (final_done _ _ _ c.args.told.now _ _ _ c.run-put.ensures c.unwrap_or.ensures c.tell.ensures (sym c.if-is_some.true ∙ c.is_some.ensures)).0

pub returns-then-is_some-clause-told_after : goal.returns-then-is_some-clause-told_after
returns-then-is_some-clause-told_after c = (final_done _ _ _ c.args.told.now _ _ _ c.run-put.ensures c.unwrap_or.ensures c.tell.ensures (sym c.if-is_some.true ∙ c.is_some.ensures)).1.0

pub returns-then-is_some-clause-answer_after : goal.returns-then-is_some-clause-answer_after
returns-then-is_some-clause-answer_after c = (final_done _ _ _ c.args.told.now _ _ _ c.run-put.ensures c.unwrap_or.ensures c.tell.ensures (sym c.if-is_some.true ∙ c.is_some.ensures)).1.1

pub returns-clause-value : goal.returns-clause-value
returns-clause-value c = (final_full _ _ _ c.args.told.now _ _ _ c.run-put.ensures c.unwrap_or.ensures c.tell.ensures (sym c.if-is_some.false ∙ c.is_some.ensures) _ c.zero_all.ensures).0

pub returns-clause-told_after : goal.returns-clause-told_after
returns-clause-told_after c = (final_full _ _ _ c.args.told.now _ _ _ c.run-put.ensures c.unwrap_or.ensures c.tell.ensures (sym c.if-is_some.false ∙ c.is_some.ensures) _ c.zero_all.ensures).1.0

pub returns-clause-answer_after : goal.returns-clause-answer_after
returns-clause-answer_after c = (final_full _ _ _ c.args.told.now _ _ _ c.run-put.ensures c.unwrap_or.ensures c.tell.ensures (sym c.if-is_some.false ∙ c.is_some.ensures) _ c.zero_all.ensures).1.1
