-- The number, the length and the buffer of the session make what the program writes.
-- Assumes nothing.
use Rattle.std.proofs.Common.{ℕ, List, get_or, ap, arith}
use Rattle.console.specs.WrittenLaws.{written_none, written_all, written_counts}
use Rattle.console.proofs.respond.Goals as goal

pub returns-then-input-gt65536-clause-answer_after : goal.returns-then-input-gt65536-clause-answer_after
returns-then-input-gt65536-clause-answer_after c =
    written_none 65536 _ c.if-input-gt65536.true

pub returns-clause-prefix_len : goal.returns-clause-prefix_len
returns-clause-prefix_len c =
    written_counts 65536 _ _ _ _ c.requires
    (ap (λ (l : List ℕ). get_or l 0 0) c.cg_session.ensures.told_after)
    c.cg_session.ensures.answer_after c.cg_session.auto.answer

pub returns-clause-answer_after : goal.returns-clause-answer_after
returns-clause-answer_after c =
    written_all 65536 _ _ _ _ c.requires
    (ap (λ (l : List ℕ). get_or l 0 0) c.cg_session.ensures.told_after)
    c.cg_session.ensures.answer_after (omega (arith, c.if-input-gt65536.false))
