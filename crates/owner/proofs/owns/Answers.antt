use Rattle.std.proofs.Common.{sym, ◌∙◌}
use borrow.Author.Tests.{lt-leb}
use Rattle.owner.specs.Owns.{not_actor, too_high, by_count}
use Rattle.owner.proofs.owns.Goals as goal

pub returns-then-nodes-k : goal.returns-then-nodes-k
returns-then-nodes-k c = sym (not_actor _ _ _ _ c.if-nodes-k.true)

pub returns-then-counter-max : goal.returns-then-counter-max
returns-then-counter-max c = sym (by_count _ _ _ _ c.if-nodes-k.false c.if-counter-max.true)

pub returns-else-counter-max : goal.returns-else-counter-max
returns-else-counter-max c = lt-leb _ _ c.if-counter-max.false ∙ sym (too_high _ _ _ _ c.if-nodes-k.false c.if-counter-max.false)
