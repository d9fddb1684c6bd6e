-- The targets are marked in a local table of zeros that has room for every node; the flags by these marks are the flags by the edges.
use Rattle.std.proofs.Common.{sym, ◌∙◌, arith}
use Rattle.list_laws.specs.Iff.{same_answer}
use Rattle.tables.specs.Checks.{Flags, FlagsBy}
use Rattle.tables.specs.CheckLaws.{by_marks}
use Rattle.tables.proofs.heads_right.Goals as goal

pub returns : goal.returns
unfolding Flags FlagsBy
returns c =
    let n = c.requires.n_in_bounds.1 in
    let q = by_marks _ _ _ c.mark_targets.ensures in
    same_answer c.flags_right.ensures (λ f k l. f k l ∙ q k (omega arith)) (λ f k l. f k l ∙ sym (q k (omega arith)))
