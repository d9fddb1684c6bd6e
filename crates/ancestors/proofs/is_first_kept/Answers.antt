use Rattle.std.proofs.Common.{ap, ◌∙◌}
use Rattle.std.specs.Prelude.{not}
use Rattle.hash.specs.HashLaws.{hash_part}
use Rattle.ancestors.specs.AncestorLaws.{first_as_some, first_as_none}
use Rattle.ancestors.proofs.is_first_kept.Goals as goal

-- The search is among the hashes before it.
pub returns-then-is_none : goal.returns-then-is_none
returns-then-is_none c =
    let told = rw hash_part at c.find.ensures in
    c.is_kept.ensures ∙ first_as_none _ _ _ _ _ _ told (c.is_none.ensures ∙ ap not c.if-is_none.true)

pub returns-else-is_none : goal.returns-else-is_none
returns-else-is_none c =
    let told = rw hash_part at c.find.ensures in
    c.if-is_none.false ∙ first_as_some _ _ _ _ _ _ told (c.is_none.ensures ∙ ap not c.if-is_none.false)
