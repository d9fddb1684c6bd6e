use Rattle.std.proofs.Common.{sym, ◌∙◌}
use Rattle.paper.proofs.Scans.{all_start, all_next, all_no}
use Rattle.hash.specs.HashLaws.{hash_part}
use Rattle.current_heads.proofs.listed_are_heads.Goals as goal

pub loop-i-init : goal.loop-i-init
loop-i-init c = all_start _ _

-- the call looks at hash i of the list
pub returns-then-not-is_head : goal.returns-then-not-is_head
returns-then-not-is_head c = let told = rw hash_part at c.is_head.ensures in all_no _ _ _ c.loop-i-test.true (sym told ∙ c.if-not-is_head.true)

pub loop-i-preserved : goal.loop-i-preserved
loop-i-preserved c = let told = rw hash_part at c.is_head.ensures in all_next _ _ c.loop-i.invariant c.loop-i-test.true (sym told ∙ c.if-not-is_head.false)
