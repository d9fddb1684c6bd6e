use Rattle.std.proofs.Common.{◌∙◌}
use Rattle.hash.specs.HashLaws.{hash_part}
use Rattle.current_heads.specs.CurrentLaws.{one_to_name}
use Rattle.current_heads.proofs.head_named.Goals as goal

pub returns-else-nodes-k-ne1 : goal.returns-else-nodes-k-ne1
returns-else-nodes-k-ne1 c = let s = c.args in (rw hash_part at c.is_listed.ensures) ∙ one_to_name s.hashes.now s.nodes.now s.k c.if-nodes-k-ne1.false s.list.now
