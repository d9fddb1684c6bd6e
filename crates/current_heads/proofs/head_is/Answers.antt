use Rattle.std.proofs.Common.{◌∙◌}
use Rattle.hash.specs.Hash.{same_hash}
use Rattle.current_heads.specs.CurrentLaws.{head_hash}
use Rattle.current_heads.proofs.head_is.Goals as goal

pub returns-then-nodes-k-eq1 : goal.returns-then-nodes-k-eq1
unfolding same_hash
returns-then-nodes-k-eq1 c = let s = c.args in c.same_at.ensures ∙ head_hash s.hashes.now s.nodes.now s.k c.if-nodes-k-eq1.true s.hash.now
