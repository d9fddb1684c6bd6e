use Rattle.std.proofs.Common.{sym, ◌∙◌}
use native.Mathlib.Nat.{sub-zero}
use Rattle.hash.specs.Hash.{find_hash}
use Rattle.hash.specs.HashLaws.{find_step, find_hit, find_end}
use Rattle.hash.proofs.find.Goals as goal

pub loop-k-init : goal.loop-k-init
unfolding find_hash
loop-k-init c = rw sub-zero

pub returns-then-same_at : goal.returns-then-same_at
returns-then-same_at c = sym (find_hit _ _ _ _ c.loop-k-test.true (sym c.same_at.ensures ∙ c.if-same_at.true)) ∙ c.loop-k.invariant

pub loop-k-preserved : goal.loop-k-preserved
loop-k-preserved c = sym (find_step _ _ _ _ c.loop-k-test.true (sym c.same_at.ensures ∙ c.if-same_at.false)) ∙ c.loop-k.invariant

pub returns : goal.returns
returns c = sym (find_end _ _ _ _ c.loop-k-test.false) ∙ c.loop-k.invariant
