use Rattle.std.proofs.Common.{sym, ◌∙◌}
use native.Mathlib.Nat.{sub-zero}
use Rattle.hash.specs.Hash.{first_unknown}
use Rattle.hash.specs.HashLaws.{hash_part}
use Rattle.hash.specs.Unknown.{unknown_step, unknown_hit, unknown_end}
use Rattle.hash.proofs.first_unknown.Goals as goal

pub loop-i-init : goal.loop-i-init
unfolding first_unknown
loop-i-init c = rw sub-zero

pub returns-in_default : goal.returns-in_default
returns-in_default c =
    let none = rw hash_part at (sym c.find.ensures ∙ c.in_default.is) in
    sym (unknown_hit _ _ _ _ _ c.loop-i-test.true none) ∙ c.loop-i.invariant

pub loop-i-preserved : goal.loop-i-preserved
loop-i-preserved c =
    let some = rw hash_part at (sym c.find.ensures ∙ c.in-Some.is) in
    sym (unknown_step _ _ _ _ _ c.loop-i-test.true _ some) ∙ c.loop-i.invariant

pub returns : goal.returns
returns c = sym (unknown_end _ _ _ _ _ c.loop-i-test.false) ∙ c.loop-i.invariant
