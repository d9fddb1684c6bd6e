use Prim.Native.Nat.{◌/◌}
use mathlib.Core.Path.{sym, ◌∙◌}
use lib.ListN.{length}
use Rattle.hash.specs.HashLaws.{hash_part}
use Rattle.list_laws.specs.Paste.{pasted_start, pasted_next, pasted_end}
use Rattle.graph.specs.PlaceLaws.{found_low, none_missing, nodes_long, nodes_found}
use native.Mathlib.Omega.{arith}
use Rattle.graph.proofs.put_targets.Goals as goal

pub loop-i-init : goal.loop-i-init
loop-i-init c = pasted_start _ _ _

pub shape_of-targets-in_default : goal.shape_of-targets-in_default
shape_of-targets-in_default c = c.loop-i.invariant.long

pub returns-in_default : goal.returns-in_default
returns-in_default c = absurd (none_missing _ _ _ c.requires.deps_value _ c.loop-i-test.true (sym (rw hash_part at c.find.ensures) ∙ c.in_default.is))

pub loop-i-preserved : goal.loop-i-preserved
loop-i-preserved c =
    let b = c.requires.n_in_bounds.2 in
    let found = sym (rw hash_part at c.find.ensures) ∙ c.in-Some.is in
    pasted_next c.loop-i.invariant _ (omega arith) (rw (nodes_long c.args.hashes.now c.args.n c.args.deps.now (length c.args.deps.now / 32) 0) c.loop-i-test.true) (nodes_found _ _ _ _ _ c.loop-i-test.true found)

pub overflow_cast-targets : goal.overflow_cast-targets
overflow_cast-targets c =
    let b = found_low _ _ _ _ (sym (rw hash_part at c.find.ensures) ∙ c.in-Some.is) in
    let n = c.requires.n_in_bounds.1 in
    omega arith

pub shape_of-targets : goal.shape_of-targets
shape_of-targets c = c.loop-i.invariant.long

pub returns : goal.returns
returns c = pasted_end c.loop-i.invariant (length c.args.deps.now / 32) (omega arith)
