use mathlib.Core.Path.{refl, sym, ◌∙◌}
use lib.ListN.{length-set}
use Rattle.graph.specs.PlaceLaws.{unheaded_step, unheaded_end}
use native.Mathlib.Omega.{arith}
use Rattle.graph.proofs.clear_heads.Goals as goal

pub loop-i-init : goal.loop-i-init
loop-i-init c = (refl, refl)

pub offset_bounds-nodes-t : goal.offset_bounds-nodes-t
offset_bounds-nodes-t c = omega (arith, c.requires.by_index c.loop-i.i (omega arith) c.loop-i-test.true, c.loop-i.invariant.0)

pub loop-i-preserved : goal.loop-i-preserved
loop-i-preserved c = let v = c.loop-i.invariant in
    (simp length-set v.0, sym (unheaded_step _ _ _ _ c.loop-i-test.true c.requires.e_le_f.1) ∙ v.1)

pub shape_of-nodes : goal.shape_of-nodes
shape_of-nodes c = c.loop-i.invariant.0

pub returns : goal.returns
returns c = let v = c.loop-i.invariant in sym (unheaded_end c.args.targets.now c.loop-i.nodes c.loop-i.i c.args.f (omega arith)) ∙ v.1
