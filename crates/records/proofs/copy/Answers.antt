use Rattle.std.proofs.Common.{◌≡◌, ap, ◌∙◌, arith}
use lib.ListN.{length}
use Rattle.list_laws.specs.Over.{part, copy_start, copy_next, copy_length, copy_end}
use Rattle.records.proofs.copy.Goals as goal

pub loop-j-init : goal.loop-j-init
loop-j-init c = copy_start c.args.out.now c.args.at (part c.args.src.now c.args.from c.args.len)

pub bounds-out-at : goal.bounds-out-at
bounds-out-at c =
    let still = ap length c.loop-j.invariant ∙ copy_length _ _ _ _ _ _ c.requires.0 c.requires.1 c.loop-j.auto.j-end in
    omega (arith, still, c.requires.0, c.loop-j-test.true)

pub loop-j-preserved : goal.loop-j-preserved
loop-j-preserved c = rw c.loop-j.invariant (copy_next _ _ _ _ _ _ c.requires.0 c.requires.1 c.loop-j-test.true)

pub shape_of-out : goal.shape_of-out
shape_of-out c = ap length c.loop-j.invariant ∙ copy_length _ _ _ _ _ _ c.requires.0 c.requires.1 c.loop-j.auto.j-end

pub returns : goal.returns
returns c =
    let e : c.loop-j.j ≡ c.args.len = omega arith in
    c.loop-j.invariant ∙ copy_end _ _ _ _ _ _ c.requires.1 e
