-- Each step of the loop on the two clocks.
use Rattle.std.proofs.Common.{◌<◌, length, sym, arith}
use Rattle.list_laws.specs.Blend.{blend_start}
use Rattle.clock.specs.ClockLaws.{merge_step, merge_end}
use Rattle.clock.proofs.merge.Goals as goal

pub loop-i-init : goal.loop-i-init
loop-i-init c = sym (blend_start _ _)

pub loop-i-preserved : goal.loop-i-preserved
loop-i-preserved c =
    let l : c.loop-i.i < length c.args.a.now = omega arith in
    let step = merge_step _ _ _ _ c.loop-i.invariant l in
    cc

pub returns : goal.returns
returns c = merge_end _ _ _ _ c.loop-i.invariant (omega arith)
