use Rattle.std.proofs.Common.{get_or, arith}
use Rattle.hash.specs.HashLaws.{hash_part}
use Rattle.load.specs.LoadLaws.{put_start, dep_inside, put_next, put_end}
use Rattle.load.proofs.put_hashes.Goals as goal

pub loop-i-init : goal.loop-i-init
loop-i-init c = put_start _ _ _

pub overflow_mul-p : goal.overflow_mul-p
overflow_mul-p c = omega (arith, dep_inside c.requires.inside c.loop-i.i c.loop-i-test.true)

pub overflow_add-p : goal.overflow_add-p
overflow_add-p c = omega (arith, dep_inside c.requires.inside c.loop-i.i c.loop-i-test.true)

pub slice_bounds-put_bytes-end : goal.slice_bounds-put_bytes-end
slice_bounds-put_bytes-end c = omega (arith, dep_inside c.requires.inside c.loop-i.i c.loop-i-test.true)

pub loop-i-preserved : goal.loop-i-preserved
loop-i-preserved c = put_next c.requires.inside c.requires.deps_in_bounds c.loop-i.invariant c.loop-i-test.true (hash_part c.args.ids.now (get_or c.args.deps.now c.loop-i.i 0)) c.put_bytes.ensures
