use Prim.Native.Nat.{◌-◌}
use mathlib.Core.Path.{refl}
use lib.ListN.{length}
use Rattle.list_laws.specs.Paste.{pasted_start, pasted_next, pasted_end}
use native.Mathlib.Omega.{arith}
use Rattle.graph.proofs.put_bytes.Goals as goal

pub loop-j-init : goal.loop-j-init
loop-j-init c = pasted_start _ _ _

pub loop-j-preserved : goal.loop-j-preserved
loop-j-preserved c = pasted_next c.loop-j.invariant _ (omega arith) c.loop-j-test.true refl

pub shape_of-out : goal.shape_of-out
shape_of-out c = c.loop-j.invariant.long

pub returns : goal.returns
returns c = pasted_end c.loop-j.invariant (length c.args.bytes.now) (omega arith)
