use Prim.Native.Nat.{◌-◌}
use mathlib.Core.Logic.{⊎_elim}
use native.Mathlib.Omega.{arith}
use Rattle.tables.specs.LaidLaws.{from_start, from_more, end_here, end_none, end_out}
use Rattle.tables.proofs.run_end.Goals as goal

pub loop-i-init : goal.loop-i-init
loop-i-init c = from_start _ _ _ _

pub returns-then-k-targets : goal.returns-then-k-targets
returns-then-k-targets c = end_none c.loop-i.invariant _ (λ h q. let t = c.if-k-targets.true in omega arith)

pub returns-then-x-eq0 : goal.returns-then-x-eq0
returns-then-x-eq0 c = end_here c.loop-i.invariant _ c.loop-i-test.true c.if-k-targets.false c.if-x-eq0.true

pub returns-then-x-i : goal.returns-then-x-i
returns-then-x-i c = end_none c.loop-i.invariant _ (λ h. ⊎_elim c.if-x-eq0.false c.if-x-i.true)

pub loop-i-preserved : goal.loop-i-preserved
loop-i-preserved c = from_more c.loop-i.invariant c.if-k-targets.false c.if-x-i.false

pub returns : goal.returns
returns c = end_out c.loop-i.invariant _ c.loop-i-test.false
