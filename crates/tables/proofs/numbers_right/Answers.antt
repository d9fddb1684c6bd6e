use Prim.Native.Nat.{◌-◌, ◌*◌}
use Rattle.list_laws.specs.Iff.{below_start, below_next, below_end, below_no}
use Rattle.tables.specs.Valid.{Numbers}
use native.Mathlib.Omega.{arith}
use Rattle.tables.proofs.numbers_right.Goals as goal

pub loop-k-init : goal.loop-k-init
loop-k-init c = below_start _

pub returns-then-w-a : goal.returns-then-w-a
unfolding Numbers
returns-then-w-a c = below_no _ _ _ c.loop-k-test.true (λ p. let h = p.actor_low in omega arith)

pub returns-then-nodes-k : goal.returns-then-nodes-k
unfolding Numbers
returns-then-nodes-k c = below_no _ _ _ c.loop-k-test.true (λ p. let h = p.ops_low in omega arith)

pub loop-k-preserved : goal.loop-k-preserved
loop-k-preserved c = below_next c.loop-k.invariant (record { actor_low = c.if-w-a.false; ops_low = c.if-nodes-k.false })

pub returns : goal.returns
unfolding Numbers
returns c = below_end _ c.loop-k.invariant c.loop-k-test.false
