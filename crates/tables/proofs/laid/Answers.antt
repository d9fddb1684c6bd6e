use Prim.Native.Nat.{◌+◌, ◌-◌, ◌*◌}
use mathlib.Core.Logic.{⊎_elim}
use Rattle.tables.specs.LaidLaws.{laid_start, laid_bare, laid_some, laid_fails, laid_long, laid_ends}
use native.Mathlib.Omega.{arith}
use Rattle.tables.proofs.laid.Goals as goal

pub loop-k-init : goal.loop-k-init
loop-k-init c = laid_start _ _ _ _ _

pub returns-then-f-c : goal.returns-then-f-c
returns-then-f-c c = laid_fails c.loop-k.invariant c.loop-k-test.true (⊎_elim c.if-f-ne0.true (λ t. c.if-f-c.true t.0))

pub returns-in_default : goal.returns-in_default
returns-in_default c = laid_fails c.loop-k.invariant c.loop-k-test.true (⊎_elim c.if-f-ne0.true (λ t. (rw c.in_default.is at c.run_end.ensures) t.1.0 t.1.2 t.1.1))

pub returns-then-c-d : goal.returns-then-c-d
returns-then-c-d c = laid_long c.loop-k.invariant c.loop-k-test.true _ (rw c.in-Some.is at c.run_end.ensures) c.if-c-d.true c.if-f-ne0.true

pub loop-k-preserved : goal.loop-k-preserved
loop-k-preserved c = let v = c.loop-k.invariant in
    let h = c.loop-k-test.true in
    ⊎_elim
    (λ w. rw w.c-is (laid_some v h w.if-f-c.false _ (rw w.in-Some.is at w.run_end.ensures) w.if-c-d.false))
    (λ w. rw w.c-is (laid_bare v h w.if-f-ne0.false)) c.if-f-ne0.branch-raw

pub returns : goal.returns
returns c = laid_ends c.loop-k.invariant c.loop-k-test.false
