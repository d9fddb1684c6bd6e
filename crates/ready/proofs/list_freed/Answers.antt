use Rattle.std.proofs.Common.{ℕ, ◌-◌, ap, ◌∙◌, arith, get_or}
use Rattle.ready.specs.Open.{hits_of, last_hit}
use Rattle.ready.specs.PassLaws.{passed_start, passed_here, passed_room, passed_next}
use Rattle.ready.proofs.list_freed.Goals as goal

pub loop-i-init : goal.loop-i-init
loop-i-init c = passed_start _ _ _ _

pub hits-hit-requires-clause-first_bound : goal.hits-hit-requires-clause-first_bound
unfolding hits_of
hits-hit-requires-clause-first_bound c = rw (passed_here c.loop-i.invariant) (c.requires.enough c.loop-i.i c.loop-i-test.true)

pub overflow_sub-left : goal.overflow_sub-left
unfolding hits_of
overflow_sub-left c = rw (passed_here c.loop-i.invariant, c.hits-hit.ensures) (c.requires.enough c.loop-i.i c.loop-i-test.true)

pub put_if-listed-requires : goal.put_if-listed-requires
unfolding hits_of
put_if-listed-requires c =
    rw (c.is_last.ensures ∙ ap (last_hit (get_or c.loop-i.left c.loop-i.i 0)) c.hits-hit.ensures) (passed_room c.loop-i.invariant _ c.loop-i-test.true c.requires.room)

pub loop-i-preserved : goal.loop-i-preserved
unfolding hits_of
loop-i-preserved c =
    let last = c.is_last.ensures ∙ ap (last_hit (get_or c.loop-i.left c.loop-i.i 0)) c.hits-hit.ensures in
    passed_next c.loop-i.invariant (omega (arith, c.loop-i.invariant.left_length)) (ap (λ (x : ℕ). get_or c.loop-i.left c.loop-i.i 0 - x) c.hits-hit.ensures)
    (rw last at c.put_if-listed.ensures.value.0)
    c.put_if-listed.ensures.value.1
    (rw last at c.put_if-listed.ensures.order_after)
