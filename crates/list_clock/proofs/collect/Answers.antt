use Rattle.std.proofs.Common.{◌≡◌, ◌≤◌, ◌<◌, length, ap, arith, lt-ltb, le-ltb}
use Rattle.paper.specs.Lists.{tally, pick}
use Rattle.paper.proofs.Count.{tally_most}
use Rattle.walk.specs.Marks.{marked}
use Rattle.answer_buffer.specs.AnswerLaws.{holds_start, holds_as}
use Rattle.answer_buffer.specs.Picking.{pick_room, pick_put, pick_pass}
use Rattle.list_clock.proofs.collect.Goals.{then-marks-k-gt0, else-marks-k-gt0}
use Rattle.list_clock.proofs.collect.Goals as goal

-- there is room for one more
one : (c : goal.Then-marks-k-gt0) → c.loop-k.c < length c.loop-k.out
one c =
    let most = tally_most (marked c.args.marks.now) c.args.n in
    pick_room (marked c.args.marks.now) _ c.loop-k.invariant (let p = c.requires in omega arith) c.loop-k-test.true (lt-ltb _ _ c.if-marks-k-gt0.true)

pub loop-k-init : goal.loop-k-init
unfolding pick
loop-k-init c = holds_start _

pub offset_bounds-out-c : goal.offset_bounds-out-c
offset_bounds-out-c c = omega (arith, one c)

pub bounds-out-c : goal.bounds-out-c
bounds-out-c c = one c

pub overflow_add-c : goal.overflow_add-c
overflow_add-c c = omega (arith, one c)

pub loop-k-preserved : goal.loop-k-preserved
loop-k-preserved c =
    let p = marked c.args.marks.now in
    let most = tally_most p c.args.n in
    let room : tally p c.args.n ≤ length c.args.out.now = (let r = c.requires in omega arith) in
    elim c.if-marks-k-gt0.branch [
      | then-marks-k-gt0 w ↦ rw (w.out-is, w.c-is) (pick_put p _ c.loop-k.invariant room c.loop-k-test.true (lt-ltb _ _ w.if-marks-k-gt0.true))
      | else-marks-k-gt0 w ↦ rw (w.out-is, w.c-is) (pick_pass p c.args.n c.loop-k.invariant (le-ltb _ _ w.if-marks-k-gt0.false))
    ]

pub returns : goal.returns
returns c = let e : c.loop-k.k ≡ c.args.n = omega arith in holds_as c.loop-k.invariant _ (ap (pick (marked c.args.marks.now)) e)
