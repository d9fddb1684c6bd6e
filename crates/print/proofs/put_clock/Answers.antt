-- What does not fit is not written. The last entry is written past the loop, without a comma. Assumes nothing.
use Rattle.std.proofs.Common.{◌≡◌, ◌-◌, ◌<◌, ◌≤◌, ℕ, suc, List, length, take, get_or, ◌∙◌, arith, get_or-take, length-take-le}
use Rattle.print.specs.PrintLaws.{put_full}
use Rattle.print.specs.ClockLaws.{clocking_start, clocking_room, clocking_last, clocking_next, clocking_end}
use Rattle.print.proofs.put_clock.Goals as goal

-- an entry that is not the last
record Inner (clock : List ℕ) (k r : ℕ) : Type 0 where
  is : r ≡ get_or clock k 0
  more : suc k < length clock

inner : (clock : List ℕ) (k r : ℕ) → k < length (take (length clock - 1) clock) → r ≡ get_or (take (length clock - 1) clock) k 0 → Inner clock k r
inner clock k r l e =
    let n : length (take (length clock - 1) clock) ≡ length clock - 1 = length-take-le _ clock (omega arith) in
    record { is = e ∙ get_or-take _ clock k 0 (omega arith); more = omega arith }

-- past the loop the last entry is left
last_left : (clock : List ℕ) (k : ℕ) → 0 < length clock → k ≤ length (take (length clock - 1) clock) → length (take (length clock - 1) clock) ≤ k → k ≡ length clock - 1
last_left clock k p l m =
    let n : length (take (length clock - 1) clock) ≡ length clock - 1 = length-take-le _ clock (omega arith) in
    omega arith

pub returns-then-out-at : goal.returns-then-out-at
returns-then-out-at c = put_full _ _ _ (omega (arith, c.clock_length.ensures))

pub loop-v-init : goal.loop-v-init
loop-v-init c = clocking_start _ _ _ (omega (arith, c.clock_length.ensures)) c.requires.clock_nonzero.0

pub put_digits-q-requires : goal.put_digits-q-requires
put_digits-q-requires c =
    let i = inner c.args.clock.now _ _ c.loop-v-test.true c.from.ensures in
    let g = clocking_room _ _ _ (omega (arith, c.clock_length.ensures)) _ _ _ c.loop-v.invariant i.more in
    rw i.is (omega arith)

pub bounds-out-q : goal.bounds-out-q
bounds-out-q c =
    let i = inner c.args.clock.now _ _ c.loop-v-test.true c.from.ensures in
    let g = clocking_room _ _ _ (omega (arith, c.clock_length.ensures)) _ _ _ c.loop-v.invariant i.more in
    let v = rw i.is at c.put_digits-q.ensures.value in
    omega arith

pub overflow_add-p : goal.overflow_add-p
overflow_add-p c =
    let i = inner c.args.clock.now _ _ c.loop-v-test.true c.from.ensures in
    let g = clocking_room _ _ _ (omega (arith, c.clock_length.ensures)) _ _ _ c.loop-v.invariant i.more in
    let v = rw i.is at c.put_digits-q.ensures.value in
    omega arith

pub loop-v-preserved : goal.loop-v-preserved
loop-v-preserved c =
    let i = inner c.args.clock.now _ _ c.loop-v-test.true c.from.ensures in
    clocking_next _ _ _ (omega (arith, c.clock_length.ensures)) _ _ _ c.loop-v.invariant i.more _ (rw i.is at c.put_digits-q.ensures.out_after) _ (rw i.is at c.put_digits-q.ensures.value)

pub put_digits-requires : goal.put_digits-requires
put_digits-requires c =
    let e = last_left c.args.clock.now _ c.requires.clock_nonzero.0 c.loop-v.auto.v-index-end c.loop-v-test.false in
    let g = clocking_last _ _ _ (omega (arith, c.clock_length.ensures)) _ _ _ (rw e at c.loop-v.invariant) (omega arith) in
    rw c.from-2.ensures g

pub returns : goal.returns
returns c =
    let e = last_left c.args.clock.now _ c.requires.clock_nonzero.0 c.loop-v.auto.v-index-end c.loop-v-test.false in
    clocking_end _ _ _ (omega (arith, c.clock_length.ensures)) _ _ _ (rw e at c.loop-v.invariant) (omega arith) _
    (rw c.from-2.ensures at c.put_digits.ensures.out_after) _ (rw c.from-2.ensures at c.put_digits.ensures.value)
