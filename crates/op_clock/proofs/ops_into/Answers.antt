use Rattle.std.proofs.Common.{ℕ, List, ◌<◌, length, arith}
use Rattle.tables.specs.Tables.{actor_at}
use Rattle.op_clock.specs.OpClocks.{Placed}
use Rattle.op_clock.specs.OpClockLaws.{Passing, passing_start, passing_hit, passing_skip, passing_end}
use Rattle.op_clock.proofs.ops_into.Goals.{then-nodes-k, else-nodes-k}
use Rattle.op_clock.proofs.ops_into.Goals as goal

-- the actor of node k has an entry in the clock, and in the buffer
module _ {ns clock : List ℕ} {n w k : ℕ} (p : Placed ns n clock w) (l : k < n) where
  in_clock : actor_at ns k < length clock
  in_clock = let a = p.actors k l in let b = p.wide in omega arith

  in_out : {out : List ℕ} → Passing ns clock n w out k → actor_at ns k < length out
  in_out h = let a = p.actors k l in let b = h.long in omega arith

pub loop-k-init : goal.loop-k-init
loop-k-init c = passing_start _ _ _ _ _ c.clear.ensures

pub offset_bounds-clock-a : goal.offset_bounds-clock-a
offset_bounds-clock-a c = omega (arith, in_clock c.requires c.loop-k-test.true)

pub bounds-clock-a : goal.bounds-clock-a
bounds-clock-a c = in_clock c.requires c.loop-k-test.true

pub offset_bounds-out-a : goal.offset_bounds-out-a
offset_bounds-out-a c = omega (arith, in_out c.requires c.loop-k-test.true c.loop-k.invariant)

pub bounds-out-a : goal.bounds-out-a
bounds-out-a c = in_out c.requires c.loop-k-test.true c.loop-k.invariant

pub loop-k-preserved : goal.loop-k-preserved
loop-k-preserved c =
    let l = c.loop-k-test.true in
    elim c.if-nodes-k.branch [
      | then-nodes-k w ↦ rw w.out-is (passing_hit c.loop-k.invariant l (c.requires.actors c.loop-k.k l) w.if-nodes-k.true)
      | else-nodes-k w ↦ rw w.out-is (passing_skip c.loop-k.invariant l w.if-nodes-k.false)
    ]

pub returns : goal.returns
returns c = passing_end c.loop-k.invariant (omega (arith, c.loop-k-test.false))
