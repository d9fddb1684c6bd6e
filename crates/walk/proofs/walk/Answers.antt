use Rattle.std.proofs.Common.{suc, ◌≡◌, ◌-◌, arith}
use Rattle.tables.specs.Lent.{lists}
use Rattle.walk.specs.WalkLaws.{walking_skip, walking_kept, walking_plain, walking_stop, walking_end}
use Rattle.walk.proofs.walk.Goals.{else-not-kept-via-then-not-kept+else-limit-visited, else-not-kept-via-else-not-kept}
use Rattle.walk.proofs.walk.Goals as goal

pub loop-k-preserved-else-not-kept : goal.loop-k-preserved-else-not-kept
loop-k-preserved-else-not-kept c =
    let t = lists c.args.tables.now in
    let s = c.requires.walkable.sound in
    let below : c.loop-k.k ≡ suc (c.loop-k.k - 1) = omega arith in
    elim c.else-not-kept.branch [
      | else-not-kept-via-then-not-kept+else-limit-visited w ↦
          walking_plain t _ _ _ _ _ _ s _ _ below c.loop-k.invariant (omega arith) _ _ _ c.visit-kept.ensures (omega arith) w.if-not-kept.true (omega (arith, w.if-limit-visited.false))
      | else-not-kept-via-else-not-kept w ↦
          walking_kept t _ _ _ _ _ _ s _ _ below c.loop-k.invariant (omega arith) _ _ _ c.visit-kept.ensures (omega arith) w.if-not-kept.false
    ]

pub loop-k-preserved : goal.loop-k-preserved
loop-k-preserved c =
    walking_skip (lists c.args.tables.now) _ _ _ _ _ _ c.requires.walkable.sound _ _ (omega arith) c.loop-k.invariant c.if-marks-k-ne0.false

pub returns-after-loop-k : goal.returns-after-loop-k
returns-after-loop-k c = walking_end (lists c.args.tables.now) _ _ _ _ _ _ c.requires.walkable.sound c.loop-k.invariant (omega arith)

pub returns-then-limit-visited : goal.returns-then-limit-visited
returns-then-limit-visited c =
    walking_stop (lists c.args.tables.now) _ _ _ _ _ _ c.requires.walkable.sound _ _ (omega arith) c.loop-k.invariant (omega arith) _ _ _ c.visit-kept.ensures (omega arith) c.if-not-kept.true (omega arith)
