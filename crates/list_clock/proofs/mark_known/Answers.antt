use Rattle.std.proofs.Common.{◌≡◌, ◌/◌, length, sym, ◌∙◌, arith}
use Rattle.hash.specs.HashLaws.{hash_part}
use Rattle.tables.specs.Lent.{lists}
use Rattle.tables.specs.NodeLaws.{node_at, node_low, node_none}
use Rattle.list_clock.specs.KnownLaws.{marks_start, marks_found, marks_unknown}
use Rattle.list_clock.proofs.mark_known.Goals.{in-Some, in_default}
use Rattle.list_clock.proofs.mark_known.Goals as goal

pub loop-i-init : goal.loop-i-init
loop-i-init c = marks_start _ _ _

pub bounds-marks-k : goal.bounds-marks-k
bounds-marks-k c =
    let e = rw hash_part at c.find.ensures in
    let low = node_low (lists c.args.tables.now) _ _ (sym e ∙ c.in-Some.is) in
    let same = c.loop-i.invariant.long in
    let room = c.requires.counts_in_bounds in
    omega arith

pub loop-i-preserved : goal.loop-i-preserved
loop-i-preserved c =
    let t = lists c.args.tables.now in
    let told = rw hash_part at c.find.ensures in
    elim c.match-find.branch [
      | in-Some w ↦
          rw w.marks-is
          (let e = sym told ∙ w.in-Some.is in
          let low = node_low t _ _ e in
          marks_found c.loop-i.invariant _ (node_at t _ _ e) low (let b = c.requires.counts_in_bounds in omega arith))
      | in_default w ↦ rw w.marks-is (marks_unknown c.loop-i.invariant (node_none t _ (sym told ∙ w.in_default.is)))
    ]

pub returns : goal.returns
returns c = let e : c.loop-i.i ≡ length c.args.list.now / 32 = omega arith in rw (← e) c.loop-i.invariant
