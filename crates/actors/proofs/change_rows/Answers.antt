-- Each row is lent, and put back changed.
use Rattle.std.proofs.Common.{◌≡◌, ◌*◌, ◌+◌, ◌≤◌, length, refl, sym, arith}
use Rattle.actors.specs.ActorLaws.{row_room, lent_long, rows_none, rows_back}
use Rattle.actors.proofs.change_rows.Goals as goal

pub loop-k-init : goal.loop-k-init
loop-k-init g c = λ s law. sym (rows_none s _ _)

pub loop-k-preserved : goal.loop-k-preserved
loop-k-preserved g c =
    let low = row_room c.loop-k.k c.args.n c.args.w (length c.args.clocks.now) c.loop-k-test.true c.requires.n_in_bounds in
    let fits : c.loop-k.k * c.args.w + c.args.w ≤ length c.loop-k.clocks = omega arith in
    λ s law. rows_back s c.args.w c.loop-k.k _ _ _ (c.loop-k.invariant s law) fits
    (law _ _ (lent_long _ _ _ fits) (record { shown = _; shows = refl; left = _; met = c.change.ensures; leaves = refl }))

pub returns : goal.returns
returns g c =
    let e : c.loop-k.k ≡ c.args.n = omega arith in
    λ s law. rw (← e) (c.loop-k.invariant s law)
