-- What the two calls come to, with the closures that they are given.
use Rattle.std.proofs.Common.{rules, ◌≡◌, ◌<◌, arith}
use Rattle.actors.specs.Actors.{lower, narrow}
use Rattle.actors.specs.ActorLaws.{rooms, row_narrowed}
use Rattle.clock.specs.Clock.{removed}
use Rattle.actors.proofs.remove_actor.Goals as goal

pub returns-clause-counts_after : goal.returns-clause-counts_after
returns-clause-counts_after c =
    let nodes = c.renumber.ensures (lower c.args.place) (λ a b r. search rules) in
    let fits = (rooms _ c.requires).actors_fit in
    let width = c.actor_room-w.ensures in
    let low : c.args.place < c.actor_room-w.result = omega arith in
    let clocks =
    c.change_rows.ensures (narrow c.args.place) (λ row left l r. let made : left ≡ removed row c.actor_room-w.result c.args.place = search rules in rw made (row_narrowed row _ _ low l)) in
    rw (nodes, clocks, width)
