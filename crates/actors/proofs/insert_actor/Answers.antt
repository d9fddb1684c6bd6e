-- What the two calls come to, with the closures that they are given.
use Rattle.std.proofs.Common.{rules, ◌≡◌, ◌-◌, ◌<◌, arith}
use Rattle.actors.specs.Actors.{widen}
use Rattle.clock.specs.Clock.{raised, inserted}
use Rattle.actors.specs.ActorLaws.{rooms, row_widened}
use Rattle.actors.proofs.insert_actor.Goals as goal

pub renumber-requires-clause-callable : goal.renumber-requires-clause-callable
renumber-requires-clause-callable c = λ k l. let low = (rooms _ c.requires).actors_low k l in search rules

pub returns-clause-counts_after : goal.returns-clause-counts_after
returns-clause-counts_after c =
    let nodes = c.renumber.ensures (raised c.args.place) (λ a b r. search rules) in
    let low : c.args.place < c.actor_room-w.result = omega arith in
    let clocks = c.change_rows.ensures (widen c.args.place) (λ row left l r. let made : left ≡ inserted row (c.actor_room-w.result - 1) c.args.place = search rules in rw made (row_widened row _ _ low l)) in
    let width = c.actor_room-w.ensures in
    rw (nodes, clocks, width)
