-- What `copy_within` left, index by index, and 0 at the place that fell free.
use Rattle.clock.specs.Moves.{moved_down}
use Rattle.clock.proofs.remove_actor.Goals as goal

pub returns : goal.returns
returns c =
    let m = c.copy_within.ensures.by_index in
    moved_down _ _ _ _ c.copy_within.ensures.len c.requires.0 c.requires.1 m.0 m.1 m.2
