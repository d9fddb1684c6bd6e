-- What `copy_within` left, index by index, and 0 at p.
use Rattle.clock.specs.Moves.{moved_up}
use Rattle.clock.proofs.rewrite_with_new_actor.Goals as goal

pub returns : goal.returns
returns c =
    let m = c.copy_within.ensures.by_index in
    moved_up _ _ _ _ c.copy_within.ensures.len c.requires.0 c.requires.1 m.0 m.1 m.2
