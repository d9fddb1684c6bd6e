use Rattle.std.proofs.Common.{refl, arith, length-take, length-drop}
use Rattle.tables.specs.Tables.{actors}
use Rattle.tables.specs.Lent.{lists}
use Rattle.answer_buffer.specs.Room.{room}
use Rattle.list_clock.specs.ClockLaws.{entries_of}
use Rattle.list_clock.proofs.list_clock.Goals as goal

-- The clock is written to a part of the table that has an entry for each actor.
pub returns : goal.returns
returns c =
    let s = c.args in
    let t = lists s.tables.now in
    let few = (room t c.requires.valid).few_actors in
    let wide = c.requires.in_bounds in
    entries_of t s.list.now s.clock.now (actors t) refl (omega arith) c.clock_into.ensures (simp (length-take, length-drop) (omega arith))
