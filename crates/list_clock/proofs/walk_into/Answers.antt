use Rattle.std.proofs.Common.{ℕ, ◌∙◌, arith}
use Rattle.std.proofs.lemmas.List.{length-replicate}
use Rattle.tables.specs.Tables.{graph}
use Rattle.tables.specs.Lent.{lists}
use Rattle.tables.specs.DepsLaws.{valid_graph}
use Rattle.answer_buffer.specs.Room.{room}
use Rattle.list_clock.specs.KnownLaws.{starts_few, starts_low, starts_clock}
use Rattle.list_clock.proofs.walk_into.Goals as goal

-- The walk starts from the known nodes of the list; unknown ones count for nothing, so its clock is the list's.
pub slice_bounds-clock_of-end : goal.slice_bounds-clock_of-end
slice_bounds-clock_of-end c =
    let few = starts_few _ _ c.starts_of-c.ensures in
    let nodes = (room (lists c.args.tables.now) c.requires.valid).few in
    let kept = c.starts_of-c.ensures.kept in
    let long = length-replicate {A = ℕ} 4096 0 in
    omega arith

pub clock_of-requires : goal.clock_of-requires
clock_of-requires c = record {
  valid = c.requires.valid;
  asked = record { known = starts_low _ _ c.starts_of-c.ensures; enough = c.requires.counts_in_bounds.0; narrow = c.requires.counts_in_bounds.1 };
}

pub returns : goal.returns
returns c = let t = lists c.args.tables.now in
    c.clock_of.ensures ∙ starts_clock (graph t) (valid_graph t c.requires.valid.sound) c.args.list.now c.starts_of-c.ensures _
