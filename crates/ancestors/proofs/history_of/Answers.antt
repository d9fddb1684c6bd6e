use Rattle.std.proofs.Common.{ℕ, ◌∙◌, arith}
use Rattle.std.proofs.lemmas.List.{length-replicate}
use Rattle.tables.specs.Lent.{lists}
use Rattle.answer_buffer.specs.Room.{room}
use Rattle.list_clock.specs.KnownLaws.{starts_few, starts_low}
use Rattle.ancestors.specs.AncestorLaws.{known_marks}
use Rattle.ancestors.proofs.history_of.Goals as goal

-- The walk starts from the known nodes of the list; unknown ones count for nothing, so the marks are those of the list's history.
pub slice_bounds-mark_history-end : goal.slice_bounds-mark_history-end
slice_bounds-mark_history-end c =
    let few = starts_few _ _ c.starts_of-c.ensures in
    let nodes = (room (lists c.args.tables.now) c.requires.valid).few in
    let kept = c.starts_of-c.ensures.kept in
    let long = length-replicate {A = ℕ} 4096 0 in
    omega arith

pub mark_history-requires : goal.mark_history-requires
mark_history-requires c = record { sound = c.requires.valid.sound; counts_in_bounds = (c.requires.counts_in_bounds, starts_low _ _ c.starts_of-c.ensures) }

pub returns : goal.returns
returns c = c.mark_history.ensures ∙ known_marks (lists c.args.tables.now) c.requires.valid c.args.list.now c.starts_of-c.ensures _
