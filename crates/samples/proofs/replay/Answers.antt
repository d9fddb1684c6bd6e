-- The room is the hub's, so opening a graph in it leaves valid tables.
use Rattle.samples.specs.RoomLaws.{room_lengths, room_opened}
use Rattle.samples.proofs.replay.Goals as goal

pub open_empty-requires : goal.open_empty-requires
open_empty-requires g c = room_lengths _ c.requires

pub early-requires : goal.early-requires
early-requires g c = let o = c.open_empty in room_opened _ c.requires _ _ o.ensures.value o.ensures.counts_after
