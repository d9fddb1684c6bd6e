-- The tables in the paper's words: the graph with its room.
-- Assumes nothing.
use Rattle.paper.specs.Adding.{Hub}
use Rattle.tables.specs.Tables.{Tables, actors, change_room_of, edge_room_of, graph}

abbrev pub hub : Tables → Hub
hub t = record { graph = graph t; actors = actors t; change_room = change_room_of t; edge_room = edge_room_of t }
