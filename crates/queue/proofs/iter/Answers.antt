use Rattle.std.proofs.Common.{sym, zero-add, ◌∙◌}
use Rattle.waiting.specs.ValidLaws.{roomy_rooms}
use Rattle.queue.proofs.iter.Goals as goal

pub append-requires-clause-rooms_2 : goal.append-requires-clause-rooms_2
append-requires-clause-rooms_2 c = rw zero-add (roomy_rooms _ _ _ _ (sym c.roomy.ensures ∙ c.if-not-roomy.false))
