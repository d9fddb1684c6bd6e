-- The line is written at once.
-- Assumes nothing.
use Rattle.reply.specs.SaidLaws.{said_written, no_owner_whole}
use Rattle.reply.proofs.put_no_owner.Goals as goal

pub returns : goal.returns
returns c = rw no_owner_whole (said_written _ _ _ _ _ c.put_bytes.ensures)
