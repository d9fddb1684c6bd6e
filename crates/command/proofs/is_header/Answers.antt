-- One call: the line is compared byte for byte with the paper's first line. Assumes nothing.
use Rattle.paper.specs.Bytes.{bytes}
use Rattle.paper.specs.Command.{header}
use Rattle.command.proofs.is_header.Goals as goal

pub returns : goal.returns
unfolding bytes header
returns c = c.same_bytes.ensures
