-- The word and 4 are followed by the hash.
-- Assumes nothing.
use Rattle.std.proofs.Common.{rules}
use Rattle.paper.specs.Text.{hex_of}
use Rattle.reply.specs.SaidLaws.{unknown_parts}
use Rattle.reply.proofs.put_unknown.Goals as goal

pub put_line-requires-clause-puts : goal.put_line-requires-clause-puts
put_line-requires-clause-puts c = (hex_of c.args.hash.now, λ o p r n h. search rules)

pub returns : goal.returns
returns c = rw (unknown_parts _).are (c.put_line.ensures (hex_of c.args.hash.now) (λ o p r n h. search rules))
