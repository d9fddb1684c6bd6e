-- The word is followed by the digits.
-- Assumes nothing.
use Rattle.std.proofs.Common.{rules}
use Rattle.paper.specs.Text.{digits_of}
use Rattle.reply.specs.SaidLaws.{add_parts}
use Rattle.reply.proofs.put_add.Goals as goal

pub put_line-requires-clause-puts : goal.put_line-requires-clause-puts
put_line-requires-clause-puts c = (digits_of c.args.number, λ o p r n h. search rules)

pub returns : goal.returns
returns c = rw (add_parts _).are (c.put_line.ensures (digits_of c.args.number) (λ o p r n h. search rules))
