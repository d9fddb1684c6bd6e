-- The word is followed by the entries.
-- Assumes nothing.
use Rattle.std.proofs.Common.{rules}
use Rattle.paper.specs.Text.{clock_text}
use Rattle.reply.specs.SaidLaws.{clock_parts}
use Rattle.reply.proofs.put_clock.Goals as goal

pub put_line-requires-clause-puts : goal.put_line-requires-clause-puts
put_line-requires-clause-puts c = (clock_text c.args.clock.now, λ o p r n h. search rules)

pub returns : goal.returns
returns c = rw (clock_parts _).are (c.put_line.ensures (clock_text c.args.clock.now) (λ o p r n h. search rules))
