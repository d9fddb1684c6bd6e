-- The word is followed by the hashes.
-- Assumes nothing.
use Rattle.std.proofs.Common.{rules}
use Rattle.paper.specs.Lists.{hashes_from}
use Rattle.paper.specs.Text.{list_text}
use Rattle.reply.specs.SaidLaws.{heads_parts}
use Rattle.reply.proofs.put_heads.Goals as goal

pub put_line-requires-clause-puts : goal.put_line-requires-clause-puts
put_line-requires-clause-puts c = (list_text (hashes_from c.args.list.now c.args.n 0), λ o p r n h. search rules)

pub returns : goal.returns
returns c = rw (heads_parts _).are (c.put_line.ensures (list_text (hashes_from c.args.list.now c.args.n 0)) (λ o p r n h. search rules))
