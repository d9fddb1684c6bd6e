-- `==` tests the bytes in order. Assumes nothing.
use Rattle.std.proofs.Common.{sym, ◌∙◌}
use Rattle.text.specs.PartsLaws.{same_is}
use Rattle.text.proofs.same_bytes.Goals as goal

pub returns : goal.returns
returns c = c.eq.ensures ∙ sym (same_is c.args.a.now c.args.b.now)
