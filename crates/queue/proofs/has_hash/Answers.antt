use Rattle.std.proofs.Common.{inl, eq-eqb}
use Rattle.queue.specs.Asked.{asked_hash}
use Rattle.queue.specs.AskedLaws.{known_has}
use Rattle.waiting.specs.ValidLaws.{held}
use Rattle.queue.proofs.has_hash.Goals as goal

pub returns : goal.returns
unfolding asked_hash
returns c = inl (held c.check.ensures c.in_ok-check.was, rw (eq-eqb _ _ c.if-hash-ne32.false, ← known_has _ _ _ _ _, c.is_known.ensures))
