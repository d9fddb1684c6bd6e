use Rattle.std.proofs.Common.{sym, ◌∙◌}
use Rattle.hash.specs.HashLaws.{hash_part}
use Rattle.list_laws.specs.Iff.{no}
use Rattle.waiting.specs.ValidLaws.{apart_next, apart_no_hash, apart_no_actor}
use Rattle.waiting.proofs.apart.Goals as goal

pub returns-then-is_known : goal.returns-then-is_known
returns-then-is_known c = no (apart_no_hash c.loop-i-test.true (sym (rw hash_part at c.is_known.ensures) ∙ c.if-is_known.true))

pub returns-then-has_pair : goal.returns-then-has_pair
returns-then-has_pair c = no (apart_no_actor c.loop-i-test.true (sym c.has_pair.ensures ∙ c.if-has_pair.true))

pub loop-i-preserved : goal.loop-i-preserved
loop-i-preserved c = apart_next c.loop-i.invariant (sym (rw hash_part at c.is_known.ensures) ∙ c.if-is_known.false) (sym c.has_pair.ensures ∙ c.if-has_pair.false)
