use Prim.Native.Nat.{◌-◌}
use mathlib.Core.Path.{◌≡◌, sym, ◌∙◌}
use Rattle.list_laws.specs.Iff.{below_start, below_next, below_end, below_no}
use Rattle.tables.specs.Valid.{HashesDistinct}
use Rattle.tables.specs.CheckLaws.{Fresh, fresh, stale}
use Rattle.paper.specs.Lists.{hash_at}
use Rattle.hash.specs.Hash.{find_hash}
use Rattle.hash.specs.HashLaws.{hash_part}
use Rattle.tables.proofs.distinct.Goals as goal

pub loop-j-init : goal.loop-j-init
loop-j-init c = below_start _

pub returns-in_default : goal.returns-in_default
unfolding HashesDistinct
returns-in_default c = below_no (Fresh c.args.hashes.now) _ _ c.loop-j-test.true (stale _ _ _ (sym (rw hash_part at c.find.ensures) ∙ c.in_default.is))

pub loop-j-preserved : goal.loop-j-preserved
loop-j-preserved c = below_next c.loop-j.invariant (fresh _ _ (sym (rw hash_part at c.find.ensures) ∙ c.in-None.is))

pub returns : goal.returns
unfolding HashesDistinct
returns c = below_end _ c.loop-j.invariant c.loop-j-test.false
