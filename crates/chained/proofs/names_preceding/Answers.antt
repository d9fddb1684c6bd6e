use Rattle.std.proofs.Common.{sym, ◌∙◌, arith}
use Rattle.walk.specs.MarkLaws.{chain_in}
use Rattle.chained.specs.ChainedLaws.{seeking_next, seeking_found, seeking_less, seeking_end}
use Rattle.chained.proofs.names_preceding.Goals as goal

pub bounds-nexts-e : goal.bounds-nexts-e
bounds-nexts-e c = omega (arith, chain_in _ _ _ _ c.loop-e.invariant.chain (omega arith), c.requires.1)

pub returns-then-is_preceding : goal.returns-then-is_preceding
returns-then-is_preceding c = seeking_found c.loop-e.invariant (omega arith) (sym c.is_preceding.ensures ∙ c.if-is_preceding.true)

pub loop-e-smaller : goal.loop-e-smaller
loop-e-smaller c = seeking_less c.loop-e.invariant (omega arith)

pub loop-e-preserved : goal.loop-e-preserved
loop-e-preserved c = seeking_next c.loop-e.invariant (omega arith) (sym c.is_preceding.ensures ∙ c.if-is_preceding.false)

pub returns : goal.returns
returns c = seeking_end c.loop-e.invariant c.loop-e-test.false
