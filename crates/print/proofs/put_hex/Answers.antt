-- A byte has two digits. Assumes nothing.
use Rattle.list_laws.specs.Over.{placing_start}
use Rattle.print.specs.HexLaws.{hex_next, hex_end}
use Rattle.print.proofs.put_hex.Goals as goal

pub loop-i-init : goal.loop-i-init
loop-i-init c = placing_start _ _ _

pub loop-i-preserved : goal.loop-i-preserved
loop-i-preserved c = hex_next _ _ _ _ c.requires _ c.loop-i-test.true c.loop-i.invariant _ _ c.hex_digit.ensures c.hex_digit-in-loop-i.ensures

pub returns : goal.returns
returns c = hex_end _ _ _ _ c.requires _ c.loop-i.auto.i-end c.loop-i-test.false c.loop-i.invariant
