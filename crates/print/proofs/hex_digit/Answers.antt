-- One law for each case. Assumes nothing.
use Rattle.print.specs.HexLaws.{hex_small, hex_large}
use Rattle.print.proofs.hex_digit.Goals as goal

pub returns-then-d-lt10 : goal.returns-then-d-lt10
returns-then-d-lt10 c = hex_small _ c.if-d-lt10.true

pub returns-else-d-lt10 : goal.returns-else-d-lt10
returns-else-d-lt10 c = hex_large _ c.if-d-lt10.false
