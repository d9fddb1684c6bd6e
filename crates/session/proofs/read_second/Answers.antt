-- The second line by what it says.
-- Assumes nothing.
use Rattle.std.proofs.Common.{sym}
use Rattle.session.specs.BeginLaws.{second_opens, second_bad}
use Rattle.session.proofs.read_second.Goals as goal

pub returns-in-Some : goal.returns-in-Some
returns-in-Some c = second_opens _ _ _ _ c.requires.0 c.requires.1 _ (sym c.in-Some.ensures)

pub returns-in-None : goal.returns-in-None
returns-in-None c = second_bad _ _ _ _ c.requires.0 (sym c.in-None.ensures)
