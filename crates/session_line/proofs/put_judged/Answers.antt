-- The unknown dependency is named, or else the number is given.
-- Assumes nothing.
use Rattle.std.proofs.Common.{sym}
use Rattle.session_line.specs.AddedLaws.{said_unknown, said_number}
use Rattle.session_line.proofs.put_judged.Goals as goal

pub returns-in-Some : goal.returns-in-Some
returns-in-Some c =
    said_unknown c.args.judged _ _ _ _ _ _ (sym c.in-Some.ensures) c.put_unknown.ensures

pub returns-in-None : goal.returns-in-None
returns-in-None c =
    said_number c.args.judged _ _ _ _ _ _ (sym c.in-None.ensures) c.number.ensures
    c.put_add.ensures
