-- The first two lines, then the bad one named or the others asked.
-- Assumes nothing.
use Rattle.session.specs.BeginLaws.{begun_asked, begun_bad}
use Rattle.session.proofs.run.Goals as goal

pub returns-in-Err : goal.returns-in-Err
returns-in-Err c = begun_bad _ _ _ c.read_begin.ensures _ _ _ _ c.in-Err.is c.put_bad.ensures

pub returns-in-Ok : goal.returns-in-Ok
returns-in-Ok c = begun_asked _ _ _ c.read_begin.ensures _ _ _ _ c.in-Ok.is c.ask.ensures
