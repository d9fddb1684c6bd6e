-- Adding gives the judgement and the tables; its answer line is the paper's, since over valid tables the judgement is the paper's.
-- Assumes nothing.
use Rattle.session_line.specs.AddedLaws.{said_add, named_as}
use Rattle.session_line.proofs.add_line.Goals as goal

pub put_judged-requires : goal.put_judged-requires
put_judged-requires c = (c.requires.at_in_bounds, named_as _ _ _ c.add-judged.ensures.value)

pub returns-clause-said : goal.returns-clause-said
returns-clause-said c =
    said_add _ _ _ _ _ _ _ c.requires.valid c.add-judged.ensures.value c.put_judged.ensures
