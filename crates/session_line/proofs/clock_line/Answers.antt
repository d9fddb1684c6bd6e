-- The clock is written to the first entries of a local buffer, one for each actor, and just these are printed.
-- Assumes nothing.
use Rattle.std.proofs.Common.{arith, length-take, length-drop}
use Rattle.tables.specs.Tables.{tables}
use Rattle.session_line.specs.ClockLaws.{said_clock}
use Rattle.session_line.proofs.clock_line.Goals as goal

pub returns : goal.returns
returns c =
    let b = c.requires.valid.1.high in
    said_clock (tables c.args.tables.now.hashes.now c.args.tables.now.nodes.now c.args.tables.now.targets.now c.args.tables.now.nexts.now c.args.tables.now.clocks.now c.args.tables.now.counts.now) c.args.list.now _ c.clock_into.ensures
    (simp (length-take, length-drop) (omega arith)) _ _ _ _ c.put_clock.ensures
