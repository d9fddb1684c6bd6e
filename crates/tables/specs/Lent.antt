-- The lent tables as lists of numbers.
-- Assumes nothing.
use Rattle.tables.specs.Tables.{Tables, tables}
use Rattle.tables.specs.declared.Tables.{Tables as Lent}

abbrev pub lists : Lent → Tables
lists t = tables t.hashes.now t.nodes.now t.targets.now t.nexts.now t.clocks.now t.counts.now
