-- The lines one after the other: `Asking`, and the tables have their lengths. The measure is the bytes that are left.
-- Assumes nothing.
use Rattle.std.proofs.Common.{◌-◌, length}
use Rattle.paper.specs.Session.{asking, bench, answers}
use Rattle.text.specs.Parts.{parts_from}
use Rattle.tables.specs.Tables.{tables, actors}
use Rattle.session.specs.Ask.{Asking, Kept}
use Rattle.session.proofs.lines.Given as goal

abbrev pub invariant-loop-answer : goal.invariant-loop-answer
invariant-loop-answer l = record {
  asking : Asking l.input (answers (asking (bench (actors (tables l.fn.hashes l.fn.nodes l.fn.targets l.fn.nexts l.fn.clocks l.fn.counts)))) 3 (parts_from 10 l.input l.fn.c.at)) l.fn.answer (tables l.hashes l.nodes l.targets l.nexts l.clocks l.counts) l.n l.at l.cur.at l.answer;
  kept : Kept (tables l.fn.hashes l.fn.nodes l.fn.targets l.fn.nexts l.fn.clocks l.fn.counts) (tables l.hashes l.nodes l.targets l.nexts l.clocks l.counts);
}

abbrev pub decreases-loop-answer : goal.decreases-loop-answer
decreases-loop-answer l = length l.input - l.cur.at
