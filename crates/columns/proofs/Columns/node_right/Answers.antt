use Rattle.std.proofs.Common.{◌∙◌, le-leb, lt-ltb, le-ltb}
use Rattle.paper.proofs.Bools.{and_both}
use Rattle.paper.proofs.Scans.{all_start, all_next, all_end, all_no, all_places}
use Rattle.columns.specs.ColumnsLaws.{and_no, dep_over}
use Rattle.columns.proofs.Columns.node_right.Goals as goal

pub loop-j-init : goal.loop-j-init
loop-j-init c = all_start _ _

pub returns-then-k-j : goal.returns-then-k-j
returns-then-k-j c = all_no _ _ _ c.loop-j-test.true (and_no _ _ (le-ltb _ _ c.if-k-j.true)) ∙ all_places _ _

pub returns-then-self-k : goal.returns-then-self-k
returns-then-self-k c = all_no _ _ _ c.loop-j-test.true (dep_over c.args.self.now.maxes.now c.args.k _ c.if-self-k.true) ∙ all_places _ _

pub loop-j-preserved : goal.loop-j-preserved
loop-j-preserved c = all_next _ _ c.loop-j.invariant c.loop-j-test.true (and_both _ _ (lt-ltb _ _ c.if-k-j.false) (le-leb _ _ c.if-self-k.false))

pub returns : goal.returns
returns c = all_end _ _ c.loop-j.invariant c.loop-j-test.false ∙ all_places _ _
