use Rattle.std.proofs.Common.{sym, ap, ◌∙◌, not, arith}
use Rattle.hash.specs.Hash.{same_hash}
use Rattle.paper.proofs.Bools.{and_both}
use Rattle.paper.proofs.Scans.{some_start, some_next, some_yes}
use Rattle.columns.specs.ColumnsLaws.{and_no, and_not}
use Rattle.columns.proofs.Columns.is_head.Goals.{else-same_at-via-then-same_at+else-not-wanted, else-same_at-via-else-same_at}
use Rattle.columns.proofs.Columns.is_head.Goals as goal

pub loop-k-init : goal.loop-k-init
loop-k-init c = some_start _ _

pub returns-then-not-wanted : goal.returns-then-not-wanted
unfolding same_hash
returns-then-not-wanted c = some_yes _ _ _ (omega arith) (and_both _ _ (sym c.same_at.ensures ∙ c.if-same_at.true) (ap not (sym c.wanted.ensures ∙ c.if-not-wanted.true)))

pub loop-k-preserved : goal.loop-k-preserved
unfolding same_hash
loop-k-preserved c =
    some_next _ _ c.loop-k.invariant (omega arith)
    (elim c.else-same_at.branch [
      | else-same_at-via-then-same_at+else-not-wanted w ↦ and_not _ _ (ap not (sym w.wanted.ensures ∙ w.if-not-wanted.false))
      | else-same_at-via-else-same_at w ↦ and_no _ _ (sym c.same_at.ensures ∙ w.if-same_at.false)
    ])
