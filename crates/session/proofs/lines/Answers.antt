-- Each line by what `step` made of it, and by what a line that is too long or is not ended says.
-- Assumes nothing.
use Rattle.std.proofs.Common.{refl, sym, ◌∙◌, ⊎_elim, arith}
use Rattle.session.specs.AskLaws.{asking_end, asking_open, asking_long}
use Rattle.session.specs.TurnLaws.{turn_start, turn_short, turn_bounds, turn_bad, turn_full, turn_told}
use Rattle.session.proofs.lines.Goals as goal

pub loop-answer-init : goal.loop-answer-init
loop-answer-init c = record {
  asking = turn_start _ _ _ _ c.requires.fresh c.requires.le_at.0 c.requires.le_at.1;
  kept = record { hashes = refl; nodes = refl; targets = refl; nexts = refl; clocks = refl; counts = refl };
}

pub returns-in-End : goal.returns-in-End
returns-in-End c = asking_end _ _ _ _ _ _ _ _ c.loop-answer.invariant.asking (sym c.in-End.ensures)

pub returns-in-Unended : goal.returns-in-Unended
returns-in-Unended c =
    ⊎_elim
    (λ e. asking_open _ _ _ _ _ _ _ _ c.loop-answer.invariant.asking (sym c.line.ensures ∙ e) _ _ c.put_bad.ensures)
    (λ e. asking_long _ _ _ _ _ _ _ _ c.loop-answer.invariant.asking (sym c.line.ensures ∙ e) _ _ c.put_bad.ensures)
    c.in-Unended.is

pub slice_bounds-step-count : goal.slice_bounds-step-count
slice_bounds-step-count c = (turn_bounds c.loop-answer.invariant.asking (sym c.in-Whole.ensures)).0

pub slice_bounds-step-start : goal.slice_bounds-step-start
slice_bounds-step-start c = let b = turn_bounds c.loop-answer.invariant.asking (sym c.in-Whole.ensures) in omega (arith, b.0)

pub slice_bounds-step-end : goal.slice_bounds-step-end
slice_bounds-step-end c = let b = turn_bounds c.loop-answer.invariant.asking (sym c.in-Whole.ensures) in omega (arith, b.1)

pub step-requires-clause-line_len_bound : goal.step-requires-clause-line_len_bound
step-requires-clause-line_len_bound c = (turn_short c.loop-answer.invariant.asking (sym c.in-Whole.ensures), omega (arith, c.loop-answer.invariant.asking.fits, c.loop-answer.invariant.asking.size))

pub returns-in-Err-Bad : goal.returns-in-Err-Bad
returns-in-Err-Bad c = turn_bad c.loop-answer.invariant.asking (sym c.in-Whole.ensures) _ _ c.step.ensures.stepped (rw c.in-Err-Bad.field-0-is at c.in-Err-Bad.is) _ _ c.put_bad-in-Err-Bad.ensures

pub returns-in-Err-Full : goal.returns-in-Err-Full
returns-in-Err-Full c = turn_full c.loop-answer.invariant.asking (sym c.in-Whole.ensures) _ _ c.step.ensures.stepped (rw c.in-Err-Full.field-0-is at c.in-Err-Full.is)

pub loop-answer-smaller : goal.loop-answer-smaller
loop-answer-smaller c = let b = turn_bounds c.loop-answer.invariant.asking (sym c.in-Whole.ensures) in omega (arith, b.2, b.3)

pub loop-answer-preserved : goal.loop-answer-preserved
loop-answer-preserved c = let k = c.loop-answer.invariant.kept in record {
  asking = turn_told c.loop-answer.invariant.asking (sym c.in-Whole.ensures) _ _ c.step.ensures.stepped _ c.in-Ok.is _ c.step.ensures.counts_after;
  kept = record {
    hashes = c.step.auto.hashes ∙ k.hashes;
    nodes = c.step.auto.nodes ∙ k.nodes;
    targets = c.step.auto.targets ∙ k.targets;
    nexts = c.step.auto.nexts ∙ k.nexts;
    clocks = c.step.auto.clocks ∙ k.clocks;
    counts = c.step.auto.counts ∙ k.counts;
  };
}
