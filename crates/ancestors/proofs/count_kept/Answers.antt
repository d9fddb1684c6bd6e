use Rattle.std.proofs.Common.{ℕ, ◌≡◌, ◌+◌, ◌/◌, length, refl, ap, ◌∙◌, arith}
use Rattle.std.specs.Prelude.{Bool}
use Rattle.paper.specs.Lists.{tally}
use Rattle.answer_buffer.specs.Picking.{tally_by, tally_fits, at_most_one}
use Rattle.ancestors.specs.Ancestors.{first_kept}
use Rattle.ancestors.proofs.count_kept.Goals as goal

pub loop-i-init : goal.loop-i-init
unfolding tally
loop-i-init c = refl

pub overflow_add-c : goal.overflow_add-c
overflow_add-c c =
    let s = c.args in
    let fits = tally_fits (first_kept s.hashes.now s.n s.marks.now s.list.now) c.loop-i.i c.loop-i.c c.loop-i.invariant in
    let one = at_most_one c.is_first_kept.result in
    omega arith

pub loop-i-preserved : goal.loop-i-preserved
loop-i-preserved c =
    let s = c.args in
    ap (λ (n : ℕ). c.loop-i.c + n) c.from-c.ensures
    ∙ tally_by (first_kept s.hashes.now s.n s.marks.now s.list.now) c.loop-i.i c.loop-i.c c.is_first_kept.result c.is_first_kept.ensures c.loop-i.invariant

pub returns : goal.returns
returns c =
    let s = c.args in
    let p : ℕ → Bool = first_kept s.hashes.now s.n s.marks.now s.list.now in
    let e : c.loop-i.i ≡ length s.list.now / 32 = omega arith in
    c.loop-i.invariant ∙ ap (tally p) e
