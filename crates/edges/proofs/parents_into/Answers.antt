use Rattle.std.proofs.Common.{Bool, not, T, ℕ, ◌<◌, ◌^◌, length, arith, subst, sym, ◌∙◌, length-set}
use Rattle.edges.specs.Edges.{goes_on}
use Rattle.edges.specs.WalkLaws.{Walking, walking_start, walking_next, walking_end, goes_yes}
use Rattle.edges.proofs.parents_into.Goals as goal

pub loop-out-init : goal.loop-out-init
loop-out-init c =
    subst (λ (k : ℕ). Walking c.args.edges.now c.args.first c.args.out.now c.args.first 0 k c.args.out.now) (omega arith)
    (walking_start c.args.edges.now c.args.first c.args.out.now c.ranges.first.fits)

pub loop-out-preserved : goal.loop-out-preserved
loop-out-preserved c =
    let t : T (goes_on c.loop-out.at c.loop-out.n (length c.args.edges.now) (length c.loop-out.out)) = subst T (sym (sym c.more.ensures ∙ c.loop-out-test.true)) tt in
    let y = goes_yes c.loop-out.at c.loop-out.n (length c.args.edges.now) (length c.loop-out.out) t in
    let s = c.step-at.ensures in
    let small : c.step-at.result < 2 ^ 32 = c.step-at.type_inv in
    rw (s.0, s.1) (walking_next c.args.edges.now c.args.first c.args.out.now c.loop-out.at c.loop-out.n _ c.loop-out.out c.loop-out.invariant t (subst (λ (n : ℕ). n < 2 ^ 32) s.0 small) _ (omega (arith, length-set c.loop-out.out c.loop-out.n)))

pub returns : goal.returns
returns c =
    walking_end c.args.edges.now c.args.first c.args.out.now c.loop-out.at c.loop-out.n _ c.loop-out.out c.loop-out.invariant
    (subst (λ (b : Bool). T (not b)) (sym (sym c.more.ensures ∙ c.loop-out-test.false)) tt)
