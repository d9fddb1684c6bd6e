-- The members are those that `split` gives, one after the other. Assumes nothing.
use Rattle.std.proofs.Common.{eqb, refl, sym, ◌∙◌, rules, tests, arith}
use Rattle.std.proofs.lemmas.List.{length_push}
use Rattle.std.proofs.lemmas.Iterator.Consumers.{YieldsList-turn, YieldsList-end}
use Rattle.std.proofs.lemmas.Iterator.Splits.{YieldsList-from_slice_split}
use Rattle.text.specs.ListsLaws.{members_few, count_start, count_bad, count_more, count_end}
use Rattle.text.proofs.count_hashes.Goals as goal

pub loop-member-init : goal.loop-member-init
loop-member-init c = (refl, count_start c.args.s.now)

pub returns-then-not-is_hash : goal.returns-then-not-is_hash
returns-then-not-is_hash c =
    let t = YieldsList-turn (YieldsList-from_slice_split _ (λ b. eqb b 44) c.args.s.now c.split-member-items.ensures.rest c.split-member-items.ensures.done c.split-member-items.ensures.closure (λ x b q k. search (rules, tests))) c.loop-member.yielded _ (rw c.into_iter-member-iterator.ensures.into_iter_gives at c.loop-member.yielded_by) _ _ _ c.in-Some.is c.next.ensures.steps in
    let v = rw c.loop-member.invariant.0 at c.loop-member.invariant.1 in
    sym (v ∙ count_bad _ _ _ t (sym c.is_hash.ensures ∙ c.if-not-is_hash.true))

pub overflow_add-n : goal.overflow_add-n
overflow_add-n c =
    let t = YieldsList-turn (YieldsList-from_slice_split _ (λ b. eqb b 44) c.args.s.now c.split-member-items.ensures.rest c.split-member-items.ensures.done c.split-member-items.ensures.closure (λ x b q k. search (rules, tests))) c.loop-member.yielded _ (rw c.into_iter-member-iterator.ensures.into_iter_gives at c.loop-member.yielded_by) _ _ _ c.in-Some.is c.next.ensures.steps in
    omega (arith, members_few c.args.s.now, t.0, c.loop-member.invariant.0)

pub loop-member-preserved : goal.loop-member-preserved
loop-member-preserved c =
    let t = YieldsList-turn (YieldsList-from_slice_split _ (λ b. eqb b 44) c.args.s.now c.split-member-items.ensures.rest c.split-member-items.ensures.done c.split-member-items.ensures.closure (λ x b q k. search (rules, tests))) c.loop-member.yielded _ (rw c.into_iter-member-iterator.ensures.into_iter_gives at c.loop-member.yielded_by) _ _ _ c.in-Some.is c.next.ensures.steps in
    let v = rw c.loop-member.invariant.0 at c.loop-member.invariant.1 in
    let l = length_push c.loop-member.yielded c.in-Some.member in
    (omega (arith, c.loop-member.invariant.0), rw c.loop-member.invariant.0 (v ∙ count_more _ _ _ t (sym c.is_hash.ensures ∙ c.if-not-is_hash.false)))

pub returns : goal.returns
returns c =
    let t = YieldsList-end (YieldsList-from_slice_split _ (λ b. eqb b 44) c.args.s.now c.split-member-items.ensures.rest c.split-member-items.ensures.done c.split-member-items.ensures.closure (λ x b q k. search (rules, tests))) c.loop-member.yielded _ (rw c.into_iter-member-iterator.ensures.into_iter_gives at c.loop-member.yielded_by) _ _ c.in-None.is c.next.ensures.steps in
    let v = rw c.loop-member.invariant.0 at c.loop-member.invariant.1 in
    rw c.loop-member.invariant.0 (sym (v ∙ count_end _ _ (omega (arith, t.1))))
