use Rattle.std.proofs.Common.{◌≡◌, ◌+◌, ◌-◌, ℕ, Bool, List, take, drop, get_or, sym, ap, ◌∙◌, arith}
use Rattle.paper.specs.Lists.{all_in}
use Rattle.paper.proofs.Scans.{all_start, all_next, all_no}
use Rattle.columns.specs.Columns.{dep_right, deps_at}
use Rattle.columns.specs.ColumnsLaws.{Summed, summed_start, summed_fits, summed_next, deps_part}
use Rattle.columns.proofs.Columns.deps_right.Goals as goal

-- the call looks at the dependencies of change k
told : (ms ds vs : List ℕ) {n at k : ℕ} {r : Bool} → Summed ds n at k → r ≡ all_in (dep_right ms k) (take (at + get_or ds k 0 - at) (drop at vs)) → all_in (dep_right ms k) (deps_at ds vs k) ≡ r
told ms ds vs {k = k} s e = sym (e ∙ ap (all_in (dep_right ms k)) (deps_part ds vs s))

pub loop-k-init : goal.loop-k-init
loop-k-init c = record { sum = summed_start _ _; passed = all_start _ _ }

pub overflow_add-at : goal.overflow_add-at
overflow_add-at c = omega (arith, summed_fits _ _ c.loop-k.invariant.sum (omega arith))

pub offset_bounds-self-at : goal.offset_bounds-self-at
offset_bounds-self-at c = omega (arith, summed_fits _ _ c.loop-k.invariant.sum (omega arith))

pub slice_bounds-node_right-end : goal.slice_bounds-node_right-end
slice_bounds-node_right-end c = omega (arith, summed_fits _ _ c.loop-k.invariant.sum (omega arith))

pub returns-then-not-node_right : goal.returns-then-not-node_right
returns-then-not-node_right c = all_no _ _ _ (omega arith) (told c.args.self.now.maxes.now c.args.self.now.deps.now c.args.self.now.values.now c.loop-k.invariant.sum c.node_right.ensures ∙ c.if-not-node_right.true)

pub loop-k-preserved : goal.loop-k-preserved
loop-k-preserved c = record {
  sum = summed_next _ _ c.loop-k.invariant.sum (omega arith);
  passed = all_next _ _ c.loop-k.invariant.passed (omega arith) (told c.args.self.now.maxes.now c.args.self.now.deps.now c.args.self.now.values.now c.loop-k.invariant.sum c.node_right.ensures ∙ c.if-not-node_right.false);
}
