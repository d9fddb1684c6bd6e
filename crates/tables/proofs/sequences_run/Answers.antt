use native.Mathlib.Numerals.{add-one}
use lib.ListN.{get_or}
use Prim.Native.Nat.{suc, ◌<◌}
use Rattle.tables.specs.Tables.{actor_at}
use Prim.Native.Nat.{◌-◌, ◌+◌, ◌*◌}
use mathlib.Core.Path.{◌≡◌, sym, ap, ◌∙◌}
use Rattle.list_laws.specs.Iff.{below_start, below_next, below_end, below_no}
use Rattle.tables.specs.Valid.{Running, count_of}
use lib.Dec.{eqb}
use Rattle.tables.specs.CheckLaws.{counted_start, counted_next, tally_bound}
use native.Mathlib.Omega.{arith}
use Rattle.tables.proofs.sequences_run.Goals as goal

pub loop-k-init : goal.loop-k-init
loop-k-init c = (counted_start _, below_start _)

pub overflow_add-s : goal.overflow_add-s
overflow_add-s c =
    let next = add-one _ ∙ ap suc (c.loop-k.invariant.0.each _ (c.requires.by_index c.loop-k.k c.loop-k-test.true)) in
    omega (arith, next, tally_bound (λ j. eqb (actor_at c.args.nodes.now j) (actor_at c.args.nodes.now c.loop-k.k)) c.loop-k.k)

pub returns-then-nodes-k : goal.returns-then-nodes-k
unfolding Running
returns-then-nodes-k c =
    let next = add-one _ ∙ ap suc (c.loop-k.invariant.0.each _ (c.requires.by_index c.loop-k.k c.loop-k-test.true)) in
    below_no _ _ _ c.loop-k-test.true (λ p. c.if-nodes-k.true (p ∙ sym next))

pub loop-k-preserved : goal.loop-k-preserved
loop-k-preserved c =
    let low = c.requires.by_index c.loop-k.k c.loop-k-test.true in
    let next = add-one _ ∙ ap suc (c.loop-k.invariant.0.each _ low) in
    (counted_next _ _ _ c.loop-k.invariant.0 low, below_next c.loop-k.invariant.1 (c.if-nodes-k.false ∙ next))

pub returns : goal.returns
unfolding Running
returns c = below_end _ c.loop-k.invariant.1 c.loop-k-test.false
