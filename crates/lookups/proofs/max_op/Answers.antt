use Rattle.std.proofs.Common.{ℕ, refl, sym, ap, ◌∙◌}
use Rattle.std.specs.Prelude.{max}
use Rattle.lookups.specs.Lookups.{largest}
use Rattle.lookups.specs.LookupLaws.{largest_next}
use Rattle.tables.specs.Tables.{max_op_at}
use Rattle.lookups.proofs.max_op.Goals as goal

pub loop-k-init : goal.loop-k-init
unfolding largest
loop-k-init c = refl

pub loop-k-preserved : goal.loop-k-preserved
loop-k-preserved c = c.max-most.ensures ∙ ap (λ (m : ℕ). max m (max_op_at c.args.tables.now.nodes.now c.loop-k.k)) c.loop-k.invariant ∙ sym (largest_next (λ (j : ℕ). max_op_at c.args.tables.now.nodes.now j) c.loop-k.k)
