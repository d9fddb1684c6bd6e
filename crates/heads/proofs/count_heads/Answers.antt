use Rattle.std.proofs.Common.{ℕ, List, ◌+◌, refl, ap, ◌∙◌, arith}
use Rattle.std.specs.Prelude.{Bool, eqb}
use Rattle.paper.specs.Lists.{tally}
use Rattle.tables.specs.Tables.{head_at}
use Rattle.answer_buffer.specs.Picking.{tally_by, tally_fits, at_most_one}
use Rattle.heads.proofs.count_heads.Goals as goal

-- node k has the flag
abbrev flag : List ℕ → ℕ → Bool
flag ns k = eqb (head_at ns k) 1

pub loop-k-init : goal.loop-k-init
unfolding tally
loop-k-init c = refl

pub overflow_add-c : goal.overflow_add-c
overflow_add-c c =
    let fits = tally_fits (flag c.args.nodes.now) c.loop-k.k c.loop-k.c c.loop-k.invariant in
    let one = at_most_one (flag c.args.nodes.now c.loop-k.k) in
    omega arith

pub loop-k-preserved : goal.loop-k-preserved
loop-k-preserved c =
    ap (λ (n : ℕ). c.loop-k.c + n) c.from-c.ensures ∙ tally_by (flag c.args.nodes.now) c.loop-k.k c.loop-k.c (flag c.args.nodes.now c.loop-k.k) refl c.loop-k.invariant
