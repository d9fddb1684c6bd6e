use Rattle.std.proofs.Common.{◌≡◌, ℕ, List, sym, ap, ◌∙◌}
use Rattle.std.specs.Prelude.{Bool, true, false, refl, ◌&&◌, eqb}
use borrow.Author.Tests.{eq-eqb, ne_eqb}
use Rattle.paper.proofs.Bools.{and_both}
use Rattle.paper.proofs.First.{first_start, first_next, first_hit, first_end}
use Rattle.tables.specs.Node.{found_as}
use Rattle.tables.specs.NodeLaws.{found_at, found_none}
use Rattle.tables.specs.Tables.{actor_at, seq_at}
use Rattle.lookups.proofs.change_at.Goals.{else-nodes-k-via-then-nodes-k+else-nodes-k-2, else-nodes-k-via-else-nodes-k}
use Rattle.lookups.proofs.change_at.Goals as goal

and_none : (a b : Bool) → b ≡ false → (a && b) ≡ false
and_none true b e = e
and_none false b e = refl

-- node k is the actor's change with the sequence
abbrev asked : List ℕ → ℕ → ℕ → ℕ → Bool
asked ns a q k = eqb (actor_at ns k) a && eqb (seq_at ns k) q

pub loop-k-init : goal.loop-k-init
loop-k-init c = first_start _ _

pub returns-then-nodes-k-2 : goal.returns-then-nodes-k-2
returns-then-nodes-k-2 c = let s = c.args in
    sym (ap (found_as s.n) (sym c.loop-k.invariant ∙ first_hit (asked s.nodes.now s.actor s.seq) s.n c.loop-k.k c.loop-k-test.true (and_both _ _ (eq-eqb _ _ c.if-nodes-k.true) (eq-eqb _ _ c.if-nodes-k-2.true))) ∙ found_at _ _ c.loop-k-test.true)

pub loop-k-preserved : goal.loop-k-preserved
loop-k-preserved c = let s = c.args in
    let skip : asked s.nodes.now s.actor s.seq c.loop-k.k ≡ false = elim c.else-nodes-k.branch [
      | else-nodes-k-via-then-nodes-k+else-nodes-k-2 w ↦ and_none (eqb (actor_at s.nodes.now c.loop-k.k) s.actor) _ (ne_eqb _ _ w.if-nodes-k-2.false)
      | else-nodes-k-via-else-nodes-k w ↦ ap (λ (b : Bool). b && eqb (seq_at s.nodes.now c.loop-k.k) s.seq) (ne_eqb _ _ w.if-nodes-k.false)
    ] in
    sym (first_next (asked s.nodes.now s.actor s.seq) s.n c.loop-k.k c.loop-k-test.true skip) ∙ c.loop-k.invariant

pub returns : goal.returns
returns c = let s = c.args in
    sym (ap (found_as s.n) (sym c.loop-k.invariant ∙ first_end (asked s.nodes.now s.actor s.seq) s.n c.loop-k.k c.loop-k-test.false) ∙ found_none _ _ c.loop-k-test.false)
