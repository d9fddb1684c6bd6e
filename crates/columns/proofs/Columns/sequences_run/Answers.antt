use Rattle.std.proofs.Common.{◌≡◌, ℕ, List, suc, ◌+◌, eqb, get_or, sym, ap, ◌∙◌, add-one, eq-eqb, ne_eqb, arith}
use Rattle.paper.specs.Lists.{tally}
use Rattle.paper.proofs.Count.{tally_most}
use Rattle.paper.proofs.Scans.{all_start, all_next, all_no}
use Rattle.columns.proofs.Columns.sequences_run.Goals as goal

-- one more than the actor's changes before it
told : (ws : List ℕ) (k c : ℕ) → c ≡ tally (λ j. eqb (get_or ws j 0) (get_or ws k 0)) k → c + 1 ≡ suc (tally (λ j. eqb (get_or ws j 0) (get_or ws k 0)) k)
told ws k c e = add-one c ∙ ap suc e

pub loop-k-init : goal.loop-k-init
loop-k-init c = all_start _ _

pub overflow_add-c : goal.overflow_add-c
overflow_add-c c = let w = c.args.self.now.actors.now in let e = c.count_before-c.ensures in omega (arith, tally_most (λ j. eqb (get_or w j 0) (get_or w c.loop-k.k 0)) c.loop-k.k)

pub returns-then-self-k : goal.returns-then-self-k
returns-then-self-k c = all_no _ _ _ (omega arith) (ne_eqb _ _ (λ q. c.if-self-k.true (q ∙ sym (told c.args.self.now.actors.now c.loop-k.k _ c.count_before-c.ensures))))

pub loop-k-preserved : goal.loop-k-preserved
loop-k-preserved c = all_next _ _ c.loop-k.invariant (omega arith) (eq-eqb _ _ (c.if-self-k.false ∙ told c.args.self.now.actors.now c.loop-k.k _ c.count_before-c.ensures))
