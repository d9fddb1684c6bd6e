use Rattle.std.proofs.Common.{ℕ, suc, ◌≡◌, ◌-◌, ◌<◌, sym, ap, ◌∙◌, arith}
use Rattle.std.specs.Prelude.{eqb}
use Rattle.paper.specs.Lists.{tally}
use Rattle.tables.specs.Tables.{graph, changes, actor_at}
use Rattle.tables.specs.Lent.{lists}
use Rattle.tables.specs.DepsLaws.{valid_graph}
use Rattle.tables.specs.Node.{found_as}
use Rattle.tables.specs.NodeLaws.{found_at, found_none}
use Rattle.lookups.specs.LookupLaws.{last_start, last_skip, last_seq, change_is, last_none}
use Rattle.lookups.proofs.last_change.Goals as goal

pub loop-k-init : goal.loop-k-init
loop-k-init c = let t = lists c.args.tables.now in last_start _ (valid_graph t c.requires.sound) _

pub returns-then-actor-tables : goal.returns-then-actor-tables
returns-then-actor-tables c = let s = c.args in let t = lists s.tables.now in let k = c.loop-k.k in
    let e : k ≡ suc (k - 1) = omega arith in
    let l : k - 1 < changes t = omega (arith, c.loop-k.auto.k) in
    let v = valid_graph t c.requires.sound in
    let q = last_seq (graph t) v s.actor (k - 1) l (sym c.if-actor-tables.true) (ap (λ (j : ℕ). tally (λ (i : ℕ). eqb (actor_at s.tables.now.nodes.now i) s.actor) j) (sym e) ∙ c.loop-k.invariant) in
    sym (ap (found_as (changes t)) (change_is (graph t) v s.actor (k - 1) l (sym c.if-actor-tables.true) _ q) ∙ found_at _ _ l)

pub loop-k-preserved : goal.loop-k-preserved
loop-k-preserved c = let s = c.args in let t = lists s.tables.now in let k = c.loop-k.k in
    let e : k ≡ suc (k - 1) = omega arith in
    last_skip (graph t) (valid_graph t c.requires.sound) s.actor (k - 1) (λ q. c.if-actor-tables.false (sym q))
    (ap (λ (j : ℕ). tally (λ (i : ℕ). eqb (actor_at s.tables.now.nodes.now i) s.actor) j) (sym e) ∙ c.loop-k.invariant)

pub returns : goal.returns
returns c = let s = c.args in let t = lists s.tables.now in
    let e : c.loop-k.k ≡ 0 = omega arith in
    let q = last_none (graph t) (valid_graph t c.requires.sound) s.actor (ap (λ (j : ℕ). tally (λ (i : ℕ). eqb (actor_at s.tables.now.nodes.now i) s.actor) j) (sym e) ∙ c.loop-k.invariant) in
    sym (found_none (changes t) _ (omega arith))
