use Rattle.std.proofs.Common.{◌≡◌, ℕ, Bool, true, Option, Some, None, Err, if◌then◌else◌, sym, ap, ◌∙◌, arith}
use Rattle.std.proofs.lemmas.Result.{err_from_is_err_and}
use Rattle.paper.specs.Loading.{deps_before}
use Rattle.columns.specs.declared.LoadRefusal.{LoadRefusal}
use Rattle.columns.specs.declared.LoadRefusal.TheVariants.{Disagree}
use Rattle.columns.specs.Columns.{listed, loading_outcome}
use Rattle.columns.specs.ColumnsLaws.{no_number, the_number}
use Rattle.columns.specs.JudgeLaws.{bad_hashes, bad_heads, no_actors, disagreed, no_nodes, no_edges, all_done}
use Rattle.columns.proofs.Columns.judge.Goals.{then-self-ne0-via-then-self-ne0, then-self-ne0-via-else-self-ne0+then-self-ne0-2}
use Rattle.columns.proofs.Columns.judge.Goals as goal

pub returns-then-self-ne0 : goal.returns-then-self-ne0
returns-then-self-ne0 c =
    let l = listed c.args.self.now in
    elim c.then-self-ne0.branch [
      | then-self-ne0-via-then-self-ne0 w ↦ bad_hashes _ _ _ l w.if-self-ne0.true
      | then-self-ne0-via-else-self-ne0+then-self-ne0-2 w ↦ bad_heads _ _ _ l w.if-self-ne0.false w.if-self-ne0-2.true
    ]

pub returns-then-rows-self : goal.returns-then-rows-self
returns-then-rows-self c = no_actors _ _ _ (listed c.args.self.now) c.if-self-ne0.false c.if-self-ne0-2.false c.if-rows-self.true

pub returns-in_err-e : goal.returns-in_err-e
returns-in_err-e c =
    let n : c.agree.result ≡ None = c.in_err-e.ensures.ok_part in
    let v = rw n at c.in_err-e.ensures.value in
    let r = err_from_is_err_and {Q = λ (y : LoadRefusal). y ≡ c.in_err-e.field-0.0} c.from_residual.result c.from_residual.ensures.1 in
    let q : c.from_residual.result ≡ Err Disagree = cc in
    ap loading_outcome q ∙ disagreed _ _ _ (listed c.args.self.now) c.if-self-ne0.false c.if-self-ne0-2.false c.if-rows-self.false (no_number _ _ (sym n ∙ c.agree.ensures))

-- the columns agree, and have e dependencies
told : {b : Bool} {e n : ℕ} {o : Option ℕ} → o ≡ Some e → o ≡ (if b then Some n else None) → (b ≡ true) × (e ≡ n)
told {b} {e} {n} p q = the_number b e n (sym p ∙ q)

pub returns-then-nodes-changes : goal.returns-then-nodes-changes
returns-then-nodes-changes c =
    let t = told c.in_ok-e.ensures.ok_part c.agree.ensures in
    no_nodes _ _ _ (listed c.args.self.now) c.if-self-ne0.false c.if-self-ne0-2.false c.if-rows-self.false t.0 (omega arith)

pub returns-then-edges-e : goal.returns-then-edges-e
unfolding deps_before
returns-then-edges-e c =
    let t = told c.in_ok-e.ensures.ok_part c.agree.ensures in
    no_edges _ _ _ (listed c.args.self.now) c.if-self-ne0.false c.if-self-ne0-2.false c.if-rows-self.false t.0 (omega arith) (omega (arith, t.1))

pub returns : goal.returns
unfolding deps_before
returns c =
    let t = told c.in_ok-e.ensures.ok_part c.agree.ensures in
    all_done _ _ _ (listed c.args.self.now) c.if-self-ne0.false c.if-self-ne0-2.false c.if-rows-self.false t.0 (omega arith) (omega (arith, t.1))
