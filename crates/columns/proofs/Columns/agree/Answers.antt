use Rattle.std.proofs.Common.{◌≡◌, ℕ, ◌/◌, length, take, sym, ap, ◌∙◌}
use Rattle.paper.proofs.Bools.{not-both}
use Rattle.columns.specs.declared.Columns as lent
use Rattle.columns.specs.Columns.{listed, total, column_heads_right, heads_test}
use Rattle.columns.specs.ColumnsLaws.{failed, given, no_number, the_number, all_checked}
use Rattle.columns.proofs.Columns.agree.Goals.{then-not-actors_low-via-then-not-actors_low, then-not-actors_low-via-else-not-actors_low+then-not-ops_right, else-deps_right-via-then-deps_right+then-sequences_run+then-distinct+else-heads_right, else-deps_right-via-then-deps_right+then-sequences_run+else-distinct, else-deps_right-via-then-deps_right+else-sequences_run, else-deps_right-via-else-deps_right}
use Rattle.columns.proofs.Columns.agree.Goals as goal

-- the heads are looked for in the values of the changes
used : (s : lent.Columns) {e : ℕ} → e ≡ total s.deps.now (length s.ids.now / 32) → heads_test (listed s) ≡ column_heads_right s.ids.now (length s.ids.now / 32) (take e s.values.now) s.heads.now
used s q = ap (λ (n : ℕ). column_heads_right s.ids.now (length s.ids.now / 32) (take n s.values.now) s.heads.now) (sym q)

pub returns-then-not-lengths_equal : goal.returns-then-not-lengths_equal
returns-then-not-lengths_equal c = failed (listed c.args.self.now) _ (λ k. not-both k.lengths (sym c.lengths_equal.ensures ∙ c.if-not-lengths_equal.true))

pub returns-then-not-actors_low : goal.returns-then-not-actors_low
returns-then-not-actors_low c =
    failed (listed c.args.self.now) _
    (λ k. elim c.then-not-actors_low.branch [
      | then-not-actors_low-via-then-not-actors_low w ↦ not-both k.actors (sym c.actors_low.ensures ∙ w.if-not-actors_low.true)
      | then-not-actors_low-via-else-not-actors_low+then-not-ops_right w ↦ not-both k.ops (sym w.ops_right.ensures ∙ w.if-not-ops_right.true)
    ])

pub returns-in_err-e : goal.returns-in_err-e
returns-in_err-e c = c.from_residual.ensures ∙ failed (listed c.args.self.now) _ (λ k. not-both k.enough (no_number _ _ c.in_err-e.ensures))

pub returns-then-heads_right : goal.returns-then-heads_right
returns-then-heads_right c =
    let s = c.args.self.now in
    let e = the_number _ _ _ c.in_ok-e.ensures in
    given _ _ _ (all_checked (listed s) (record {
      lengths = sym c.lengths_equal.ensures ∙ c.if-not-lengths_equal.false;
      actors = sym c.actors_low.ensures ∙ c.if-not-actors_low.false;
      ops = sym c.ops_right.ensures ∙ c.if-not-ops_right.false;
      enough = e.0;
      deps = sym c.deps_right.ensures ∙ c.if-deps_right.true;
      runs = sym c.sequences_run.ensures ∙ c.if-sequences_run.true;
      new = sym c.distinct.ensures ∙ c.if-distinct.true;
      heads = used s e.1 ∙ sym c.heads_right.ensures ∙ c.if-heads_right.true;
    })) e.1

pub returns-else-deps_right : goal.returns-else-deps_right
returns-else-deps_right c =
    let s = c.args.self.now in
    let e = the_number _ _ _ c.in_ok-e.ensures in
    failed (listed s) _
    (λ k. elim c.else-deps_right.branch [
      | else-deps_right-via-then-deps_right+then-sequences_run+then-distinct+else-heads_right w ↦ not-both k.heads (used s e.1 ∙ sym w.heads_right.ensures ∙ w.if-heads_right.false)
      | else-deps_right-via-then-deps_right+then-sequences_run+else-distinct w ↦ not-both k.new (sym w.distinct.ensures ∙ w.if-distinct.false)
      | else-deps_right-via-then-deps_right+else-sequences_run w ↦ not-both k.runs (sym w.sequences_run.ensures ∙ w.if-sequences_run.false)
      | else-deps_right-via-else-deps_right w ↦ not-both k.deps (sym c.deps_right.ensures ∙ w.if-deps_right.false)
    ])
