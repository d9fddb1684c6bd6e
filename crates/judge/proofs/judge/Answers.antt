-- One law for each way out, in the paper's order, from its test and from those passed before it.
use Rattle.std.proofs.Common.{sym, ap, ◌≡◌, ◌+◌, ◌∙◌, suc, arith, add-one}
use Rattle.tables.specs.Lent.{lists}
use Rattle.tables.specs.Tables.{actor_at, changes}
use Rattle.tables.specs.CheckLaws.{tally_bound}
use Rattle.judge.specs.Judged.{lent_change}
use Rattle.judge.specs.JudgeLaws.{bad_hash, bad_deps, known, unknown, no_actor, wrong_sequence, max_high, ops_high, too_many, no_node, no_edge, done}
use lib.Dec.{eqb}
use Rattle.judge.proofs.judge.Goals as goal

pub returns-then-change-ne32 : goal.returns-then-change-ne32
returns-then-change-ne32 c = sym (bad_hash (lists c.args.tables.now) (lent_change c.args.change.now) c.if-change-ne32.true)

pub returns-then-change-ne0 : goal.returns-then-change-ne0
returns-then-change-ne0 c = sym (bad_deps (lists c.args.tables.now) (lent_change c.args.change.now) c.if-change-ne32.false c.if-change-ne0.true)

pub returns-in_default : goal.returns-in_default
returns-in_default c = sym (known (lists c.args.tables.now) (lent_change c.args.change.now) c.if-change-ne32.false c.if-change-ne0.false _ (sym c.find.ensures ∙ c.in_default.is))

pub returns-in-Some : goal.returns-in-Some
returns-in-Some c =
    sym (unknown (lists c.args.tables.now) (lent_change c.args.change.now) c.if-change-ne32.false c.if-change-ne0.false (sym c.find.ensures ∙ c.in-None.is) _ (sym c.first_unknown.ensures ∙ c.in-Some.is))

pub returns-then-tables-change : goal.returns-then-tables-change
returns-then-tables-change c =
    sym (no_actor (lists c.args.tables.now) (lent_change c.args.change.now) c.if-change-ne32.false c.if-change-ne0.false (sym c.find.ensures ∙ c.in-None.is) (sym c.first_unknown.ensures ∙ c.in_default-first_unknown.is) c.if-tables-change.true)

pub overflow_add-count_of : goal.overflow_add-count_of
overflow_add-count_of c =
    omega (arith, c.count_of.ensures, c.requires.sound.counts.changes_fit, c.requires.sound.lengths.changes_limit, tally_bound (λ j. eqb (actor_at c.args.tables.now.nodes.now j) c.args.change.now.actor) (changes (lists c.args.tables.now)))

pub returns-then-change-count_of : goal.returns-then-change-count_of
returns-then-change-count_of c =
    let next : c.count_of.result + 1 ≡ suc _ = add-one _ ∙ ap suc c.count_of.ensures in
    sym (wrong_sequence (lists c.args.tables.now) (lent_change c.args.change.now) c.if-change-ne32.false c.if-change-ne0.false (sym c.find.ensures ∙ c.in-None.is) (sym c.first_unknown.ensures ∙ c.in_default-first_unknown.is) c.if-tables-change.false (λ q. c.if-change-count_of.true (q ∙ sym next)))

pub returns-then-change-gt4294967295 : goal.returns-then-change-gt4294967295
returns-then-change-gt4294967295 c =
    let next : c.count_of.result + 1 ≡ suc _ = add-one _ ∙ ap suc c.count_of.ensures in
    sym (max_high (lists c.args.tables.now) (lent_change c.args.change.now) c.if-change-ne32.false c.if-change-ne0.false (sym c.find.ensures ∙ c.in-None.is) (sym c.first_unknown.ensures ∙ c.in_default-first_unknown.is) c.if-tables-change.false (c.if-change-count_of.false ∙ next) c.if-change-gt4294967295.true)

pub returns-then-change : goal.returns-then-change
returns-then-change c =
    let next : c.count_of.result + 1 ≡ suc _ = add-one _ ∙ ap suc c.count_of.ensures in
    sym (ops_high (lists c.args.tables.now) (lent_change c.args.change.now) c.if-change-ne32.false c.if-change-ne0.false (sym c.find.ensures ∙ c.in-None.is) (sym c.first_unknown.ensures ∙ c.in_default-first_unknown.is) c.if-tables-change.false (c.if-change-count_of.false ∙ next) c.if-change-gt4294967295.false c.if-change.true)

pub returns-then-d-gt32 : goal.returns-then-d-gt32
returns-then-d-gt32 c =
    let next : c.count_of.result + 1 ≡ suc _ = add-one _ ∙ ap suc c.count_of.ensures in
    sym (too_many (lists c.args.tables.now) (lent_change c.args.change.now) c.if-change-ne32.false c.if-change-ne0.false (sym c.find.ensures ∙ c.in-None.is) (sym c.first_unknown.ensures ∙ c.in_default-first_unknown.is) c.if-tables-change.false (c.if-change-count_of.false ∙ next) c.if-change-gt4294967295.false c.if-change.false c.if-d-gt32.true)

pub returns-then-tables-n : goal.returns-then-tables-n
returns-then-tables-n c =
    let next : c.count_of.result + 1 ≡ suc _ = add-one _ ∙ ap suc c.count_of.ensures in
    sym (no_node (lists c.args.tables.now) (lent_change c.args.change.now) c.if-change-ne32.false c.if-change-ne0.false (sym c.find.ensures ∙ c.in-None.is) (sym c.first_unknown.ensures ∙ c.in_default-first_unknown.is) c.if-tables-change.false (c.if-change-count_of.false ∙ next) c.if-change-gt4294967295.false c.if-change.false c.if-d-gt32.false c.if-tables-n.true)

pub returns-then-tables-d : goal.returns-then-tables-d
returns-then-tables-d c =
    let next : c.count_of.result + 1 ≡ suc _ = add-one _ ∙ ap suc c.count_of.ensures in
    sym (no_edge (lists c.args.tables.now) (lent_change c.args.change.now) c.if-change-ne32.false c.if-change-ne0.false (sym c.find.ensures ∙ c.in-None.is) (sym c.first_unknown.ensures ∙ c.in_default-first_unknown.is) c.if-tables-change.false (c.if-change-count_of.false ∙ next) c.if-change-gt4294967295.false c.if-change.false c.if-d-gt32.false c.if-tables-n.false c.if-tables-d.true)

pub returns : goal.returns
returns c =
    let next : c.count_of.result + 1 ≡ suc _ = add-one _ ∙ ap suc c.count_of.ensures in
    sym (done (lists c.args.tables.now) (lent_change c.args.change.now) c.if-change-ne32.false c.if-change-ne0.false (sym c.find.ensures ∙ c.in-None.is) (sym c.first_unknown.ensures ∙ c.in_default-first_unknown.is) c.if-tables-change.false (c.if-change-count_of.false ∙ next) c.if-change-gt4294967295.false c.if-change.false c.if-d-gt32.false c.if-tables-n.false c.if-tables-d.false)
