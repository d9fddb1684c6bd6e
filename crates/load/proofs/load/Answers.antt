use Rattle.std.proofs.Common.{sym, ap, ◌∙◌, arith}
use Rattle.paper.proofs.Loading.{agreed}
use Rattle.tables.specs.Tables.{Tables, tables}
use Rattle.graph.specs.Place.{adds}
use Rattle.paper.specs.Loading.{changes_of}
use Rattle.columns.specs.Columns.{listed}
use Rattle.load.specs.DoneLaws.{told, taken, kept, no_error, loaded_done, stored, stored_valid, fillable_columns}
use Rattle.load.proofs.load.Goals as goal

pub returns-in_err-judge-clause-counts_after : goal.returns-in_err-judge-clause-counts_after
returns-in_err-judge-clause-counts_after c =
    let a = c.args in
    let t = tables a.hashes.now a.nodes.now a.targets.now a.nexts.now a.clocks.now a.counts.now in
    kept t (listed a.columns.now) _ (told t (listed a.columns.now) _ _ c.actor_room-rows.ensures c.in_err-judge.ensures)

pub overflow_cast-counts : goal.overflow_cast-counts
overflow_cast-counts c =
    let a = c.args in
    let t = tables a.hashes.now a.nodes.now a.targets.now a.nexts.now a.clocks.now a.counts.now in
    omega (arith, (taken _ _ _ (listed a.columns.now) (no_error t (listed a.columns.now) (told t (listed a.columns.now) _ _ c.actor_room-rows.ensures c.in_ok-judge.ensures))).actors_fit, c.requires.actors_limit)

pub fill-requires-clause-valid : goal.fill-requires-clause-valid
fill-requires-clause-valid c =
    let a = c.args in
    let t = tables a.hashes.now a.nodes.now a.targets.now a.nexts.now a.clocks.now a.counts.now in
    stored_valid a.hashes.now a.nodes.now a.targets.now a.nexts.now a.clocks.now a.counts.now a.columns.now.count c.requires
    (taken _ _ _ (listed a.columns.now) (no_error t (listed a.columns.now) (told t (listed a.columns.now) _ _ c.actor_room-rows.ensures c.in_ok-judge.ensures))).actors_fit

pub fill-requires-clause-fillable : goal.fill-requires-clause-fillable
fill-requires-clause-fillable c =
    let a = c.args in
    let t = tables a.hashes.now a.nodes.now a.targets.now a.nexts.now a.clocks.now a.counts.now in
    fillable_columns (listed a.columns.now)
    (agreed (listed a.columns.now) (taken _ _ _ (listed a.columns.now) (no_error t (listed a.columns.now) (told t (listed a.columns.now) _ _ c.actor_room-rows.ensures c.in_ok-judge.ensures))).agreeing)

pub returns-clause-counts_after : goal.returns-clause-counts_after
returns-clause-counts_after c =
    let a = c.args in
    let t = tables a.hashes.now a.nodes.now a.targets.now a.nexts.now a.clocks.now a.counts.now in
    c.fill.ensures
    ∙ ap (λ (u : Tables). adds u (changes_of (listed a.columns.now))) (stored a.hashes.now a.nodes.now a.targets.now a.nexts.now a.clocks.now a.counts.now a.columns.now.count c.requires)
    ∙ sym (loaded_done t (listed a.columns.now) (no_error t (listed a.columns.now) (told t (listed a.columns.now) _ _ c.actor_room-rows.ensures c.in_ok-judge.ensures)))
