-- What `store` promises, and then what `cache_if_due` promises of the clock table.
use Rattle.std.proofs.Common.{arith, sym, ap, subst, ◌∙◌}
use Rattle.tables.specs.Tables.{Tables, tables, changes}
use Rattle.tables.specs.Valid.{Valid}
use Rattle.cache.specs.Cache.{with_clocks}
use Rattle.judge.specs.Judged.{lent_change}
use Rattle.judge.proofs.Accepted.{accepted}
use Rattle.graph.specs.Place.{due_clocks}
use Rattle.graph.specs.Grown.{new_changes}
use Rattle.graph.specs.Growth.{stored_valid}
use Rattle.graph.proofs.place.Goals as goal

pub cache_if_due-requires : goal.cache_if_due-requires
cache_if_due-requires c =
    let t = (tables c.args.hashes.now c.args.nodes.now c.args.targets.now c.args.nexts.now c.args.clocks.now c.args.counts.now) in
    let x = (lent_change c.args.change.now) in
    let e = ap changes c.store.ensures in
    let n = new_changes t x c.requires.valid (accepted t x c.requires.deps_value) in
    (subst Valid (sym c.store.ensures) (stored_valid t x c.requires.valid c.requires.deps_value), omega arith)

pub returns : goal.returns
returns c =
    let t = (tables c.args.hashes.now c.args.nodes.now c.args.targets.now c.args.nexts.now c.args.clocks.now c.args.counts.now) in
    let u = tables c.store.new.hashes c.store.new.nodes c.store.new.targets c.store.new.nexts c.store.new.clocks c.store.new.counts in
    ap (with_clocks u) c.cache_if_due.ensures ∙ ap (λ (s : Tables). with_clocks s (due_clocks s (changes t))) c.store.ensures
