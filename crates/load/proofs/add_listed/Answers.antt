use Rattle.std.proofs.Common.{List, ℕ, ◌*◌, length, get_or, drop, take, replicate, ap, ap₂, ◌∙◌}
use Rattle.hash.specs.HashLaws.{hash_part}
use Rattle.tables.specs.Tables.{tables}
use Rattle.judge.specs.Judge.{change}
use Rattle.graph.specs.Place.{added_tables}
use Rattle.load.specs.LoadLaws.{put_part}
use Rattle.load.proofs.add_listed.Goals as goal

pub returns : goal.returns
returns c =
    let a = c.args in
    let s = a.columns.now in
    c.add.ensures.counts_after
    ∙ ap₂ (λ (h ds : List ℕ). added_tables (tables a.hashes.now a.nodes.now a.targets.now a.nexts.now a.clocks.now a.counts.now) (change h (get_or s.actors.now a.k 0) (get_or s.seqs.now a.k 0) (get_or s.maxes.now a.k 0) (get_or s.ops.now a.k 0) ds))
    (hash_part s.ids.now a.k)
    (ap (take (32 * length a.deps.now)) c.put_hashes.ensures ∙ put_part s.ids.now a.deps.now (drop (32 * length a.deps.now) (replicate 1024 0)) c.requires.k_in_bounds.2)
