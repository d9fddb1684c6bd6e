-- What the core says of the first edges of the two local tables is said of the records, which they are.
use Rattle.std.proofs.Common.{◌≡◌, ◌≤◌, ◌++◌, length, drop, ◌∙◌, length-append, length-drop, length-take-le, arith}
use Rattle.tables.specs.Tables.{tables}
use Rattle.columns.specs.Columns.{columns}
use Rattle.edges.specs.Told.{told_part}
use Rattle.edges.specs.Edges.{local_room}
use Rattle.edges.proofs.Told.{told_of}
use Rattle.hub_load.specs.Operations.{Loaded, loaded_refused}
use Rattle.hub_load.proofs.cg_load.Goals as goal

pub returns : goal.returns
returns c =
    let a = c.args in
    let u = c.unpack in
    let o = c.load_checked-r in
    let room = c.if-e-gt16384.false in
    let g = u.auto.targets in
    let g' = u.auto.nexts in
    let h = o.auto.targets in
    let h' = o.auto.nexts in
    let same : length o.new.targets ≡ length a.edges.now = h ∙ length-take-le (length a.edges.now) u.new.targets (omega arith) in
    let same' : length o.new.nexts ≡ length a.edges.now = h' ∙ length-take-le (length a.edges.now) u.new.nexts (omega arith) in
    let ts = o.new.targets ++ drop (length a.edges.now) u.new.targets in
    let xs = o.new.nexts ++ drop (length a.edges.now) u.new.nexts in
    let long : length ts ≡ local_room = omega (arith, length-append o.new.targets (drop (length a.edges.now) u.new.targets), length-drop (length a.edges.now) u.new.targets) in
    let long' : length xs ≡ local_room = omega (arith, length-append o.new.nexts (drop (length a.edges.now) u.new.nexts), length-drop (length a.edges.now) u.new.nexts) in
    let R = Loaded (columns a.ids.now a.actors.now a.seqs.now a.maxes.now a.ops.now a.deps.now a.values.now a.heads.now a.count) in
    told_of a.edges.now R o.result a.hashes.now a.nodes.now a.clocks.now a.counts.now o.new.hashes o.new.nodes ts xs o.new.clocks o.new.counts u.ensures long long' c.pack.ensures
    (told_part R (length a.edges.now) u.new.targets u.new.nexts o.new.targets o.new.nexts (omega arith) (omega arith) same same' a.hashes.now a.nodes.now a.clocks.now a.counts.now o.new.hashes o.new.nodes o.new.clocks o.new.counts o.result o.ensures)
    (loaded_refused _)
