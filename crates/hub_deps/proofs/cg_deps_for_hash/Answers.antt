-- What the walk along next put down in the local table is, on valid tables, what the hash depends on: that is so of the first edges of the two unpacked tables, and so of the records.
use Rattle.std.specs.Prelude.{ℕ, length}
use Rattle.std.proofs.Common.{◌≡◌, rules, arith}
use Rattle.std.proofs.lemmas.List.{length-replicate}
use Rattle.tables.specs.Lent.{lists}
use Rattle.tables.specs.Tables.{tables}
use Rattle.tables.specs.Valid.{Valid}
use Rattle.edges.specs.Edges.{lent, local_room, blank}
use Rattle.edges.specs.Told.{AskedOverFirst, valid_bounding}
use Rattle.edges.proofs.Told.{asked_of}
use Rattle.hub_deps.specs.Listed.{ListedIfValid}
use Rattle.hub_deps.specs.ListedLaws.{listed_of_first}
use Rattle.hub_deps.proofs.cg_deps_for_hash.Goals as goal

pub deps_for_hash-bytes-requires : goal.deps_for_hash-bytes-requires
deps_for_hash-bytes-requires c =
    let a = c.args in
    let same : lists c.in-Some.tables ≡ lent a.hashes.now a.nodes.now a.edges.now a.clocks.now a.counts.now = search rules in
    let valid : Valid (lent a.hashes.now a.nodes.now a.edges.now a.clocks.now a.counts.now) = search rules in
    let p = c.parents_into-n in
    let u = c.unpack.ensures in
    let first : AskedOverFirst (λ t. ListedIfValid t a.hash.now p.new.out p.result) (Unit {0}) (length a.edges.now) (tables a.hashes.now a.nodes.now c.unpack.new.targets c.unpack.new.nexts a.clocks.now a.counts.now) = record {
      within = listed_of_first blank (length-replicate {A = ℕ} local_room 0) a.hashes.now a.nodes.now a.edges.now a.clocks.now a.counts.now a.hash.now c.first_edge-first.result p.result p.new.out c.unpack.new.targets c.unpack.new.nexts c.first_edge-first.ensures p.ensures u.0 u.1;
      beyond = λ _. tt;
    } in
    let listed = asked_of a.edges.now a.hashes.now a.nodes.now a.clocks.now a.counts.now u first (λ more _ v. absurd (let b = valid_bounding (lent a.hashes.now a.nodes.now a.edges.now a.clocks.now a.counts.now) v in omega arith)) in
    rw same (valid, listed valid)
