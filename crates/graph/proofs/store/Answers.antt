-- Each call's promise is one column, and `same_tables` joins them. What is judged `Ok` has the room.
use Rattle.std.proofs.Common.{arith, refl, ap, ◌∙◌, ℕ, List, ◌+◌, ◌*◌, length, get_or, replicate}
use Rattle.std.proofs.Math.Seq.{paste, slice}
use Rattle.tables.specs.Tables.{tables, changes, edges}
use Rattle.judge.specs.Judged.{lent_change}
use Rattle.judge.specs.Judge.{deps_given}
use Rattle.judge.proofs.Accepted.{accepted}
use Rattle.graph.specs.Place.{unheaded, with_node, deps_of}
use Rattle.graph.specs.PlaceLaws.{same_tables, fits, unheaded_long, new_targets_low, new_targets, stored_targets_long}
use Rattle.graph.proofs.store.Goals as goal

pub put_targets-requires-clause-n_in_bounds : goal.put_targets-requires-clause-n_in_bounds
put_targets-requires-clause-n_in_bounds c =
    let t = (tables c.args.hashes.now c.args.nodes.now c.args.targets.now c.args.nexts.now c.args.clocks.now c.args.counts.now) in
    let x = (lent_change c.args.change.now) in
    let ok = accepted t x c.requires.deps_value in
    let f = fits t x c.requires.valid ok in
    (omega arith, omega arith, f.targets_fit)

pub put_targets-requires-clause-deps_value : goal.put_targets-requires-clause-deps_value
put_targets-requires-clause-deps_value c =
    let t = (tables c.args.hashes.now c.args.nodes.now c.args.targets.now c.args.nexts.now c.args.clocks.now c.args.counts.now) in
    let x = (lent_change c.args.change.now) in
    let ok = accepted t x c.requires.deps_value in
    ok.all_known

pub put_nexts-requires : goal.put_nexts-requires
put_nexts-requires c =
    let t = (tables c.args.hashes.now c.args.nodes.now c.args.targets.now c.args.nexts.now c.args.clocks.now c.args.counts.now) in
    let x = (lent_change c.args.change.now) in
    let ok = accepted t x c.requires.deps_value in
    let f = fits t x c.requires.valid ok in
    (f.nexts_fit, f.nexts_short)

pub clear_heads-requires-clause-e_le_f : goal.clear_heads-requires-clause-e_le_f
clear_heads-requires-clause-e_le_f c =
    let t = (tables c.args.hashes.now c.args.nodes.now c.args.targets.now c.args.nexts.now c.args.clocks.now c.args.counts.now) in
    let x = (lent_change c.args.change.now) in
    let ok = accepted t x c.requires.deps_value in
    let f = fits t x c.requires.valid ok in
    let l = ap length c.put_targets.ensures ∙ stored_targets_long t x ok f in
    (omega arith, omega (arith, f.targets_fit))

pub clear_heads-requires-clause-by_index : goal.clear_heads-requires-clause-by_index
clear_heads-requires-clause-by_index c =
    let t = (tables c.args.hashes.now c.args.nodes.now c.args.targets.now c.args.nexts.now c.args.clocks.now c.args.counts.now) in
    let x = (lent_change c.args.change.now) in
    let ok = accepted t x c.requires.deps_value in
    let f = fits t x c.requires.valid ok in
    let e = c.put_targets.ensures in
    λ i b h. let q = new_targets_low t x ok f i b h in let r = ap (λ (l : List ℕ). get_or l i 0) e in omega (arith, f.node_fits)

pub overflow_cast-change : goal.overflow_cast-change
overflow_cast-change c =
    let t = (tables c.args.hashes.now c.args.nodes.now c.args.targets.now c.args.nexts.now c.args.clocks.now c.args.counts.now) in
    let x = (lent_change c.args.change.now) in
    let ok = accepted t x c.requires.deps_value in
    let f = fits t x c.requires.valid ok in
    omega (arith, f.actor_small)

pub overflow_cast-change-2 : goal.overflow_cast-change-2
overflow_cast-change-2 c =
    let t = (tables c.args.hashes.now c.args.nodes.now c.args.targets.now c.args.nexts.now c.args.clocks.now c.args.counts.now) in
    let x = (lent_change c.args.change.now) in
    let ok = accepted t x c.requires.deps_value in
    let f = fits t x c.requires.valid ok in
    omega (arith, f.seq_small)

pub overflow_cast-change-3 : goal.overflow_cast-change-3
overflow_cast-change-3 c =
    let t = (tables c.args.hashes.now c.args.nodes.now c.args.targets.now c.args.nexts.now c.args.clocks.now c.args.counts.now) in
    let x = (lent_change c.args.change.now) in
    let ok = accepted t x c.requires.deps_value in
    omega (arith, ok.max_low)

pub overflow_cast-change-4 : goal.overflow_cast-change-4
overflow_cast-change-4 c =
    let t = (tables c.args.hashes.now c.args.nodes.now c.args.targets.now c.args.nexts.now c.args.clocks.now c.args.counts.now) in
    let x = (lent_change c.args.change.now) in
    let ok = accepted t x c.requires.deps_value in
    omega (arith, ok.max_low, ok.ops_low)

pub put_node-requires : goal.put_node-requires
put_node-requires c =
    let t = (tables c.args.hashes.now c.args.nodes.now c.args.targets.now c.args.nexts.now c.args.clocks.now c.args.counts.now) in
    let x = (lent_change c.args.change.now) in
    let ok = accepted t x c.requires.deps_value in
    let f = fits t x c.requires.valid ok in
    let l = ap length c.clear_heads.ensures ∙ unheaded_long _ _ in
    omega (arith, f.node_fits)

pub put_bytes-requires : goal.put_bytes-requires
put_bytes-requires c =
    let t = (tables c.args.hashes.now c.args.nodes.now c.args.targets.now c.args.nexts.now c.args.clocks.now c.args.counts.now) in
    let x = (lent_change c.args.change.now) in
    let ok = accepted t x c.requires.deps_value in
    let f = fits t x c.requires.valid ok in
    let h = ok.hash_long in omega (arith, f.hash_fits)

pub put_zeros-requires : goal.put_zeros-requires
put_zeros-requires c =
    let t = (tables c.args.hashes.now c.args.nodes.now c.args.targets.now c.args.nexts.now c.args.clocks.now c.args.counts.now) in
    let x = (lent_change c.args.change.now) in
    let ok = accepted t x c.requires.deps_value in
    let f = fits t x c.requires.valid ok in
    rw c.actor_room-w.ensures f.row_fits

pub overflow_cast-counts-2 : goal.overflow_cast-counts-2
overflow_cast-counts-2 c =
    let t = (tables c.args.hashes.now c.args.nodes.now c.args.targets.now c.args.nexts.now c.args.clocks.now c.args.counts.now) in
    let x = (lent_change c.args.change.now) in
    let ok = accepted t x c.requires.deps_value in
    let f = fits t x c.requires.valid ok in
    omega (arith, f.nexts_fit, f.nexts_short)

pub returns : goal.returns
returns c =
    let t = (tables c.args.hashes.now c.args.nodes.now c.args.targets.now c.args.nexts.now c.args.clocks.now c.args.counts.now) in
    let x = (lent_change c.args.change.now) in
    let ok = accepted t x c.requires.deps_value in
    let f = fits t x c.requires.valid ok in
    let targets_now = c.put_targets.ensures in
    let flags_now =
    c.clear_heads.ensures
    ∙ ap (λ (l : List ℕ). unheaded (slice (edges t) (edges t + deps_given x) l) t.nodes) targets_now
    ∙ ap (λ (l : List ℕ). unheaded l t.nodes) (new_targets t x ok f) in
    let nodes_now =
    c.put_node.ensures
    ∙ ap (λ (l : List ℕ). with_node l (changes t) x.actor x.seq x.max_op x.ops c.first_edge.result) flags_now
    ∙ ap (with_node (unheaded (deps_of t x) t.nodes) (changes t) x.actor x.seq x.max_op x.ops) c.first_edge.ensures in
    let rows_now = c.put_zeros.ensures ∙ ap (λ (w : ℕ). paste t.clocks (changes t * w) (replicate w 0) w) c.actor_room-w.ensures in
    same_tables c.put_bytes.ensures nodes_now targets_now c.put_nexts.ensures rows_now refl
