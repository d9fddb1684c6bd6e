-- The tables after a change is stored: what each place of them holds.
-- Assumes nothing.
use Rattle.std.specs.Prelude.{◌≡◌, Bool, cond, List, ℕ, zero, suc, ◌+◌, ◌*◌, ◌-◌, ◌/◌, ◌≤◌, ◌<◌, eqb, length, get_or, set, drop, replicate}
use Rattle.std.proofs.Math.Path.{refl, ap, ap₂}
use Rattle.std.proofs.Common.{sym, subst, ◌∙◌, add-one, mul-le-mul_right, suc-mul, arith, length-set, get_or-set_same, get_or-set_other, eqb-true}
use Rattle.std.proofs.Math.ListN.{take}
use Rattle.std.proofs.lemmas.List.{length-replicate, get_or-replicate}
use Rattle.std.proofs.lemmas.Bool.{eqb-false}
use Rattle.paper.specs.Lists.{mem}
use Rattle.paper.proofs.Bools.{by_bool}
use Rattle.paper.specs.Lists.{hash_at}
use Rattle.list_laws.specs.Paste.{paste_long, paste_low, paste_in, part_low, part_in}
use Rattle.tables.specs.Tables.{Tables, changes, edges, actors, actor_room, width_of, actor_at, seq_at, max_op_at, ops_at, first_at, head_at, entry_at, along}
use Rattle.tables.specs.Valid.{Valid, Lengths, Run, Laid}
use Rattle.tables.specs.Valid.Run.{last, more}
use Rattle.tables.specs.Valid.Laid.{bare, some}
use Rattle.tables.specs.LaidLaws.{NodeLaid, laid_first, laid_same}
use Rattle.tables.specs.LaidLaws.NodeLaid.{no_list, a_list}
use Rattle.tables.specs.DepsLaws.{node_along, along_same, next_inside}
use Rattle.paper.specs.Adding.{Change}
use Rattle.judge.specs.Judge.{deps_given}
use Rattle.judge.specs.JudgeLaws.{Accepted}
use Rattle.graph.specs.Place.{nexts_from, first_edge, unheaded, with_node, deps_of, stored}
use Rattle.graph.specs.PlaceLaws.{Fits, fits, nexts_long, nexts_more, nexts_last, unheaded_long, unheaded_other, unheaded_at, deps_long, new_targets, new_targets_low}

-- ---- a node's record that is written

module _ (ns : List ℕ) (n a s m c f : ℕ) (room : 6 * n + 6 ≤ length ns) where
  with_long : length (with_node ns n a s m c f) ≡ length ns
  with_long = simp length-set

  -- the records below stay
  with_low : (i : ℕ) → i < 6 * n → get_or (with_node ns n a s m c f) i 0 ≡ get_or ns i 0
  with_low i l =
      get_or-set_other (set (set (set (set (set ns (6 * n) a) (6 * n + 1) s) (6 * n + 2) m) (6 * n + 3) c) (6 * n + 4) f) (6 * n + 5) i 1 0 (λ q. omega arith)
      ∙ get_or-set_other (set (set (set (set ns (6 * n) a) (6 * n + 1) s) (6 * n + 2) m) (6 * n + 3) c) (6 * n + 4) i f 0 (λ q. omega arith)
      ∙ get_or-set_other (set (set (set ns (6 * n) a) (6 * n + 1) s) (6 * n + 2) m) (6 * n + 3) i c 0 (λ q. omega arith)
      ∙ get_or-set_other (set (set ns (6 * n) a) (6 * n + 1) s) (6 * n + 2) i m 0 (λ q. omega arith)
      ∙ get_or-set_other (set ns (6 * n) a) (6 * n + 1) i s 0 (λ q. omega arith)
      ∙ get_or-set_other ns (6 * n) i a 0 (λ q. omega arith)

  with_head : head_at (with_node ns n a s m c f) n ≡ 1
  with_head = get_or-set_same (set (set (set (set (set ns (6 * n) a) (6 * n + 1) s) (6 * n + 2) m) (6 * n + 3) c) (6 * n + 4) f) (6 * n + 5) 1 0 (simp length-set (omega arith))

  with_first : first_at (with_node ns n a s m c f) n ≡ f
  with_first =
      get_or-set_other (set (set (set (set (set ns (6 * n) a) (6 * n + 1) s) (6 * n + 2) m) (6 * n + 3) c) (6 * n + 4) f) (6 * n + 5) (6 * n + 4) 1 0 (λ q. omega arith)
      ∙ get_or-set_same (set (set (set (set ns (6 * n) a) (6 * n + 1) s) (6 * n + 2) m) (6 * n + 3) c) (6 * n + 4) f 0 (simp length-set (omega arith))

  with_ops : ops_at (with_node ns n a s m c f) n ≡ c
  with_ops =
      get_or-set_other (set (set (set (set (set ns (6 * n) a) (6 * n + 1) s) (6 * n + 2) m) (6 * n + 3) c) (6 * n + 4) f) (6 * n + 5) (6 * n + 3) 1 0 (λ q. omega arith)
      ∙ get_or-set_other (set (set (set (set ns (6 * n) a) (6 * n + 1) s) (6 * n + 2) m) (6 * n + 3) c) (6 * n + 4) (6 * n + 3) f 0 (λ q. omega arith)
      ∙ get_or-set_same (set (set (set ns (6 * n) a) (6 * n + 1) s) (6 * n + 2) m) (6 * n + 3) c 0 (simp length-set (omega arith))

  with_max : max_op_at (with_node ns n a s m c f) n ≡ m
  with_max =
      get_or-set_other (set (set (set (set (set ns (6 * n) a) (6 * n + 1) s) (6 * n + 2) m) (6 * n + 3) c) (6 * n + 4) f) (6 * n + 5) (6 * n + 2) 1 0 (λ q. omega arith)
      ∙ get_or-set_other (set (set (set (set ns (6 * n) a) (6 * n + 1) s) (6 * n + 2) m) (6 * n + 3) c) (6 * n + 4) (6 * n + 2) f 0 (λ q. omega arith)
      ∙ get_or-set_other (set (set (set ns (6 * n) a) (6 * n + 1) s) (6 * n + 2) m) (6 * n + 3) (6 * n + 2) c 0 (λ q. omega arith)
      ∙ get_or-set_same (set (set ns (6 * n) a) (6 * n + 1) s) (6 * n + 2) m 0 (simp length-set (omega arith))

  with_seq : seq_at (with_node ns n a s m c f) n ≡ s
  with_seq =
      get_or-set_other (set (set (set (set (set ns (6 * n) a) (6 * n + 1) s) (6 * n + 2) m) (6 * n + 3) c) (6 * n + 4) f) (6 * n + 5) (6 * n + 1) 1 0 (λ q. omega arith)
      ∙ get_or-set_other (set (set (set (set ns (6 * n) a) (6 * n + 1) s) (6 * n + 2) m) (6 * n + 3) c) (6 * n + 4) (6 * n + 1) f 0 (λ q. omega arith)
      ∙ get_or-set_other (set (set (set ns (6 * n) a) (6 * n + 1) s) (6 * n + 2) m) (6 * n + 3) (6 * n + 1) c 0 (λ q. omega arith)
      ∙ get_or-set_other (set (set ns (6 * n) a) (6 * n + 1) s) (6 * n + 2) (6 * n + 1) m 0 (λ q. omega arith)
      ∙ get_or-set_same (set ns (6 * n) a) (6 * n + 1) s 0 (simp length-set (omega arith))

  with_actor : actor_at (with_node ns n a s m c f) n ≡ a
  with_actor =
      get_or-set_other (set (set (set (set (set ns (6 * n) a) (6 * n + 1) s) (6 * n + 2) m) (6 * n + 3) c) (6 * n + 4) f) (6 * n + 5) (6 * n) 1 0 (λ q. omega arith)
      ∙ get_or-set_other (set (set (set (set ns (6 * n) a) (6 * n + 1) s) (6 * n + 2) m) (6 * n + 3) c) (6 * n + 4) (6 * n) f 0 (λ q. omega arith)
      ∙ get_or-set_other (set (set (set ns (6 * n) a) (6 * n + 1) s) (6 * n + 2) m) (6 * n + 3) (6 * n) c 0 (λ q. omega arith)
      ∙ get_or-set_other (set (set ns (6 * n) a) (6 * n + 1) s) (6 * n + 2) (6 * n) m 0 (λ q. omega arith)
      ∙ get_or-set_other (set ns (6 * n) a) (6 * n + 1) (6 * n) s 0 (λ q. omega arith)
      ∙ get_or-set_same ns (6 * n) a 0 (omega arith)

-- ---- the tables

module _ (t : Tables) (x : Change) (v : Valid t) (a : Accepted t x) where
  fit : Fits t x
  fit = fits t x v a

  -- counts
  pub new_changes : changes (stored t x) ≡ suc (changes t)
  new_changes =
      get_or-set_other (set t.counts 0 (changes t + 1)) 1 0 (edges t + deps_given x) 0 (λ q. omega arith)
      ∙ get_or-set_same t.counts 0 (changes t + 1) 0 (let c = fit.counts_three in omega arith)
      ∙ add-one (changes t)

  pub new_edges : edges (stored t x) ≡ edges t + deps_given x
  new_edges = get_or-set_same (set t.counts 0 (changes t + 1)) 1 (edges t + deps_given x) 0 (simp length-set (let c = fit.counts_three in omega arith))

  pub new_actors : actors (stored t x) ≡ actors t
  new_actors =
      get_or-set_other (set t.counts 0 (changes t + 1)) 1 2 (edges t + deps_given x) 0 (λ q. omega arith)
      ∙ get_or-set_other t.counts 0 2 (changes t + 1) 0 (λ q. omega arith)

  -- lengths
  hash_room : 32 * changes t + length x.hash ≤ length t.hashes
  hash_room = let h = a.hash_long in let f = fit.hash_fits in omega arith

  deps_enough : deps_given x ≤ length (deps_of t x)
  deps_enough = let z = deps_long t x a fit in omega arith

  nexts_enough : deps_given x ≤ length (nexts_from (deps_given x) (edges t))
  nexts_enough = let z = nexts_long (deps_given x) (edges t) in omega arith

  zeros_enough : actor_room t ≤ length {A = ℕ} (replicate (actor_room t) 0)
  zeros_enough = let z = length-replicate {A = ℕ} (actor_room t) 0 in omega arith

  flags_room : 6 * changes t + 6 ≤ length (unheaded (deps_of t x) t.nodes)
  flags_room = let z = unheaded_long (deps_of t x) t.nodes in let f = fit.node_fits in omega arith

  pub hashes_long : length (stored t x).hashes ≡ length t.hashes
  hashes_long = paste_long t.hashes (32 * changes t) x.hash (length x.hash) hash_room (omega arith)

  nodes_long : length (stored t x).nodes ≡ length t.nodes
  nodes_long =
      with_long (unheaded (deps_of t x) t.nodes) (changes t) x.actor x.seq x.max_op x.ops (first_edge (deps_given x) (edges t)) flags_room
      ∙ unheaded_long (deps_of t x) t.nodes

  pub targets_long : length (stored t x).targets ≡ length t.targets
  targets_long = paste_long t.targets (edges t) (deps_of t x) (deps_given x) fit.targets_fit deps_enough

  nexts_same_long : length (stored t x).nexts ≡ length t.nexts
  nexts_same_long = paste_long t.nexts (edges t) (nexts_from (deps_given x) (edges t)) (deps_given x) fit.nexts_fit nexts_enough

  clocks_long : length (stored t x).clocks ≡ length t.clocks
  clocks_long = paste_long t.clocks (changes t * actor_room t) (replicate (actor_room t) 0) (actor_room t) fit.row_fits zeros_enough

  pub new_width : actor_room (stored t x) ≡ actor_room t
  unfolding width_of
  new_width = ap₂ (λ (c h : ℕ). c / (h / 32)) clocks_long hashes_long

  pub new_lengths : Lengths (stored t x)
  new_lengths =
      let l = v.sound.lengths in
      let h = hashes_long in
      let n = nodes_long in
      let g = targets_long in
      let y = nexts_same_long in
      let w = new_width in
      record {
        hashes_whole = omega (arith, l.hashes_whole);
        changes_limit = omega (arith, l.changes_limit);
        nodes_same = omega (arith, l.nodes_same);
        edges_limit = omega (arith, l.edges_limit);
        nexts_same = omega (arith, l.nexts_same);
        actors_limit = omega (arith, l.actors_limit);
        clocks_whole = clocks_long ∙ l.clocks_whole ∙ ap₂ (λ (i j : ℕ). i / 32 * j) (sym hashes_long) (sym new_width);
        counts_three = simp length-set l.counts_three;
      }

  -- hashes
  pub old_hash : (k : ℕ) → k < changes t → hash_at (stored t x).hashes k ≡ hash_at t.hashes k
  unfolding hash_at
  old_hash k l = part_low t.hashes (32 * changes t) x.hash (length x.hash) hash_room (omega arith) (32 * k) 32 (omega arith)

  pub new_hash : hash_at (stored t x).hashes (changes t) ≡ x.hash
  unfolding hash_at
  new_hash =
      ap (λ (m : ℕ). take m (drop (32 * changes t) (stored t x).hashes)) (sym a.hash_long)
      ∙ part_in t.hashes (32 * changes t) x.hash (length x.hash) hash_room (omega arith) refl

  -- records
  pub old_number : (k : ℕ) → k < changes t → (j : ℕ) → j < 5 → get_or (stored t x).nodes (6 * k + j) 0 ≡ get_or t.nodes (6 * k + j) 0
  old_number k l j h =
      with_low (unheaded (deps_of t x) t.nodes) (changes t) x.actor x.seq x.max_op x.ops (first_edge (deps_given x) (edges t)) flags_room (6 * k + j) (omega arith)
      ∙ unheaded_other (deps_of t x) t.nodes (6 * k + j) (λ i q. omega arith)

  pub old_actor : (k : ℕ) → k < changes t → actor_at (stored t x).nodes k ≡ actor_at t.nodes k
  old_actor k l =
      with_low (unheaded (deps_of t x) t.nodes) (changes t) x.actor x.seq x.max_op x.ops (first_edge (deps_given x) (edges t)) flags_room (6 * k) (omega arith)
      ∙ unheaded_other (deps_of t x) t.nodes (6 * k) (λ i q. omega arith)

  pub old_head : (k : ℕ) → k < changes t → head_at (stored t x).nodes k ≡ cond (mem k (deps_of t x)) 0 (head_at t.nodes k)
  old_head k l =
      with_low (unheaded (deps_of t x) t.nodes) (changes t) x.actor x.seq x.max_op x.ops (first_edge (deps_given x) (edges t)) flags_room (6 * k + 5) (omega arith)
      ∙ unheaded_at (deps_of t x) t.nodes k (let f = fit.node_fits in omega arith)

  pub new_actor : actor_at (stored t x).nodes (changes t) ≡ x.actor
  new_actor = with_actor (unheaded (deps_of t x) t.nodes) (changes t) x.actor x.seq x.max_op x.ops (first_edge (deps_given x) (edges t)) flags_room

  pub new_seq : seq_at (stored t x).nodes (changes t) ≡ x.seq
  new_seq = with_seq (unheaded (deps_of t x) t.nodes) (changes t) x.actor x.seq x.max_op x.ops (first_edge (deps_given x) (edges t)) flags_room

  pub new_max : max_op_at (stored t x).nodes (changes t) ≡ x.max_op
  new_max = with_max (unheaded (deps_of t x) t.nodes) (changes t) x.actor x.seq x.max_op x.ops (first_edge (deps_given x) (edges t)) flags_room

  pub new_ops : ops_at (stored t x).nodes (changes t) ≡ x.ops
  new_ops = with_ops (unheaded (deps_of t x) t.nodes) (changes t) x.actor x.seq x.max_op x.ops (first_edge (deps_given x) (edges t)) flags_room

  new_first : first_at (stored t x).nodes (changes t) ≡ first_edge (deps_given x) (edges t)
  new_first = with_first (unheaded (deps_of t x) t.nodes) (changes t) x.actor x.seq x.max_op x.ops (first_edge (deps_given x) (edges t)) flags_room

  pub new_head : head_at (stored t x).nodes (changes t) ≡ 1
  new_head = with_head (unheaded (deps_of t x) t.nodes) (changes t) x.actor x.seq x.max_op x.ops (first_edge (deps_given x) (edges t)) flags_room

  -- edges
  old_target : (i : ℕ) → i < edges t → get_or (stored t x).targets i 0 ≡ get_or t.targets i 0
  old_target = paste_low t.targets (edges t) (deps_of t x) (deps_given x) fit.targets_fit deps_enough

  old_next : (i : ℕ) → i < edges t → get_or (stored t x).nexts i 0 ≡ get_or t.nexts i 0
  old_next = paste_low t.nexts (edges t) (nexts_from (deps_given x) (edges t)) (deps_given x) fit.nexts_fit nexts_enough

  new_next : (j : ℕ) → j < deps_given x → get_or (stored t x).nexts (edges t + j) 0 ≡ get_or (nexts_from (deps_given x) (edges t)) j 0
  new_next = paste_in t.nexts (edges t) (nexts_from (deps_given x) (edges t)) (deps_given x) fit.nexts_fit nexts_enough

  -- the new node's list, from its edge j on
  new_run : (left j : ℕ) → j + suc left ≡ deps_given x → Run (stored t x).targets (stored t x).nexts (changes t) (edges t + j) (edges t + deps_given x)
  new_run zero j e =
      last {c = edges t + j} {d = edges t + deps_given x} (new_targets_low t x a fit (edges t + j) (omega arith) (omega arith)) (new_next j (omega arith) ∙ nexts_last (deps_given x) (edges t) j (omega arith)) (omega arith)
  new_run (suc left) j e =
      let s : edges t + (j + 1) ≡ edges t + j + 1 = omega arith in
      more {c = edges t + j} (new_targets_low t x a fit (edges t + j) (omega arith) (omega arith)) (new_next j (omega arith) ∙ nexts_more (deps_given x) (edges t) j (omega arith))
      (subst (λ (c : ℕ). Run (stored t x).targets (stored t x).nexts (changes t) c (edges t + deps_given x)) s (new_run left (j + 1) (omega arith)))

  new_list : NodeLaid (stored t x).nodes (stored t x).targets (stored t x).nexts (changes t) (edges t) (edges t + deps_given x)
  new_list =
      by_bool (eqb (deps_given x) 0)
      (λ z. let e = eqb-true (deps_given x) 0 z in no_list (new_first ∙ ap (λ (b : Bool). cond b 0 (edges t + 1)) z) (omega arith))
      (λ z.
      let e = eqb-false (deps_given x) 0 z in
      let p : 0 < deps_given x = pos (deps_given x) e in
      let s : edges t + 0 ≡ edges t = omega arith in
      let w = a.few in
      a_list (new_first ∙ ap (λ (b : Bool). cond b 0 (edges t + 1)) z)
      (subst (λ (c : ℕ). Run (stored t x).targets (stored t x).nexts (changes t) c (edges t + deps_given x)) s (new_run (deps_given x - 1) 0 (omega arith)))
      (omega arith))
    where
      pos : (d : ℕ) → (d ≡ 0 → ⊥) → 0 < d
      pos zero n = absurd (n refl)
      pos (suc d) n = omega arith

  pub new_laid : Laid (stored t x).nodes (stored t x).targets (stored t x).nexts (changes (stored t x)) (edges (stored t x))
  new_laid = subst (λ (e : ℕ). Laid (stored t x).nodes (stored t x).targets (stored t x).nexts (changes (stored t x)) e) (sym new_edges) (go new_list)
    where
      old : Laid (stored t x).nodes (stored t x).targets (stored t x).nexts (changes t) (edges t)
      old = laid_same t.targets t.nexts (stored t x).targets (stored t x).nexts (edges t) old_target old_next v.sound.laid (omega arith) (λ k l. old_number k l 4 (omega arith))

      go : {e : ℕ} → NodeLaid (stored t x).nodes (stored t x).targets (stored t x).nexts (changes t) (edges t) e → Laid (stored t x).nodes (stored t x).targets (stored t x).nexts (changes (stored t x)) e
      go {e} (no_list f q) = let z : changes (stored t x) ≡ changes t + 1 = new_changes ∙ sym (add-one (changes t)) in subst (λ (c : ℕ). Laid (stored t x).nodes (stored t x).targets (stored t x).nexts (changes (stored t x)) c) (sym q) (bare old z f)
      go {e} (a_list f r b) = let z : changes (stored t x) ≡ changes t + 1 = new_changes ∙ sym (add-one (changes t)) in some old z f r b

  -- dependencies
  pub old_deps : (k : ℕ) → k < changes t → along (stored t x).targets (stored t x).nexts (first_at (stored t x).nodes k) ≡ along t.targets t.nexts (first_at t.nodes k)
  old_deps k l =
      ap (along (stored t x).targets (stored t x).nexts) (old_number k l 4 (omega arith))
      ∙ along_same t.targets t.nexts (stored t x).targets (stored t x).nexts (edges t) (next_inside t.nodes t.targets t.nexts v.sound.laid) old_target old_next targets_long (first_at t.nodes k)
      (laid_first t.nodes t.targets t.nexts v.sound.laid k l)

  pub new_deps : along (stored t x).targets (stored t x).nexts (first_at (stored t x).nodes (changes t)) ≡ deps_of t x
  new_deps =
      node_along (stored t x).nodes (stored t x).targets (stored t x).nexts new_list (let l = targets_long in let f = fit.targets_fit in omega arith)
      ∙ new_targets t x a fit

  -- rows of the clock table
  pub old_entry : (k : ℕ) → k < changes t → (i : ℕ) → i < actor_room t → entry_at (stored t x) k i ≡ entry_at t k i
  old_entry k l i h =
      let b : suc k * actor_room t ≤ changes t * actor_room t = mul-le-mul_right (actor_room t) l in
      let c = suc-mul k (actor_room t) in
      ap (λ (w : ℕ). get_or (stored t x).clocks (k * w + i) 0) new_width
      ∙ paste_low t.clocks (changes t * actor_room t) (replicate (actor_room t) 0) (actor_room t) fit.row_fits zeros_enough (k * actor_room t + i) (omega arith)

  pub new_entry : (i : ℕ) → i < actor_room t → entry_at (stored t x) (changes t) i ≡ 0
  new_entry i h =
      ap (λ (w : ℕ). get_or (stored t x).clocks (changes t * w + i) 0) new_width
      ∙ paste_in t.clocks (changes t * actor_room t) (replicate (actor_room t) 0) (actor_room t) fit.row_fits zeros_enough i h
      ∙ get_or-replicate {A = ℕ} (actor_room t) i 0 0 h
