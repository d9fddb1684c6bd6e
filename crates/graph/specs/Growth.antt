-- Placing an accepted change: the graph grows by that node and no more, and the tables stay valid.
-- Assumes nothing.
use Rattle.std.proofs.Math.Path.{◌≡◌, refl, sym, ap, subst}
use Rattle.std.proofs.Common.{◌∙◌, arith}
use Rattle.std.specs.Prelude.{◌⊎◌, Bool, ◌||◌, ℕ, suc, ◌<◌, eqb, get_or, None, Ok}
use Rattle.std.proofs.Math.Logic.{inl, inr, ⊎_elim}
use Rattle.std.proofs.Math.Bool.{true, false, cond}
use mathlib.Core.List.{List, [], ◌∷◌}
use Rattle.paper.specs.Lists.{mem, tally}
use Rattle.paper.specs.Graph.{Graph, clock, wanted, ValidGraph as ValidGraph}
use Rattle.paper.specs.ProofWords.{Extends}
use Rattle.paper.proofs.Bools.{below_suc, mem_single, mem_place}
use Rattle.paper.proofs.Extend.{valid_add, wanted_add, new_unwanted, clock_extend}
use Rattle.paper.specs.Lists.{hash_at}
use Rattle.hash.specs.HashLaws.{FoundIs, find_is}
use Rattle.tables.specs.Tables.{Tables, changes, actors, actor_room, actor_at, seq_at, head_at, entry_at, graph}
use Rattle.tables.specs.Valid.{Counts, HashesDistinct, NumbersAt, Numbers, Running, Heads, Rows, Valid, count_of}
use Rattle.tables.specs.DepsLaws.{valid_graph}
use Rattle.paper.specs.Adding.{Change}
use Rattle.judge.specs.Judge.{deps_given, tables_judged}
use Rattle.judge.specs.JudgeLaws.{Accepted}
use Rattle.judge.proofs.Accepted.{accepted}
use Rattle.graph.specs.Place.{deps_of, stored}
use Rattle.graph.specs.PlaceLaws.{fits, deps_long, nodes_low}
use Rattle.graph.specs.Grown.{new_changes, new_edges, new_actors, new_width, new_lengths, hashes_long, targets_long, old_hash, new_hash, old_number, old_actor, old_head, new_actor, new_seq, new_max, new_ops, new_head, new_laid, old_deps, new_deps, old_entry, new_entry}

-- the graph g' is g with the change x as its last node, whose dependencies are the nodes ds
pub record Grows (g : Graph) (x : Change) (ds : List ℕ) (g' : Graph) : Type 0 where
  pub extends : Extends g g'
  pub one_more : g'.size ≡ suc g.size
  pub hash : g'.hash g.size ≡ x.hash
  pub actor : g'.actor g.size ≡ x.actor
  pub seq : g'.seq g.size ≡ x.seq
  pub max_op : g'.max_op g.size ≡ x.max_op
  pub ops : g'.ops g.size ≡ x.ops
  pub deps : g'.deps g.size ≡ ds

module _ (t : Tables) (x : Change) (v : Valid t) (a : Accepted t x) where
  pub extended : Extends (graph t) (graph (stored t x))
  extended = record {
    longer = let n = new_changes t x v a in omega arith;
    hashes = old_hash t x v a;
    max_ops = λ k l. old_number t x v a k l 2 (omega arith);
    op_counts = λ k l. old_number t x v a k l 3 (omega arith);
    actors = old_actor t x v a;
    seqs = λ k l. old_number t x v a k l 1 (omega arith);
    depss = old_deps t x v a;
  }

  -- the graph grows by the change
  pub grows : Grows (graph t) x (deps_of t x) (graph (stored t x))
  grows = record {
    extends = extended;
    one_more = new_changes t x v a;
    hash = new_hash t x v a;
    actor = new_actor t x v a;
    seq = new_seq t x v a;
    max_op = new_max t x v a;
    ops = new_ops t x v a;
    deps = new_deps t x v a;
  }

  -- what holds of each old node and of the new one holds of each
  each : (P : ℕ → Type 0) → ((k : ℕ) → k < changes t → P k) → P (changes t) → (k : ℕ) → k < changes (stored t x) → P k
  each P old new k l = below_suc P (changes t) k (let n = new_changes t x v a in omega arith) (old k) new

  pub low : (j : ℕ) → mem j ((graph (stored t x)).deps (changes t)) ≡ true → j < changes t
  low j m =
      let p = mem_place j (deps_of t x) (rw (new_deps t x v a) at m) in
      let l = deps_long t x a (fits t x v a) in
      let b : p.0 < deps_given x = (let q = p.1 in omega arith) in
      let r = nodes_low t.hashes (changes t) x.deps a.all_known p.0 b in
      let e : get_or (deps_of t x) p.0 0 ≡ j = p.2 in
      omega arith

  pub next : seq_at (stored t x).nodes (changes t) ≡ suc (tally (λ j. eqb (actor_at t.nodes j) (actor_at (stored t x).nodes (changes t))) (changes t))
  next = new_seq t x v a ∙ a.next ∙ ap (λ (b : ℕ). suc (count_of t.nodes b (changes t))) (sym (new_actor t x v a))

  pub old_valid : ValidGraph (graph t)
  old_valid = valid_graph t v.sound

  pub new_valid : ValidGraph (graph (stored t x))
  new_valid = valid_add (graph t) (graph (stored t x)) old_valid extended (new_changes t x v a) low next

  counts : Counts (stored t x).hashes (stored t x).targets (stored t x).clocks (stored t x).counts
  counts =
      let n = new_changes t x v a in
      let e = new_edges t x v a in
      let w = new_actors t x v a in
      let y = new_width t x v a in
      let h = hashes_long t x v a in
      let g = targets_long t x v a in
      record {
        changes_fit = omega (arith, a.node_room);
        edges_fit = omega (arith, a.edge_room);
        actors_fit = let b = v.sound.counts.actors_fit in omega arith;
      }

  distinct : HashesDistinct (stored t x).hashes (changes (stored t x))
  unfolding HashesDistinct FoundIs
  distinct =
      each (λ (j : ℕ). (i : ℕ) → i < j → hash_at (stored t x).hashes i ≡ hash_at (stored t x).hashes j → ⊥)
      (λ j l i h q. v.sound.distinct j l i h (sym (old_hash t x v a i (omega arith)) ∙ q ∙ old_hash t x v a j l))
      (λ i h q.
      let f : FoundIs t.hashes (changes t) x.hash None = subst (FoundIs t.hashes (changes t) x.hash) a.fresh (find_is t.hashes (changes t) x.hash) in
      f i h (sym (old_hash t x v a i h) ∙ q ∙ new_hash t x v a))

  numbers : Numbers (stored t x).nodes (changes (stored t x)) (actors (stored t x))
  unfolding Numbers
  numbers =
      let w = new_actors t x v a in
      each (NumbersAt (stored t x).nodes (actors (stored t x)))
      (λ k l.
      let o = v.sound.numbers k l in
      let c = old_actor t x v a k l in
      let m = old_number t x v a k l 2 (omega arith) in
      let p = old_number t x v a k l 3 (omega arith) in
      record { actor_low = omega (arith, o.actor_low); ops_low = omega (arith, o.ops_low) })
      (let c = new_actor t x v a in
      let m = new_max t x v a in
      let p = new_ops t x v a in
      record { actor_low = omega (arith, a.actor_low); ops_low = omega (arith, a.ops_low) })

  -- the heads are the old ones that it does not depend on, and the change itself
  heads : Heads (stored t x)
  unfolding Heads
  heads =
      each (λ (k : ℕ). head_at (stored t x).nodes k ≡ cond (wanted (graph (stored t x)) k) 0 1)
      (λ k l.
      old_head t x v a k l
      ∙ ap (cond (mem k (deps_of t x)) 0) (v.sound.heads k l)
      ∙ either (mem k (deps_of t x)) (wanted (graph t) k)
      ∙ ap (λ (ds : List ℕ). cond (wanted (graph t) k || mem k ds) 0 1) (sym (new_deps t x v a))
      ∙ ap (λ (b : Bool). cond b 0 1) (sym (wanted_add (graph t) (graph (stored t x)) old_valid extended (new_changes t x v a) low next k)))
      (new_head t x v a ∙ ap (λ (b : Bool). cond b 0 1) (sym (new_unwanted (graph t) (graph (stored t x)) old_valid extended (new_changes t x v a) low next)))
    where
      either : (m w : Bool) → ◌≡◌ {A = ℕ} (cond m 0 (cond w 0 1)) (cond (w || m) 0 1)
      either true true = refl
      either true false = refl
      either false true = refl
      either false false = refl

  rows : Rows (stored t x)
  unfolding Rows
  rows =
      let w = new_width t x v a in
      each (λ (k : ℕ). ((i : ℕ) → i < actor_room (stored t x) → entry_at (stored t x) k i ≡ 0) ⊎ ((i : ℕ) → i < actor_room (stored t x) → entry_at (stored t x) k i ≡ clock (graph (stored t x)) (k ∷ []) i))
      (λ k l.
      ⊎_elim
      (λ z. inl (λ i h. old_entry t x v a k l i (omega arith) ∙ z i (omega arith)))
      (λ z.
      inr (λ i h.
      old_entry t x v a k l i (omega arith) ∙ z i (omega arith)
      ∙ sym (clock_extend (graph t) (graph (stored t x)) old_valid new_valid extended (k ∷ []) (λ j m. let e = mem_single j k m in omega arith) i)))
      (v.rows k l))
      (inl (λ i h. new_entry t x v a i (omega arith)))

  pub stays_valid : Valid (stored t x)
  unfolding Running
  stays_valid = record {
    sound = record {
      lengths = new_lengths t x v a;
      counts = counts;
      distinct = distinct;
      numbers = numbers;
      laid = new_laid t x v a;
      running = new_valid.runs;
      heads = heads;
    };
    rows = rows;
  }

-- ---- the promise of `place`, in the paper's words

pub stored_valid : (t : Tables) (x : Change) → Valid t → tables_judged t x ≡ Ok tt → Valid (stored t x)
stored_valid t x v d = stays_valid t x v (accepted t x d)

pub stored_grows : (t : Tables) (x : Change) → Valid t → tables_judged t x ≡ Ok tt → Grows (graph t) x (deps_of t x) (graph (stored t x))
stored_grows t x v d = grows t x v (accepted t x d)
