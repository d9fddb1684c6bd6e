-- Tables whose actors are renumbered: the graph is the old one with other numbers, every clock goes with its actor, and valid tables stay valid.
-- Assumes nothing.
use Rattle.std.specs.Prelude.{◌≡◌, refl, Bool, List, [], ◌∷◌, eqb, ltb, length, get_or}
use Rattle.std.proofs.Math.Path.{sym, ap, subst, fun_ext}
use Rattle.std.proofs.Common.{◌∙◌, length-set, get_or-set_same, get_or-set_other, ltb-true, ltb-false, lt-ltb, le-ltb, le-leb, eq-eqb, eqb-true}
use Rattle.std.proofs.Math.Logic.{inl, inr, ⊎_elim}
use Rattle.std.proofs.Math.Bool.{cond}
use Prim.Native.Nat.{ℕ, suc, ◌+◌, ◌*◌, ◌-◌, ◌/◌, ◌≤◌, ◌<◌}
use native.Mathlib.Omega.{arith}
use Rattle.std.proofs.lemmas.Bool.{lt-leb, eqb-false}
use Rattle.paper.specs.Lists.{mem, some_below}
use Rattle.paper.specs.Graph.{clock, wanted}
use Rattle.paper.specs.ProofWords.{Relabels}
use Rattle.paper.proofs.Bools.{by_bool, below_or_not, tally_up, some_ext}
use Rattle.paper.proofs.Clock.{clock_least}
use Rattle.paper.proofs.History.{hist_known}
use Rattle.paper.proofs.Relabel.{valid_relabel, clock_relabel, clock_relabel_new}
use Rattle.clock.specs.Clock.{raised}
use Rattle.clock.specs.Places.{raised_low, raised_high}
use Rattle.tables.specs.Tables.{Tables, changes, edges, actors, change_room_of, actor_room, width_of, actor_at, entry_at, along, graph}
use Rattle.tables.specs.Valid.{Lengths, HashesDistinct, Numbers, Laid, Running, Heads, Rows, Valid, count_of}
use Rattle.tables.specs.LaidLaws.{laid_same}
use Rattle.tables.specs.DepsLaws.{valid_graph}
use Rattle.actors.specs.Actors.{lower, widen, narrow, row_at, renamed, actor_inserted, actor_removed}
use Rattle.actors.specs.ActorLaws.{renumbered_long, renumbered_other, renumbered_actor, rows_long, rows_in, Rooms, rooms}

-- ---- a renumbering f, with what s makes of a clock, for a actors afterwards

module _ (f : ℕ → ℕ) (s : (ℕ → ℕ) → ℕ → ℕ) (a : ℕ) (t : Tables) (v : Valid t) where
  r : Rooms t
  r = rooms t v

  same_changes : changes (renamed f s a t) ≡ changes t
  same_changes = get_or-set_other t.counts 2 0 a 0 (λ q. omega arith)

  same_edges : edges (renamed f s a t) ≡ edges t
  same_edges = get_or-set_other t.counts 2 1 a 0 (λ q. omega arith)

  pub new_actors : actors (renamed f s a t) ≡ a
  new_actors = get_or-set_same t.counts 2 a 0 (let z = r.counts_three in omega arith)

  nodes_long : length (renamed f s a t).nodes ≡ length t.nodes
  nodes_long = renumbered_long f t.nodes (changes t)

  clocks_long : length (renamed f s a t).clocks ≡ length t.clocks
  clocks_long = rows_long s (actor_room t) t.clocks (changes t)

  same_width : actor_room (renamed f s a t) ≡ actor_room t
  unfolding width_of
  same_width = ap (λ (c : ℕ). c / (length t.hashes / 32)) clocks_long

  -- a node's other numbers stay
  same_number : (k c : ℕ) → 0 < c → c < 6 → get_or (renamed f s a t).nodes (6 * k + c) 0 ≡ get_or t.nodes (6 * k + c) 0
  same_number k c l h = renumbered_other f t.nodes (changes t) (6 * k + c) (λ j b q. omega arith)

  lengths : Lengths (renamed f s a t)
  lengths =
      let l = v.sound.lengths in
      let n = nodes_long in
      let w = same_width in
      record {
        hashes_whole = l.hashes_whole;
        changes_limit = l.changes_limit;
        nodes_same = n ∙ l.nodes_same;
        edges_limit = l.edges_limit;
        nexts_same = l.nexts_same;
        actors_limit = omega (arith, l.actors_limit);
        clocks_whole = clocks_long ∙ l.clocks_whole ∙ ap (λ (w : ℕ). change_room_of t * w) (sym same_width);
        counts_three = simp length-set l.counts_three;
      }

  -- a row as a clock: nothing where it is not cached, and else its node's clock
  no_row : (k : ℕ) → ((i : ℕ) → i < actor_room t → entry_at t k i ≡ 0) → row_at t.clocks (k * actor_room t) (actor_room t) ≡ (λ i. 0)
  no_row k z = fun_ext (λ i. by_bool (ltb i (actor_room t)) (λ y. rw y (z i (ltb-true i (actor_room t) y))) (λ n. rw n))

  -- an actor that is not counted has nothing in any clock
  no_entry : (l : List ℕ) (i : ℕ) → actor_room t ≤ i → clock (graph t) l i ≡ 0
  unfolding Numbers
  no_entry l i h =
      let g = valid_graph t v.sound in
      let b =
      clock_least (graph t) g l i 0
      (λ k m q. absurd (let n = (v.sound.numbers k (hist_known (graph t) g l k m)).actor_low in let f = v.sound.counts.actors_fit in omega arith)) in
      omega arith

  a_row : (k : ℕ) → ((i : ℕ) → i < actor_room t → entry_at t k i ≡ clock (graph t) (k ∷ []) i) → row_at t.clocks (k * actor_room t) (actor_room t) ≡ clock (graph t) (k ∷ [])
  a_row k z =
      fun_ext
      (λ i.
      by_bool (ltb i (actor_room t)) (λ y. rw y (z i (ltb-true i (actor_room t) y)))
      (λ n. rw n (sym (no_entry (k ∷ []) i (ltb-false i (actor_room t) n)))))

  new_entry : (k i : ℕ) → k < changes t → i < actor_room t → entry_at (renamed f s a t) k i ≡ s (row_at t.clocks (k * actor_room t) (actor_room t)) i
  new_entry k i l h = ap (λ (w : ℕ). get_or (renamed f s a t).clocks (k * w + i) 0) same_width ∙ rows_in s (actor_room t) t.clocks (changes t) k i r.rows_fit l h

  module _ (apart : (j k : ℕ) → j < changes t → k < changes t → f (actor_at t.nodes j) ≡ f (actor_at t.nodes k) → actor_at t.nodes j ≡ actor_at t.nodes k) where
    -- the graph has other numbers for its actors, and nothing else
    pub relabels : Relabels f (graph t) (graph (renamed f s a t))
    relabels =
        record {
          sizes = same_changes;
          actors = λ k l. renumbered_actor f t.nodes (changes t) k r.nodes_fit l;
          hashes = λ k l. refl;
          seqs = λ k l. same_number k 1 (omega arith) (omega arith);
          max_ops = λ k l. same_number k 2 (omega arith) (omega arith);
          op_counts = λ k l. same_number k 3 (omega arith) (omega arith);
          depss = λ k l. ap (along t.targets t.nexts) (same_number k 4 (omega arith) (omega arith));
          apart = apart;
        }

    module _ (low : (k : ℕ) → k < changes t → f (actor_at t.nodes k) < a) (fits : a ≤ actor_room t) (nothing : (i : ℕ) → s (λ j. 0) i ≡ 0)
        (moves : (l : List ℕ) (i : ℕ) → clock (graph (renamed f s a t)) l i ≡ s (clock (graph t) l) i) where
      numbers : Numbers (renamed f s a t).nodes (changes (renamed f s a t)) (actors (renamed f s a t))
      unfolding Numbers
      numbers k h =
          let n = same_changes in
          let b = new_actors in
          let x = renumbered_actor f t.nodes (changes t) k r.nodes_fit (omega arith) in
          let m = same_number k 2 (omega arith) (omega arith) in
          let c = same_number k 3 (omega arith) (omega arith) in
          record { actor_low = omega (arith, low k (omega arith)); ops_low = omega (arith, (v.sound.numbers k (omega arith)).ops_low) }

      laid : Laid (renamed f s a t).nodes t.targets t.nexts (changes (renamed f s a t)) (edges (renamed f s a t))
      laid =
          rw (same_changes, same_edges)
          (laid_same t.targets t.nexts t.targets t.nexts (edges t) (λ i l. refl) (λ i l. refl) v.sound.laid (omega arith) (λ k l. same_number k 4 (omega arith) (omega arith)))

      heads : Heads (renamed f s a t)
      unfolding Heads wanted
      heads k h =
          let n = same_changes in
          same_number k 5 (omega arith) (omega arith)
          ∙ v.sound.heads k (omega arith)
          ∙ ap (λ (b : Bool). cond b 0 1)
          (sym
          (ap (some_below (λ m. mem k ((graph (renamed f s a t)).deps m))) same_changes
          ∙ some_ext (λ m. mem k ((graph (renamed f s a t)).deps m)) (λ m. mem k ((graph t).deps m)) (changes t) (λ m l. ap (mem k) (relabels.depss m l))))

      rows : Rows (renamed f s a t)
      unfolding Rows
      rows k h =
          let n = same_changes in
          let w = same_width in
          ⊎_elim
          (λ z. inl (λ i b. new_entry k i (omega arith) (omega arith) ∙ ap (λ (c : ℕ → ℕ). s c i) (no_row k z) ∙ nothing i))
          (λ z. inr (λ i b. new_entry k i (omega arith) (omega arith) ∙ ap (λ (c : ℕ → ℕ). s c i) (a_row k z) ∙ sym (moves (k ∷ []) i)))
          (v.rows k (omega arith))

      pub stays_valid : Valid (renamed f s a t)
      unfolding Running
      stays_valid =
          let n = same_changes in
          let e = same_edges in
          let b = new_actors in
          let w = same_width in
          let u = v.sound.counts in
          record {
            sound =
                record {
                  lengths = lengths;
                  counts = record { changes_fit = omega (arith, u.changes_fit); edges_fit = omega (arith, u.edges_fit); actors_fit = omega arith };
                  distinct = subst (HashesDistinct t.hashes) (sym same_changes) v.sound.distinct;
                  numbers = numbers;
                  laid = laid;
                  running = (valid_relabel f (graph t) (graph (renamed f s a t)) (valid_graph t v.sound) relabels).runs;
                  heads = heads;
                };
            rows = rows;
          }

-- ---- one more, at place p

-- numbers that move up stay apart, and none is p
raised_apart : (p x y : ℕ) → raised p x ≡ raised p y → x ≡ y
raised_apart p x y e =
    ⊎_elim
    (λ l. let a = raised_low p x l in ⊎_elim (λ h. let b = raised_low p y h in omega arith) (λ h. let b = raised_high p y h in absurd (omega arith)) (below_or_not y p))
    (λ l. let a = raised_high p x l in ⊎_elim (λ h. let b = raised_low p y h in absurd (omega arith)) (λ h. let b = raised_high p y h in omega arith) (below_or_not y p))
    (below_or_not x p)

raised_new : (p x : ℕ) → raised p x ≡ p → ⊥
raised_new p x e = ⊎_elim (λ l. let a = raised_low p x l in omega arith) (λ l. let a = raised_high p x l in omega arith) (below_or_not x p)

module _ (t : Tables) (p : ℕ) (v : Valid t) (within : p ≤ actors t) (room : actors t < actor_room t) where
  -- the graph has its actors' numbers moved up from p on, and nothing else
  pub inserted_relabels : Relabels (raised p) (graph t) (graph (actor_inserted t p))
  inserted_relabels = relabels (raised p) (widen p) (actors t + 1) t v (λ j k lj lk e. raised_apart p (actor_at t.nodes j) (actor_at t.nodes k) e)

  moved : (l : List ℕ) (x : ℕ) → clock (graph (actor_inserted t p)) l (raised p x) ≡ clock (graph t) l x
  moved l x = clock_relabel (raised p) (graph t) (graph (actor_inserted t p)) (valid_graph t v.sound) inserted_relabels l x (λ k b e. raised_apart p (actor_at t.nodes k) x e)

  -- every clock goes with its actors, and the new one has nothing
  pub inserted_clock : (l : List ℕ) (i : ℕ) → clock (graph (actor_inserted t p)) l i ≡ widen p (clock (graph t) l) i
  inserted_clock l i =
      ⊎_elim
      (λ b. rw (lt-ltb i p b) (ap (clock (graph (actor_inserted t p)) l) (sym (raised_low p i b)) ∙ moved l i))
      (λ b.
      by_bool (eqb i p)
      (λ y.
      rw (le-ltb i p b, y)
      (clock_relabel_new (raised p) (graph t) (graph (actor_inserted t p)) (valid_graph t v.sound) inserted_relabels l i (λ k h e. raised_new p (actor_at t.nodes k) (e ∙ eqb-true i p y))))
      (λ n.
      let m = eqb-false i p n in
      let q : raised p (i - 1) ≡ i = past i b m in
      rw (le-ltb i p b, n) (ap (clock (graph (actor_inserted t p)) l) (sym q) ∙ moved l (i - 1))))
      (below_or_not i p)
    where
      past : (i : ℕ) → p ≤ i → (i ≡ p → ⊥) → raised p (i - 1) ≡ i
      past i b m = ⊎_elim (λ l. raised_high p (i - 1) (omega arith) ∙ omega arith) (λ l. absurd (m (omega arith))) (below_or_not p i)

  pub inserted_valid : Valid (actor_inserted t p)
  unfolding Numbers
  inserted_valid =
      stays_valid (raised p) (widen p) (actors t + 1) t v (λ j k lj lk e. raised_apart p (actor_at t.nodes j) (actor_at t.nodes k) e) below (omega arith) none inserted_clock
    where
      below : (k : ℕ) → k < changes t → raised p (actor_at t.nodes k) < actors t + 1
      below k l =
          let b = (v.sound.numbers k l).actor_low in
          ⊎_elim (λ h. let e = raised_low p (actor_at t.nodes k) h in omega arith) (λ h. let e = raised_high p (actor_at t.nodes k) h in omega arith) (below_or_not (actor_at t.nodes k) p)

      none : (i : ℕ) → widen p (λ j. 0) i ≡ 0
      none i = by_bool (ltb i p) (λ y. rw y) (λ n. rw n (by_bool (eqb i p) (λ y. rw y) (λ m. rw m)))

-- ---- the one at place p away

lower_low : (p x : ℕ) → x ≤ p → lower p x ≡ x
lower_low p x l = rw (le-leb x p l)

lower_high : (p x : ℕ) → p < x → lower p x ≡ x - 1
lower_high p x l = rw (lt-leb x p l)

lower_apart : (p x y : ℕ) → (x ≡ p → ⊥) → (y ≡ p → ⊥) → lower p x ≡ lower p y → x ≡ y
lower_apart p x y nx ny e =
    ⊎_elim
    (λ l. let a = lower_high p x l in ⊎_elim (λ h. let b = lower_high p y h in omega arith) (λ h. let b = lower_low p y h in absurd (ny (omega arith))) (below_or_not p y))
    (λ l. let a = lower_low p x l in ⊎_elim (λ h. let b = lower_high p y h in absurd (nx (omega arith))) (λ h. let b = lower_low p y h in omega arith) (below_or_not p y))
    (below_or_not p x)

module _ (t : Tables) (p : ℕ) (v : Valid t) (within : p < actors t) (unused : count_of t.nodes p (changes t) ≡ 0) where
  -- no node is its
  nobody : (k : ℕ) → k < changes t → actor_at t.nodes k ≡ p → ⊥
  nobody k l e = let u = tally_up (λ j. eqb (actor_at t.nodes j) p) (changes t) k l (eq-eqb (actor_at t.nodes k) p e) in omega arith

  keeps_apart : (j k : ℕ) → j < changes t → k < changes t → lower p (actor_at t.nodes j) ≡ lower p (actor_at t.nodes k) → actor_at t.nodes j ≡ actor_at t.nodes k
  keeps_apart j k lj lk e = lower_apart p (actor_at t.nodes j) (actor_at t.nodes k) (nobody j lj) (nobody k lk) e

  -- the graph has its actors' numbers moved down above p, and nothing else
  pub removed_relabels : Relabels (lower p) (graph t) (graph (actor_removed t p))
  removed_relabels = relabels (lower p) (narrow p) (actors t - 1) t v keeps_apart

  kept : (l : List ℕ) (x : ℕ) → (x ≡ p → ⊥) → clock (graph (actor_removed t p)) l (lower p x) ≡ clock (graph t) l x
  kept l x n = clock_relabel (lower p) (graph t) (graph (actor_removed t p)) (valid_graph t v.sound) removed_relabels l x (λ k b e. lower_apart p (actor_at t.nodes k) x (nobody k b) n e)

  -- every clock goes with its actors
  pub removed_clock : (l : List ℕ) (i : ℕ) → clock (graph (actor_removed t p)) l i ≡ narrow p (clock (graph t) l) i
  removed_clock l i =
      ⊎_elim
      (λ b. rw (lt-ltb i p b) (ap (clock (graph (actor_removed t p)) l) (sym (lower_low p i (omega arith))) ∙ kept l i (λ q. omega arith)))
      (λ b.
      let q : lower p (suc i) ≡ i = lower_high p (suc i) (omega arith) ∙ omega arith in
      rw (le-ltb i p b) (ap (clock (graph (actor_removed t p)) l) (sym q) ∙ kept l (suc i) (λ q. omega arith)))
      (below_or_not i p)

  pub removed_valid : Valid (actor_removed t p)
  unfolding Numbers
  removed_valid = stays_valid (lower p) (narrow p) (actors t - 1) t v keeps_apart below (let f = v.sound.counts.actors_fit in omega arith) (λ i. by_bool (ltb i p) (λ y. rw y) (λ n. rw n)) removed_clock
    where
      below : (k : ℕ) → k < changes t → lower p (actor_at t.nodes k) < actors t - 1
      below k l =
          let b = (v.sound.numbers k l).actor_low in
          let n = nobody k l in
          ⊎_elim (λ h. let e = lower_high p (actor_at t.nodes k) h in omega arith)
          (λ h. let e = lower_low p (actor_at t.nodes k) h in ⊎_elim (λ g. omega arith) (λ g. absurd (n (omega arith))) (below_or_not (actor_at t.nodes k) p))
          (below_or_not p (actor_at t.nodes k))
