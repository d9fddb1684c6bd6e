-- Valid graphs with their room, and valid queues, as tests.
-- Assumes nothing.
use mathlib.Core.Path.{◌≡◌, sym}
use mathlib.Core.Logic.{◌↔◌, ⊎_elim}
use mathlib.Core.Bool.{Bool, true, false, not, ◌&&◌, ◌||◌}
use Prim.Native.Nat.{ℕ, ◌<◌}
use native.Mathlib.Omega.{arith}
use native.Mathlib.Nat.{eq-or-lt_of_le}
use lib.Dec.{eqb, ltb, leb}
use lib.ListN.{length}
use borrow.Author.Tests.{ltb-true, lt-ltb, leb-true, le-leb, eqb-true, eq-eqb}
use Rattle.paper.specs.Lists.{some_below, all_below, same_list}
use Rattle.paper.specs.Graph.{Graph, valid_test}
use Rattle.paper.specs.Adding.{Hub, edges_used}
use Rattle.paper.specs.Queue.{Queue, Distinct, has_hash, has_actor_seq}
use Rattle.paper.proofs.Bools.{not-both, to_false, or_left, or_right, or_cases, and_both, and_fst, and_snd, is_not, not_is, of_all, all_of, some_of, of_some, below_or_not}
use Rattle.paper.proofs.Hashes.{same→eq, eq→same}
use Rattle.paper.proofs.Tests.{valid_iff}
use Rattle.paper.specs.Validity.{ValidNode, ValidHub, rooms_test, node_test, distinct_test, hub_test, first_of, ValidQueue, queue_test}

-- a test of two parts holds exactly if both do
both : (a b : Bool) → (a && b) ≡ true → (a ≡ true) × (b ≡ true)
both a b e = (and_fst a b e, and_snd a b e)

-- ---- a graph

pub node_iff : (a : ℕ) (g : Graph) (k : ℕ) → (node_test a g k ≡ true) ↔ ValidNode a g k
unfolding node_test
node_iff a g k = (
  (λ e.
      let p = both (eqb (length (g.hash k)) 32) _ e in
      let q = both (ltb (g.actor k) a) _ p.1 in
      let r = both (leb (g.max_op k) 4294967295) _ q.1 in
      let s = both (leb (g.ops k) (g.max_op k)) (leb (length (g.deps k)) 32) r.1 in
      record {
        hash_whole = eqb-true (length (g.hash k)) 32 p.0;
        actor_low = ltb-true (g.actor k) a q.0;
        max_low = leb-true (g.max_op k) 4294967295 r.0;
        ops_low = leb-true (g.ops k) (g.max_op k) s.0;
        few = leb-true (length (g.deps k)) 32 s.1;
      }),
  (λ v. rw (eq-eqb (length (g.hash k)) 32 v.hash_whole, lt-ltb (g.actor k) a v.actor_low, le-leb (g.max_op k) 4294967295 v.max_low, le-leb (g.ops k) (g.max_op k) v.ops_low, le-leb (length (g.deps k)) 32 v.few)),
)

-- hashes distinct
pub distinct_iff : (g : Graph) → (distinct_test g ≡ true) ↔ ((j k : ℕ) → j < k → k < g.size → g.hash j ≡ g.hash k → ⊥)
unfolding distinct_test
distinct_iff g = (
  (λ t j k l h e.
      not-both (some_of (λ i. same_list (g.hash i) (g.hash k)) k j l (eq→same (g.hash j) (g.hash k) e))
      (is_not (some_below (λ i. same_list (g.hash i) (g.hash k)) k) (of_all (λ k. not (some_below (λ i. same_list (g.hash i) (g.hash k)) k)) g.size t k h))),
  (λ d.
      all_of (λ k. not (some_below (λ i. same_list (g.hash i) (g.hash k)) k)) g.size
      (λ k h.
      not_is (some_below (λ i. same_list (g.hash i) (g.hash k)) k)
      (to_false (some_below (λ i. same_list (g.hash i) (g.hash k)) k)
      (λ s. let r = of_some (λ i. same_list (g.hash i) (g.hash k)) k s in d r.0 k r.1 h (same→eq (g.hash r.0) (g.hash k) r.2))))),
)

pub hub_iff : (u : Hub) → (hub_test u ≡ true) ↔ ValidHub u
unfolding hub_test rooms_test
hub_iff u = (
  (λ e.
      let p = both (rooms_test u) _ e in
      let q = both (all_below (node_test u.actors u.graph) u.graph.size) _ p.1 in
      let r = both (distinct_test u.graph) (valid_test u.graph) q.1 in
      let a = both (leb u.change_room 4096) _ p.0 in
      let b = both (leb u.edge_room 16384) _ a.1 in
      let c = both (leb u.actors 64) _ b.1 in
      let d = both (leb u.graph.size u.change_room) (leb (edges_used u.graph) u.edge_room) c.1 in
      record {
        changes_limit = leb-true u.change_room 4096 a.0;
        edges_limit = leb-true u.edge_room 16384 b.0;
        actors_limit = leb-true u.actors 64 c.0;
        changes_fit = leb-true u.graph.size u.change_room d.0;
        edges_fit = leb-true (edges_used u.graph) u.edge_room d.1;
        each = λ k l. (node_iff u.actors u.graph k).0 (of_all (node_test u.actors u.graph) u.graph.size q.0 k l);
        distinct = (distinct_iff u.graph).0 r.0;
        graph = (valid_iff u.graph).0 r.1;
      }),
  (λ v.
      rw (
        le-leb u.change_room 4096 v.changes_limit,
        le-leb u.edge_room 16384 v.edges_limit,
        le-leb u.actors 64 v.actors_limit,
        le-leb u.graph.size u.change_room v.changes_fit,
        le-leb (edges_used u.graph) u.edge_room v.edges_fit,
        all_of (node_test u.actors u.graph) u.graph.size (λ k l. (node_iff u.actors u.graph k).1 (v.each k l)),
        (distinct_iff u.graph).1 v.distinct,
        (valid_iff u.graph).1 v.graph,
      )),
)

-- ---- a queue

module _ (q : Queue) where
  -- change i has the hash, or the actor and sequence, of one before it
  abbrev repeats : ℕ → Bool
  repeats i = has_hash (first_of i q) (q.at i).hash || has_actor_seq (first_of i q) (q.at i).key (q.at i).seq

  abbrev one : ℕ → Bool
  one i = eqb (length (q.at i).hash) 32 && (leb (length (q.at i).deps) 32 && not (repeats i))

  hash_repeats : (i j : ℕ) → i < j → (q.at i).hash ≡ (q.at j).hash → repeats j ≡ true
  unfolding has_hash
  hash_repeats i j l e = or_left (has_hash (first_of j q) (q.at j).hash) _ (some_of (λ k. same_list (q.at k).hash (q.at j).hash) j i l (eq→same (q.at i).hash (q.at j).hash e))

  actor_repeats : (i j : ℕ) → i < j → (q.at i).key ≡ (q.at j).key → (q.at i).seq ≡ (q.at j).seq → repeats j ≡ true
  unfolding has_actor_seq
  actor_repeats i j l e f =
      or_right (has_hash (first_of j q) (q.at j).hash) _
      (some_of (λ k. eqb (q.at k).key (q.at j).key && eqb (q.at k).seq (q.at j).seq) j i l
      (and_both (eqb (q.at i).key (q.at j).key) (eqb (q.at i).seq (q.at j).seq) (eq-eqb (q.at i).key (q.at j).key e) (eq-eqb (q.at i).seq (q.at j).seq f)))

  three : (i j : ℕ) → (i < j → ⊥) → (j < i → ⊥) → i ≡ j
  three i j f g = ⊎_elim (λ l. absurd (f l)) (λ l. ⊎_elim (λ e. sym e) (λ m. absurd (g m)) (eq-or-lt_of_le {n = j} {m = i} l)) (below_or_not i j)

  -- none does exactly if they are distinct
  repeats_distinct : ((i : ℕ) → i < q.size → repeats i ≡ false) → Distinct q
  repeats_distinct n = record {
    hashes = λ i j l h e. three i j (λ b. not-both (hash_repeats i j b e) (n j h)) (λ b. not-both (hash_repeats j i b (sym e)) (n i l));
    actors = λ i j l h e f. three i j (λ b. not-both (actor_repeats i j b e f) (n j h)) (λ b. not-both (actor_repeats j i b (sym e) (sym f)) (n i l));
  }

  distinct_repeats : Distinct q → (i : ℕ) → i < q.size → repeats i ≡ false
  unfolding has_hash has_actor_seq
  distinct_repeats d i l =
      to_false (repeats i)
      (λ t.
      ⊎_elim
      (λ s.
      let r = of_some (λ k. same_list (q.at k).hash (q.at i).hash) i s in
      let e = d.hashes r.0 i (omega (arith, r.1)) l (same→eq (q.at r.0).hash (q.at i).hash r.2) in
      omega (arith, r.1))
      (λ s.
      let r = of_some (λ k. eqb (q.at k).key (q.at i).key && eqb (q.at k).seq (q.at i).seq) i s in
      let b = both (eqb (q.at r.0).key (q.at i).key) (eqb (q.at r.0).seq (q.at i).seq) r.2 in
      let e = d.actors r.0 i (omega (arith, r.1)) l (eqb-true (q.at r.0).key (q.at i).key b.0) (eqb-true (q.at r.0).seq (q.at i).seq b.1) in
      omega (arith, r.1))
      (or_cases (has_hash (first_of i q) (q.at i).hash) (has_actor_seq (first_of i q) (q.at i).key (q.at i).seq) t))

  pub queue_iff : (m : ℕ) → (queue_test m q ≡ true) ↔ ValidQueue m q
  unfolding queue_test
  queue_iff m = (
    (λ e.
        let a = both (leb m 256) _ e in
        let b = both (leb q.size m) (all_below one q.size) a.1 in
        let each = of_all one q.size b.1 in
        record {
          limit = leb-true m 256 a.0;
          fits = leb-true q.size m b.0;
          hashes_whole = λ i l. eqb-true (length (q.at i).hash) 32 (and_fst (eqb (length (q.at i).hash) 32) _ (each i l));
          few = λ i l. leb-true (length (q.at i).deps) 32 (and_fst (leb (length (q.at i).deps) 32) (not (repeats i)) (and_snd (eqb (length (q.at i).hash) 32) _ (each i l)));
          distinct = repeats_distinct (λ i l. is_not (repeats i) (and_snd (leb (length (q.at i).deps) 32) (not (repeats i)) (and_snd (eqb (length (q.at i).hash) 32) _ (each i l))));
        }),
    (λ v.
        and_both (leb m 256) _ (le-leb m 256 v.limit)
        (and_both (leb q.size m) (all_below one q.size) (le-leb q.size m v.fits)
        (all_of one q.size
        (λ i l.
        and_both (eqb (length (q.at i).hash) 32) _ (eq-eqb (length (q.at i).hash) 32 (v.hashes_whole i l))
        (and_both (leb (length (q.at i).deps) 32) (not (repeats i)) (le-leb (length (q.at i).deps) 32 (v.few i l)) (not_is (repeats i) (distinct_repeats v.distinct i l))))))),
  )
