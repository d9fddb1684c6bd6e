-- On chained graphs a history is what its clock says: membership, covering, missing lists, what is shared, and how many.
-- Assumes nothing.
use mathlib.Core.Path.{◌≡◌, refl, sym, ap, ap₂, ◌∙◌, subst}
use mathlib.Core.Logic.{◌⊎◌, inl, inr, ⊎_elim, ◌↔◌}
use mathlib.Core.Bool.{Bool, true, false, not, cond, ◌&&◌, ◌||◌, and-or_distrib_left, or-and_distrib_left}
use mathlib.Core.List.{List, [], ◌∷◌, ◌++◌}
use Prim.Native.Nat.{ℕ, zero, suc, ◌+◌, ◌-◌, ◌≤◌, ◌<◌, min}
use native.Mathlib.Omega.{arith}
use lib.Dec.{eqb, ltb, leb}
use borrow.Author.Tests.{ltb-true, ltb-false, lt-ltb, le-ltb, leb-true, leb-false, eqb-true, eq-eqb}
use Rattle.paper.specs.Lists.{mem, pick, tally, sum_below}
use Rattle.paper.specs.Graph.{Graph, hist, top, Held, clock_of, clock, Covers, above, missing, shared, ValidGraph, Precedes, ChainedOld, Chained}
use Rattle.paper.specs.ProofWords.{Closed}
use Rattle.paper.proofs.Bools.{split, by_bool, not-both, same_bool, or_cases, or_right, and_both, and_fst, and_snd, not_is, mem_here, mem_single, mem_pick, pick_mem, pick_ext, tally_ext, tally_up, tally_place, sum_ext, sum_add, sum_zero, sum_one}
use Rattle.paper.proofs.History.{hist_least, hist_start, hist_known, hist_closed}
use Rattle.paper.proofs.Clock.{top_upper, top_attained, top_mono, clock_upper, clock_attained, clock_least, hist_append, hist_node}

sum_test : (b : Bool) (x A : ℕ) → x < A → sum_below (λ a. cond (b && eqb x a) 1 0) A ≡ cond b 1 0
sum_test true x A l = sum_one x A l
sum_test false x A l = sum_zero (λ a. 0) A (λ a la. refl)

-- a tally is the sum of the tallies of each actor's
by_actor : (actor : ℕ → ℕ) (A : ℕ) (h : ℕ → Bool) (m : ℕ) → ((k : ℕ) → k < m → actor k < A) → tally h m ≡ sum_below (λ a. tally (λ k. h k && eqb (actor k) a) m) A
unfolding tally
by_actor actor A h zero low = sym (sum_zero (λ a. 0) A (λ a l. refl))
by_actor actor A h (suc m) low =
    ap₂ (λ (x y : ℕ). x + y) (by_actor actor A h m (λ k l. low k (omega arith))) (sym (sum_test (h m) (actor m) A (low m (omega arith))))
    ∙ sym (sum_add (λ a. tally (λ k. h k && eqb (actor k) a) m) (λ a. cond (h m && eqb (actor m) a) 1 0) A)

-- ---- the numbering

module _ (g : Graph) (v : ValidGraph g) where
  -- the numbering, told by an actor that the node has
  runs_at : (k a : ℕ) → k < g.size → g.actor k ≡ a → g.seq k ≡ suc (tally (λ j. eqb (g.actor j) a) k)
  runs_at k a l e = subst (λ (x : ℕ). g.seq k ≡ suc (tally (λ j. eqb (g.actor j) x) k)) e (v.runs k l)

  -- an actor's sequences ascend
  pub seq_up : (j k : ℕ) → j < k → k < g.size → g.actor j ≡ g.actor k → g.seq j < g.seq k
  seq_up j k l b e =
      let x = runs_at j (g.actor k) (omega arith) e in
      let y = runs_at k (g.actor k) b refl in
      let z = tally_up (λ i. eqb (g.actor i) (g.actor k)) k j l (eq-eqb (g.actor j) (g.actor k) e) in
      omega arith

  -- actor and sequence determine the node
  pub same_node : (j k : ℕ) → j < g.size → k < g.size → g.actor j ≡ g.actor k → g.seq j ≡ g.seq k → j ≡ k
  same_node j k lj lk e q =
      by_bool (ltb j k) (λ t. let z = seq_up j k (ltb-true j k t) lk e in absurd (omega arith))
      (λ f.
      let b = ltb-false j k f in
      by_bool (ltb k j) (λ t. let z = seq_up k j (ltb-true k j t) lj (sym e) in absurd (omega arith)) (λ f'. let b' = ltb-false k j f' in omega arith))

  -- a node of sequence 2 or more has a preceding one
  pub preceding : (k : ℕ) → k < g.size → 1 < g.seq k → (j : ℕ) × Precedes g j k
  preceding k l big =
      let y = runs_at k (g.actor k) l refl in
      let r = tally_place (λ i. eqb (g.actor i) (g.actor k)) k (tally (λ i. eqb (g.actor i) (g.actor k)) k - 1) (omega arith) in
      let e = eqb-true (g.actor r.0) (g.actor k) r.2 in
      let x = runs_at r.0 (g.actor k) (omega (arith, r.1)) e in
      (r.0, record { known_j = omega (arith, r.1); known_k = l; same = e; next = omega (arith, r.3) })

  -- each sequence from 1 to the number of the actor's nodes is that of a node of the actor
  pub node_at : (a q : ℕ) → 0 < q → q ≤ tally (λ k. eqb (g.actor k) a) g.size → Held g (λ k. true) g.size a q
  node_at a q z l =
      let r = tally_place (λ k. eqb (g.actor k) a) g.size (q - 1) (omega arith) in
      let e = eqb-true (g.actor r.0) a r.2 in
      let n = runs_at r.0 a r.1 e in
      record { node = r.0; low = r.1; inside = refl; whose = e; value = omega (arith, r.3) }

  -- no sequence is above that number
  pub seq_le_count : (k : ℕ) → k < g.size → g.seq k ≤ tally (λ j. eqb (g.actor j) (g.actor k)) g.size
  seq_le_count k l =
      let n = v.runs k l in
      let u = tally_up (λ j. eqb (g.actor j) (g.actor k)) g.size k l (eq-eqb (g.actor k) (g.actor k) refl) in
      omega arith

  pub clock_le_count : (s : List ℕ) (a : ℕ) → clock g s a ≤ tally (λ k. eqb (g.actor k) a) g.size
  clock_le_count s a =
      clock_least g v s a (tally (λ k. eqb (g.actor k) a) g.size)
      (λ k e q. subst (λ (x : ℕ). g.seq k ≤ tally (λ j. eqb (g.actor j) x) g.size) q (seq_le_count k (hist_known g v s k e)))

  -- ---- what is chained in the narrow sense is so in the wide one

  pub chained_old_new : ChainedOld g → Chained g
  unfolding ChainedOld Chained
  chained_old_new c j k p = hist_closed g v (k ∷ []) k j (hist_start g (k ∷ []) k p.known_k (mem_here k [])) (c j k p)

  pub closed_hist : (s : List ℕ) → Closed g (hist g s)
  unfolding Closed
  closed_hist s k j l e d = hist_closed g v s k j e d

  pub closed_shared : (s t : List ℕ) → Closed g (shared g s t)
  unfolding Closed shared
  closed_shared s t k j l e d =
      and_both (hist g s j) (hist g t j) (hist_closed g v s k j (and_fst (hist g s k) (hist g t k) e) d) (hist_closed g v t k j (and_snd (hist g s k) (hist g t k) e) d)

-- ---- chained, by clocks: a computable test

module _ (g : Graph) (v : ValidGraph g) where
  -- the clock of a node's dependencies is below the node's own sequence, at its actor
  pub deps_below : (k : ℕ) → k < g.size → clock g (g.deps k) (g.actor k) < g.seq k
  deps_below k l =
      let one = v.runs k l in
      let u =
      clock_least g v (g.deps k) (g.actor k) (g.seq k - 1)
      (λ j e q.
      let b =
      hist_least g (λ (i : ℕ). i < k) (λ i i' p d. let x = v.down i i' (omega arith) d in omega arith) (g.deps k)
      (λ i b m. v.down k i l m) j e in
      let w = seq_up g v j k b l q in
      omega arith) in
      omega arith

  -- every node's sequence is one more than the clock of its dependencies has for its actor
  pub chained_clock : Chained g → (k : ℕ) → k < g.size → g.seq k ≡ suc (clock g (g.deps k) (g.actor k))
  unfolding Chained
  chained_clock c k l =
      let one = v.runs k l in
      let low = deps_below k l in
      by_bool (ltb 1 (g.seq k))
      (λ t.
      let r = preceding g v k l (ltb-true 1 (g.seq k) t) in
      let p = r.1 in
      let i = before r.0 p (or_cases (eqb r.0 k) (hist g (g.deps k) r.0) (sym (hist_node g v k l r.0) ∙ c r.0 k p)) in
      let u = clock_upper g v (g.deps k) r.0 i in
      let y = ap (clock g (g.deps k)) p.same in
      omega (arith, p.next))
      (λ f. let b = ltb-false 1 (g.seq k) f in omega arith)
    where
      before : (j : ℕ) → Precedes g j k → (eqb j k ≡ true) ⊎ (hist g (g.deps k) j ≡ true) → hist g (g.deps k) j ≡ true
      before j p (inl e) = let q = ap (λ (x : ℕ). g.seq x) (eqb-true j k e) in absurd (omega (arith, p.next))
      before j p (inr e) = e

  pub clock_chained : ((k : ℕ) → k < g.size → g.seq k ≡ suc (clock g (g.deps k) (g.actor k))) → Chained g
  unfolding Chained
  clock_chained all j k p =
      let x = all k p.known_k in
      let one = v.runs j p.known_j in
      hist_node g v k p.known_k j
      ∙ or_right (eqb j k) (hist g (g.deps k) j)
      (⊎_elim (λ z. absurd (omega (arith, p.next)))
      (λ r.
      ap (λ (i : ℕ). hist g (g.deps k) i) (same_node g v j r.node p.known_j r.low (p.same ∙ sym r.whose) (omega (arith, p.next, r.value)))
      ∙ r.inside)
      (clock_attained g v (g.deps k) (g.actor k)))

-- ---- a closed set on a chained graph

module _ (g : Graph) (v : ValidGraph g) (c : Chained g) (h : ℕ → Bool) (closed : Closed g h) where
  -- what a member depends on, directly or not, is a member
  inside : (k j : ℕ) → k < g.size → h k ≡ true → hist g (k ∷ []) j ≡ true → h j ≡ true
  unfolding Closed
  inside k j l e r =
      (hist_least g (λ (i : ℕ). (i < g.size) × (h i ≡ true))
      (λ i i' p d. (let b = v.down i i' p.0 d in omega arith, closed i i' p.0 p.1 d))
      (k ∷ [])
      (λ i b m. (b, ap h (mem_single i k m) ∙ e))
      j r).1

  -- the actor's nodes below a member are members
  chain_down : (d m k : ℕ) → m < g.size → k < g.size → g.actor k ≡ g.actor m → g.seq k + d ≡ g.seq m → h m ≡ true → h k ≡ true
  unfolding Chained
  chain_down zero m k lm lk e q i = ap h (same_node g v k m lk lm e (omega arith)) ∙ i
  chain_down (suc d) m k lm lk e q i =
      let one = v.runs k lk in
      let r = preceding g v m lm (omega arith) in
      let p = r.1 in
      chain_down d r.0 k p.known_j lk (e ∙ sym p.same) (omega (arith, p.next)) (inside m r.0 lm i (c r.0 m p))

  pub member_le : (k : ℕ) → k < g.size → h k ≡ true → g.seq k ≤ clock_of g h (g.actor k)
  unfolding clock_of
  member_le k l e = top_upper g h (g.actor k) g.size k l e refl

  pub le_member : (k : ℕ) → k < g.size → g.seq k ≤ clock_of g h (g.actor k) → h k ≡ true
  unfolding clock_of
  le_member k l b =
      let one = v.runs k l in
      ⊎_elim (λ z. absurd (omega arith))
      (λ r. chain_down (g.seq r.node - g.seq k) r.node k r.low l (sym r.whose) (omega (arith, r.value)) r.inside)
      (top_attained g h (g.actor k) g.size)

  -- ---- how many of an actor's nodes the set holds: its clock's entry

  count_top : (a m : ℕ) → m ≤ g.size → tally (λ k. h k && eqb (g.actor k) a) m ≡ top g h m a
  unfolding tally top
  count_top a zero l = refl
  count_top a (suc m) l =
      let ih = count_top a m (omega arith) in
      by_bool (h m && eqb (g.actor m) a)
      (λ t.
      let e = eqb-true (g.actor m) a (and_snd (h m) (eqb (g.actor m) a) t) in
      let all = tally_ext (λ k. h k && eqb (g.actor k) a) (λ k. eqb (g.actor k) a) m (λ j b. before (and_fst (h m) (eqb (g.actor m) a) t) e j b) in
      let s = runs_at g v m a (omega arith) e in
      rw t (omega arith))
      (λ f. rw f (omega arith))
    where
      before : h m ≡ true → g.actor m ≡ a → (j : ℕ) → j < m → (h j && eqb (g.actor j) a) ≡ eqb (g.actor j) a
      before i e j b =
          same_bool (h j && eqb (g.actor j) a) (eqb (g.actor j) a) (and_snd (h j) (eqb (g.actor j) a))
          (λ t.
          let q = eqb-true (g.actor j) a t ∙ sym e in
          let u = seq_up g v j m b (omega arith) q in
          and_both (h j) (eqb (g.actor j) a) (chain_down (g.seq m - g.seq j) m j (omega arith) (omega arith) q (omega arith) i) t)

-- ---- T3, T4, T5: histories by their clocks

module _ (g : Graph) (v : ValidGraph g) (c : Chained g) where
  -- T3: a node is in the history exactly if its sequence is at or below its actor's entry
  pub in_history : (s : List ℕ) (k : ℕ) → k < g.size → (hist g s k ≡ true) ↔ (g.seq k ≤ clock g s (g.actor k))
  unfolding clock
  in_history s k l = (member_le g v c (hist g s) (closed_hist g v s) k l, le_member g v c (hist g s) (closed_hist g v s) k l)

  -- T4: the clock covers another exactly if the history holds the other
  pub covers_holds : (s t : List ℕ) → Covers (clock g s) (clock g t) ↔ ((k : ℕ) → hist g t k ≡ true → hist g s k ≡ true)
  unfolding Covers
  covers_holds s t = (
    (λ cov k e.
        let l = hist_known g v t k e in
        let b = cov (g.actor k) in
        (in_history s k l).1 (omega (arith, (in_history t k l).0 e))),
    (λ sub a. clock_least g v t a (clock g s a) (λ k e q. subst (λ (x : ℕ). g.seq k ≤ clock g s x) q (clock_upper g v s k (sub k e)))),
  )

  -- T5: a node is above the clock exactly if it is outside the history, so the missing list is the nodes outside, in node order
  pub above_outside : (s : List ℕ) (k : ℕ) → k < g.size → above g (clock g s) k ≡ not (hist g s k)
  unfolding above
  above_outside s k l =
      by_bool (hist g s k) (λ t. rw t (le-ltb (clock g s (g.actor k)) (g.seq k) ((in_history s k l).0 t)))
      (λ f. rw f (lt-ltb (clock g s (g.actor k)) (g.seq k) (outside f (split (leb (g.seq k) (clock g s (g.actor k)))))))
    where
      outside : hist g s k ≡ false → (leb (g.seq k) (clock g s (g.actor k)) ≡ true) ⊎ (leb (g.seq k) (clock g s (g.actor k)) ≡ false) → clock g s (g.actor k) < g.seq k
      outside f (inl t) = not-both ((in_history s k l).1 (leb-true (g.seq k) (clock g s (g.actor k)) t)) f
      outside f (inr t) = leb-false (g.seq k) (clock g s (g.actor k)) t

  pub missing_outside : (s : List ℕ) → missing g s ≡ pick (λ k. not (hist g s k)) g.size
  unfolding missing
  missing_outside s = pick_ext (above g (clock g s)) (λ k. not (hist g s k)) g.size (above_outside s)

  -- ---- T7: what two lists share

  -- the smaller of two clocks is no larger than the clock of a set that holds what the two share
  at_least : (s t : List ℕ) (h : ℕ → Bool) (a : ℕ) → ((k : ℕ) → hist g s k ≡ true → hist g t k ≡ true → h k ≡ true) → clock g s a ≤ clock g t a → clock g s a ≤ clock_of g h a
  unfolding clock_of
  at_least s t h a both le =
      ⊎_elim (λ z. omega arith)
      (λ r.
      let same = ap (clock g t) r.whose in
      let u = top_upper g h a g.size r.node r.low (both r.node r.inside ((in_history t r.node r.low).1 (omega (arith, r.value)))) r.whose in
      omega (arith, r.value))
      (clock_attained g v s a)

  -- the smaller entries are the clock of the shared history
  pub clock_shared : (s t : List ℕ) (a : ℕ) → clock_of g (shared g s t) a ≡ min (clock g s a) (clock g t a)
  unfolding clock clock_of shared
  clock_shared s t a =
      let l = top_mono g (shared g s t) (hist g s) g.size a (λ j b e. and_fst (hist g s j) (hist g t j) e) in
      let r = top_mono g (shared g s t) (hist g t) g.size a (λ j b e. and_snd (hist g s j) (hist g t j) e) in
      by_bool (leb (clock g s a) (clock g t a))
      (λ le.
      let b = leb-true (clock g s a) (clock g t a) le in
      let u = at_least s t (shared g s t) a (λ k p q. and_both (hist g s k) (hist g t k) p q) b in
      omega arith)
      (λ gt.
      let b = leb-false (clock g s a) (clock g t a) gt in
      let u = at_least t s (shared g s t) a (λ k p q. and_both (hist g s k) (hist g t k) q p) (omega arith) in
      omega arith)

  -- and the nodes at or below those are the shared history
  pub in_shared : (s t : List ℕ) (k : ℕ) → k < g.size → (shared g s t k ≡ true) ↔ (g.seq k ≤ min (clock g s (g.actor k)) (clock g t (g.actor k)))
  unfolding shared
  in_shared s t k l = (
    (λ e.
        let p = (in_history s k l).0 (and_fst (hist g s k) (hist g t k) e) in
        let q = (in_history t k l).0 (and_snd (hist g s k) (hist g t k) e) in
        omega arith),
    (λ b. and_both (hist g s k) (hist g t k) ((in_history s k l).1 (omega arith)) ((in_history t k l).1 (omega arith))),
  )

  -- ---- T8: a history has as many nodes as its clock's entries sum up to

  pub history_count : (s : List ℕ) (A : ℕ) → ((k : ℕ) → k < g.size → g.actor k < A) → tally (hist g s) g.size ≡ sum_below (clock g s) A
  unfolding clock clock_of
  history_count s A low =
      by_actor g.actor A (hist g s) g.size low
      ∙ sum_ext (λ a. tally (λ k. hist g s k && eqb (g.actor k) a) g.size) (clock g s) A
      (λ a l. count_top g v c (hist g s) (closed_hist g v s) a g.size (omega arith))

  -- ---- the missing list can be sent from its start on: a dependency is had, or stands before in the list

  pub missing_order : (s : List ℕ) (k j : ℕ) → mem k (missing g s) ≡ true → mem j (g.deps k) ≡ true → (hist g s j ≡ true) ⊎ ((j < k) × (mem j (missing g s) ≡ true))
  unfolding missing
  missing_order s k j e d =
      let p = pick_mem (above g (clock g s)) g.size k e in
      let lt = v.down k j p.0 d in
      by_bool (hist g s j) (λ t. inl t)
      (λ f. inr (lt, mem_pick (above g (clock g s)) g.size j (omega arith) (above_outside s j (omega arith) ∙ not_is (hist g s j) f)))

-- ---- joining and sharing distribute over each other

module _ (g : Graph) (v : ValidGraph g) where
  pub share_join : (s t u : List ℕ) (k : ℕ) → shared g s (t ++ u) k ≡ (shared g s t k || shared g s u k)
  unfolding shared
  share_join s t u k = ap (λ (b : Bool). hist g s k && b) (hist_append g v t u k) ∙ and-or_distrib_left (hist g s k) (hist g t k) (hist g u k)

  pub join_share : (s t u : List ℕ) (k : ℕ) → (hist g s k || shared g t u k) ≡ shared g (s ++ t) (s ++ u) k
  unfolding shared
  join_share s t u k =
      or-and_distrib_left (hist g s k) (hist g t k) (hist g u k)
      ∙ ap₂ (λ (a b : Bool). a && b) (sym (hist_append g v s t k)) (sym (hist_append g v s u k))
