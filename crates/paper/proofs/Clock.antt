-- Sequence clocks: the upper bound and that it is attained, joining, and the recurrence of a walk.
-- Assumes nothing.
use mathlib.Core.Path.{◌≡◌, refl, sym, ap, ◌∙◌, subst}
use mathlib.Core.Logic.{◌⊎◌, inl, inr, ⊎_elim}
use mathlib.Core.Bool.{Bool, true, ◌&&◌, ◌||◌}
use mathlib.Core.List.{List, [], ◌∷◌, ◌++◌}
use Prim.Native.Nat.{ℕ, zero, suc, ◌≤◌, ◌<◌, max}
use native.Mathlib.Nat.{not-suc-le-zero}
use native.Mathlib.Omega.{arith}
use lib.Dec.{eqb, leb}
use borrow.Author.Tests.{leb-true, leb-false, eqb-true, eqb-false, eq-eqb}
use Rattle.paper.specs.Lists.{mem}
use Rattle.paper.specs.Graph.{Graph, own, hist, top, Held, clock_of, clock, ValidGraph}
use Rattle.paper.proofs.Bools.{by_bool, same_bool, or_cases, or_left, or_right, and_both, and_fst, and_snd, below_suc, mem_here, mem_single, mem_append}
use Rattle.paper.proofs.History.{hist_least, hist_start, hist_known, hist_closed}

-- ---- the clock of a set of nodes

module _ (g : Graph) (h : ℕ → Bool) (a : ℕ) where
  pub top_upper : (m k : ℕ) → k < m → h k ≡ true → g.actor k ≡ a → g.seq k ≤ top g h m a
  unfolding top
  top_upper zero k l e q = absurd (not-suc-le-zero l)
  top_upper (suc m) k l e q =
      below_suc (λ (j : ℕ). h j ≡ true → g.actor j ≡ a → g.seq j ≤ top g h (suc m) a) m k l
      (λ lt e' q'. let ih = top_upper m k lt e q in omega arith)
      (λ e' q'. rw (and_both (h m) (eqb (g.actor m) a) e' (eq-eqb (g.actor m) a q')) (omega arith))
      e q

  pub top_least : (m c : ℕ) → ((k : ℕ) → k < m → h k ≡ true → g.actor k ≡ a → g.seq k ≤ c) → top g h m a ≤ c
  unfolding top
  top_least zero c u = omega arith
  top_least (suc m) c u =
      let ih = top_least m c (λ k l. u k (omega arith)) in
      by_bool (h m && eqb (g.actor m) a)
      (λ t.
      let b = u m (omega arith) (and_fst (h m) (eqb (g.actor m) a) t) (eqb-true (g.actor m) a (and_snd (h m) (eqb (g.actor m) a) t)) in
      rw t (omega arith))
      (λ f. rw f (omega arith))

  -- it is 0, or the sequence of a node of the actor in the set
  pub top_attained : (m : ℕ) → (top g h m a ≡ 0) ⊎ Held g h m a (top g h m a)
  unfolding top
  top_attained zero = inl refl
  top_attained (suc m) =
      by_bool (h m && eqb (g.actor m) a)
      (λ t. rw t
      (by_bool (leb (top g h m a) (g.seq m))
      (λ le. let l = leb-true (top g h m a) (g.seq m) le in inr (here t (omega arith)))
      (λ gt.
      let l = leb-false (top g h m a) (g.seq m) gt in
      ⊎_elim (λ z. absurd (omega arith)) (λ r. inr (more r (omega arith))) (top_attained m))))
      (λ f. rw f (⊎_elim (λ z. inl (omega arith)) (λ r. inr (more r (omega arith))) (top_attained m)))
    where
      here : (h m && eqb (g.actor m) a) ≡ true → {c : ℕ} → g.seq m ≡ c → Held g h (suc m) a c
      here t e =
          record {
            node = m;
            low = omega arith;
            inside = and_fst (h m) (eqb (g.actor m) a) t;
            whose = eqb-true (g.actor m) a (and_snd (h m) (eqb (g.actor m) a) t);
            value = e;
          }

      more : {c d : ℕ} → Held g h m a c → c ≡ d → Held g h (suc m) a d
      more r e = record { node = r.node; low = omega arith; inside = r.inside; whose = r.whose; value = r.value ∙ e }

-- ---- clocks of sets: what is in both, in either, in one inside the other

pub top_mono : (g : Graph) (h k : ℕ → Bool) (m a : ℕ) → ((j : ℕ) → j < m → h j ≡ true → k j ≡ true) → top g h m a ≤ top g k m a
top_mono g h k m a sub = top_least g h a m (top g k m a) (λ j l e q. top_upper g k a m j l (sub j l e) q)

pub top_ext : (g : Graph) (h k : ℕ → Bool) (m a : ℕ) → ((j : ℕ) → j < m → h j ≡ k j) → top g h m a ≡ top g k m a
top_ext g h k m a e =
    let l = top_mono g h k m a (λ j b t. sym (e j b) ∙ t) in
    let r = top_mono g k h m a (λ j b t. e j b ∙ t) in
    omega arith

pub top_or : (g : Graph) (h k : ℕ → Bool) (m a : ℕ) → top g (λ j. h j || k j) m a ≡ max (top g h m a) (top g k m a)
top_or g h k m a =
    let u = top_mono g h (λ j. h j || k j) m a (λ j l e. or_left (h j) (k j) e) in
    let v = top_mono g k (λ j. h j || k j) m a (λ j l e. or_right (h j) (k j) e) in
    let w = top_least g (λ j. h j || k j) a m (max (top g h m a) (top g k m a)) (λ j l e q. either j l q (or_cases (h j) (k j) e)) in
    omega arith
  where
    either : (j : ℕ) → j < m → g.actor j ≡ a → (h j ≡ true) ⊎ (k j ≡ true) → g.seq j ≤ max (top g h m a) (top g k m a)
    either j l q (inl e) = let b = top_upper g h a m j l e q in omega arith
    either j l q (inr e) = let b = top_upper g k a m j l e q in omega arith

-- one node's
pub top_one : (g : Graph) (k m a : ℕ) → k < m → top g (λ j. eqb j k) m a ≡ own g k a
top_one g k m a l =
    by_bool (eqb (g.actor k) a)
    (λ t.
    let u = top_upper g (λ j. eqb j k) a m k l (eq-eqb k k refl) (eqb-true (g.actor k) a t) in
    let w = top_least g (λ j. eqb j k) a m (g.seq k) (λ j b e q. at_most j (eqb-true j k e)) in
    rw t (omega arith))
    (λ f.
    let w = top_least g (λ j. eqb j k) a m 0 (λ j b e q. absurd (eqb-false (g.actor k) a f (sym (ap (λ (x : ℕ). g.actor x) (eqb-true j k e)) ∙ q))) in
    rw f (omega arith))
  where
    at_most : (j : ℕ) → j ≡ k → g.seq j ≤ g.seq k
    at_most j e = rw e (omega arith)

-- ---- the two laws of a list's clock

module _ (g : Graph) (v : ValidGraph g) (s : List ℕ) where
  -- every node of the history is at or below its actor's entry
  pub clock_upper : (k : ℕ) → hist g s k ≡ true → g.seq k ≤ clock g s (g.actor k)
  unfolding clock clock_of
  clock_upper k e = top_upper g (hist g s) (g.actor k) g.size k (hist_known g v s k e) e refl

  -- an entry is 0 or the sequence of a node of the actor in the history
  pub clock_attained : (a : ℕ) → (clock g s a ≡ 0) ⊎ Held g (hist g s) g.size a (clock g s a)
  unfolding clock clock_of
  clock_attained a = top_attained g (hist g s) a g.size

  -- and the least number so
  pub clock_least : (a c : ℕ) → ((k : ℕ) → hist g s k ≡ true → g.actor k ≡ a → g.seq k ≤ c) → clock g s a ≤ c
  unfolding clock clock_of
  clock_least a c u = top_least g (hist g s) a g.size c (λ k l e q. u k e q)

-- ---- T1: the history of two lists joined is the two histories, and its clock the larger entries

module _ (g : Graph) (v : ValidGraph g) where
  pub hist_append : (s t : List ℕ) (k : ℕ) → hist g (s ++ t) k ≡ (hist g s k || hist g t k)
  hist_append s t k =
      same_bool (hist g (s ++ t) k) (hist g s k || hist g t k)
      (hist_least g (λ (j : ℕ). (hist g s j || hist g t j) ≡ true)
      (λ i j e d.
      ⊎_elim (λ l. or_left (hist g s j) (hist g t j) (hist_closed g v s i j l d)) (λ r. or_right (hist g s j) (hist g t j) (hist_closed g v t i j r d))
      (or_cases (hist g s i) (hist g t i) e))
      (s ++ t)
      (λ j l e.
      ⊎_elim (λ p. or_left (hist g s j) (hist g t j) (hist_start g s j l p)) (λ p. or_right (hist g s j) (hist g t j) (hist_start g t j l p))
      (or_cases (mem j s) (mem j t) (sym (mem_append j s t) ∙ e)))
      k)
      (λ e.
      ⊎_elim (left k) (right k)
      (or_cases (hist g s k) (hist g t k) e))
    where
      left : (k : ℕ) → hist g s k ≡ true → hist g (s ++ t) k ≡ true
      left =
          hist_least g (λ (j : ℕ). hist g (s ++ t) j ≡ true) (λ i j e d. hist_closed g v (s ++ t) i j e d) s
          (λ j l e. hist_start g (s ++ t) j l (mem_append j s t ∙ or_left (mem j s) (mem j t) e))

      right : (k : ℕ) → hist g t k ≡ true → hist g (s ++ t) k ≡ true
      right =
          hist_least g (λ (j : ℕ). hist g (s ++ t) j ≡ true) (λ i j e d. hist_closed g v (s ++ t) i j e d) t
          (λ j l e. hist_start g (s ++ t) j l (mem_append j s t ∙ or_right (mem j s) (mem j t) e))

  pub clock_append : (s t : List ℕ) (a : ℕ) → clock g (s ++ t) a ≡ max (clock g s a) (clock g t a)
  unfolding clock clock_of
  clock_append s t a =
      top_ext g (hist g (s ++ t)) (λ j. hist g s j || hist g t j) g.size a (λ j l. hist_append s t j) ∙ top_or g (hist g s) (hist g t) g.size a

  -- ---- T2: the history of a node is the node and the history of its dependencies

  pub hist_mono : (s t : List ℕ) → ((k : ℕ) → k < g.size → mem k s ≡ true → hist g t k ≡ true) → (k : ℕ) → hist g s k ≡ true → hist g t k ≡ true
  hist_mono s t h = hist_least g (λ (j : ℕ). hist g t j ≡ true) (λ i j e d. hist_closed g v t i j e d) s h

  pub hist_trans : (s : List ℕ) (k j : ℕ) → hist g s k ≡ true → hist g (k ∷ []) j ≡ true → hist g s j ≡ true
  hist_trans s k j e = hist_mono (k ∷ []) s (λ i l m. subst (λ (x : ℕ). hist g s x ≡ true) (sym (mem_single i k m)) e) j

  pub hist_deps : (s : List ℕ) (k j : ℕ) → hist g s k ≡ true → hist g (g.deps k) j ≡ true → hist g s j ≡ true
  hist_deps s k j e = hist_mono (g.deps k) s (λ i l m. hist_closed g v s k i e m) j

  pub hist_node : (k : ℕ) → k < g.size → (j : ℕ) → hist g (k ∷ []) j ≡ (eqb j k || hist g (g.deps k) j)
  hist_node k b j =
      same_bool (hist g (k ∷ []) j) (eqb j k || hist g (g.deps k) j)
      (hist_least g (λ (i : ℕ). (eqb i k || hist g (g.deps k) i) ≡ true)
      (λ i i' e d. or_right (eqb i' k) (hist g (g.deps k) i')
      (⊎_elim
      (λ p. let q = eqb-true i k p in hist_start g (g.deps k) i' (let l = v.down k i' b (rw q at d) in omega arith) (rw q at d))
      (λ r. hist_closed g v (g.deps k) i i' r d)
      (or_cases (eqb i k) (hist g (g.deps k) i) e)))
      (k ∷ [])
      (λ i l m. or_left (eqb i k) (hist g (g.deps k) i) (eq-eqb i k (mem_single i k m)))
      j)
      (λ e.
      ⊎_elim
      (λ p. subst (λ (x : ℕ). hist g (k ∷ []) x ≡ true) (sym (eqb-true j k p)) own)
      (λ r. hist_deps (k ∷ []) k j own r)
      (or_cases (eqb j k) (hist g (g.deps k) j) e))
    where
      own : hist g (k ∷ []) k ≡ true
      own = hist_start g (k ∷ []) k b (mem_here k [])

  -- the clock of a node: its own sequence over the clock of its dependencies
  pub clock_node : (k : ℕ) → k < g.size → (a : ℕ) → clock g (k ∷ []) a ≡ max (own g k a) (clock g (g.deps k) a)
  unfolding clock clock_of
  clock_node k b a =
      top_ext g (hist g (k ∷ [])) (λ j. eqb j k || hist g (g.deps k) j) g.size a (λ j l. hist_node k b j)
      ∙ top_or g (λ j. eqb j k) (hist g (g.deps k)) g.size a
      ∙ ap (λ (x : ℕ). max x (clock g (g.deps k) a)) (top_one g k g.size a b)

  -- a walk's step: node k is taken from the list, and its dependencies are put in its place
  pub clock_step : (k : ℕ) (s : List ℕ) → k < g.size → (a : ℕ) →
      clock g (k ∷ s) a ≡ max (own g k a) (clock g (g.deps k ++ s) a)
  clock_step k s b a = rw (clock_append (g.deps k) s a, clock_append (k ∷ []) s a, clock_node k b a) (omega arith)
