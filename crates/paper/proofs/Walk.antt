-- The laws of a walk that takes the highest marked node, with its own clock or by its dependencies, until none is left.
-- At each step the larger of what it has and `front`, what is still to come, is the clock that it started for.
-- Assumes nothing.
use mathlib.Core.Path.{◌≡◌, refl, sym, ap, ◌∙◌}
use mathlib.Core.Logic.{⊎_elim}
use mathlib.Core.Bool.{Bool, true, false, ◌||◌}
use mathlib.Core.List.{List, [], ◌∷◌}
use Prim.Native.Nat.{ℕ, zero, suc, ◌≤◌, ◌<◌, max}
use native.Mathlib.Nat.{not-suc-le-zero}
use native.Mathlib.Omega.{arith}
use lib.Dec.{ltb}
use borrow.Author.Tests.{ltb-true, ltb-false}
use Rattle.paper.specs.Lists.{mem}
use Rattle.paper.specs.Graph.{Graph, own, hist, clock, Covers, ValidGraph}
use Rattle.paper.specs.ProofWords.{front}
use Rattle.paper.proofs.Bools.{by_bool, not-both, or_cases, or_left, or_right, below_suc, mem_here, mem_nil, mem_single}
use Rattle.paper.proofs.History.{hist_least, hist_start, hist_closed, hist_known}
use Rattle.paper.proofs.Clock.{clock_upper, clock_least, clock_node, hist_mono}

module _ (g : Graph) (v : ValidGraph g) where
  -- ---- a list's clock is its members' clocks, joined

  pub clock_mono : (s t : List ℕ) (a : ℕ) → ((k : ℕ) → hist g s k ≡ true → hist g t k ≡ true) → clock g s a ≤ clock g t a
  clock_mono s t a sub =
      clock_least g v s a (clock g t a) (λ k e q. let u = clock_upper g v t k (sub k e) in let r = ap (clock g t) q in omega arith)

  pub clock_member : (s : List ℕ) (k a : ℕ) → mem k s ≡ true → clock g (k ∷ []) a ≤ clock g s a
  clock_member s k a e =
      clock_mono (k ∷ []) s a (hist_mono g v (k ∷ []) s (λ j l m. hist_start g s j l (ap (λ (x : ℕ). mem x s) (mem_single j k m) ∙ e)))

  pub clock_members : (s : List ℕ) (a c : ℕ) → ((k : ℕ) → k < g.size → mem k s ≡ true → clock g (k ∷ []) a ≤ c) → clock g s a ≤ c
  clock_members s a c u =
      clock_least g v s a c
      (λ k e q.
      let r =
      hist_least g (λ (i : ℕ). (m : ℕ) × (m < g.size) × (mem m s ≡ true) × (hist g (m ∷ []) i ≡ true))
      (λ i j p d. (p.0, p.1, p.2, hist_closed g v (p.0 ∷ []) i j p.3 d))
      s
      (λ i l m. (i, l, m, hist_start g (i ∷ []) i l (mem_here i [])))
      k e in
      let b = u r.0 r.1 r.2 in
      let t = clock_upper g v (r.0 ∷ []) k r.3 in
      let y = ap (clock g (r.0 ∷ [])) q in
      omega arith)

  pub clock_nil : (a : ℕ) → clock g [] a ≡ 0
  clock_nil a = let u = clock_members [] a 0 (λ k l e. not-both e (mem_nil k)) in omega arith

  -- an unknown start adds nothing
  pub clock_unknown : (k a : ℕ) → g.size ≤ k → clock g (k ∷ []) a ≡ 0
  clock_unknown k a b = let u = clock_members (k ∷ []) a 0 (λ j l e. let q = mem_single j k e in absurd (omega arith)) in omega arith

  -- ---- the front

  front_upper : (w : ℕ → Bool) (m k a : ℕ) → k < m → w k ≡ true → clock g (k ∷ []) a ≤ front g w m a
  unfolding front
  front_upper w zero k a l e = absurd (not-suc-le-zero l)
  front_upper w (suc m) k a l e =
      below_suc (λ (j : ℕ). w j ≡ true → clock g (j ∷ []) a ≤ front g w (suc m) a) m k l
      (λ lt e'. let ih = front_upper w m k a lt e in omega arith) (λ e'. rw e' (omega arith)) e

  front_least : (w : ℕ → Bool) (m a c : ℕ) → ((k : ℕ) → k < m → w k ≡ true → clock g (k ∷ []) a ≤ c) → front g w m a ≤ c
  unfolding front
  front_least w zero a c u = omega arith
  front_least w (suc m) a c u =
      let ih = front_least w m a c (λ k l. u k (omega arith)) in
      by_bool (w m) (λ t. let b = u m (omega arith) t in rw t (omega arith)) (λ f. rw f (omega arith))

  pub front_ext : (w z : ℕ → Bool) (m a : ℕ) → ((k : ℕ) → k < m → w k ≡ z k) → front g w m a ≡ front g z m a
  front_ext w z m a e =
      let l = front_least w m a (front g z m a) (λ k b t. front_upper z m k a b (sym (e k b) ∙ t)) in
      let r = front_least z m a (front g w m a) (λ k b t. front_upper w m k a b (e k b ∙ t)) in
      omega arith

  -- the walk starts with the list's known nodes marked
  pub front_start : (s : List ℕ) (w : ℕ → Bool) (a : ℕ) → ((k : ℕ) → k < g.size → w k ≡ mem k s) → front g w g.size a ≡ clock g s a
  front_start s w a e =
      let l = front_least w g.size a (clock g s a) (λ k b t. clock_member s k a (sym (e k b) ∙ t)) in
      let r = clock_members s a (front g w g.size a) (λ k b t. front_upper w g.size k a b (e k b ∙ t)) in
      omega arith

  -- it ends with nothing left
  pub front_end : (w : ℕ → Bool) (a : ℕ) → front g w 0 a ≡ 0
  unfolding front
  front_end w a = refl

  -- node m is not marked: it is passed over
  pub front_skip : (w : ℕ → Bool) (m a : ℕ) → w m ≡ false → front g w (suc m) a ≡ front g w m a
  unfolding front
  front_skip w m a f = rw f (omega arith)

  -- node m is marked, and its clock is at hand: it is brought in
  pub front_cached : (w : ℕ → Bool) (m a : ℕ) → w m ≡ true → front g w (suc m) a ≡ max (clock g (m ∷ []) a) (front g w m a)
  unfolding front
  front_cached w m a t = rw t (omega arith)

  -- marks that are added bring in the clock of what they mark
  pub front_mark : (w : ℕ → Bool) (d : List ℕ) (m a : ℕ) → m ≤ g.size → ((k : ℕ) → mem k d ≡ true → k < m) → front g (λ j. w j || mem j d) m a ≡ max (clock g d a) (front g w m a)
  front_mark w d m a b low =
      let u =
      front_least (λ j. w j || mem j d) m a (max (clock g d a) (front g w m a))
      (λ k l t.
      ⊎_elim (λ p. let x = front_upper w m k a l p in omega arith) (λ p. let x = clock_member d k a p in omega arith)
      (or_cases (w k) (mem k d) t)) in
      let p = front_least w m a (front g (λ j. w j || mem j d) m a) (λ k l t. front_upper (λ j. w j || mem j d) m k a l (or_left (w k) (mem k d) t)) in
      let q = clock_members d a (front g (λ j. w j || mem j d) m a) (λ k l t. front_upper (λ j. w j || mem j d) m k a (low k t) (or_right (w k) (mem k d) t)) in
      omega arith

  -- node m is marked: its own sequence is brought in, and its dependencies are marked
  pub front_visit : (w : ℕ → Bool) (m a : ℕ) → m < g.size → w m ≡ true → front g w (suc m) a ≡ max (own g m a) (front g (λ j. w j || mem j (g.deps m)) m a)
  front_visit w m a l t =
      let x = front_cached w m a t in
      let y = clock_node g v m l a in
      let z = front_mark w (g.deps m) m a (omega arith) (λ k e. v.down m k l e) in
      omega arith

  -- an actor without nodes has the entry 0, so clocks are compared at the actors in use
  pub clock_absent : (s : List ℕ) (a : ℕ) → ((k : ℕ) → k < g.size → g.actor k ≡ a → ⊥) → clock g s a ≡ 0
  clock_absent s a none = let u = clock_least g v s a 0 (λ k e q. absurd (none k (hist_known g v s k e) q)) in omega arith

  pub covers_below : (s t : List ℕ) (A : ℕ) → ((k : ℕ) → k < g.size → g.actor k < A) → ((a : ℕ) → a < A → clock g t a ≤ clock g s a) → Covers (clock g s) (clock g t)
  unfolding Covers
  covers_below s t A low all a =
      by_bool (ltb a A) (λ y. all a (ltb-true a A y))
      (λ n.
      let b = ltb-false a A n in
      let z = clock_absent t a (λ k l q. let w = low k l in omega arith) in
      omega arith)
