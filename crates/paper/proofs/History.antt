-- The history by marks is the least set that holds the known starts and is closed under dependencies.
-- Assumes nothing.
use mathlib.Core.Path.{◌≡◌, refl, sym, ◌∙◌}
use mathlib.Core.Logic.{◌⊎◌, inl, inr, ⊎_elim}
use mathlib.Core.Bool.{Bool, true, false, ◌&&◌, ◌||◌}
use mathlib.Core.List.{List}
use Prim.Native.Nat.{ℕ, zero, suc, ◌≤◌, ◌<◌}
use native.Mathlib.Nat.{not-suc-le-zero}
use native.Mathlib.Omega.{arith}
use lib.Dec.{ltb}
use borrow.Author.Tests.{ltb-true, lt-ltb}
use Rattle.paper.specs.Lists.{mem}
use Rattle.paper.specs.Graph.{Graph, Reach, start, step, look, pass, known, hist, ValidGraph}
use Rattle.paper.proofs.Bools.{by_bool, or_cases, or_left, or_right, and_both, and_fst, and_snd, below_suc}

-- a mark after a look at m
pub look_at : (g : Graph) (m : ℕ) (w : ℕ → Bool) (j : ℕ) → look g m w j ≡ (w j || (w m && mem j (g.deps m)))
unfolding look
look_at g m w j = by_bool (w m) (λ t. rw t) (λ f. rw f (sym (or_false (w j))))
  where
    or_false : (b : Bool) → (b || false) ≡ b
    or_false true = refl
    or_false false = refl

-- ---- the pass is in any closed set that has the marks it starts from

module _ (g : Graph) (P : ℕ → Type 0) (closed : (k j : ℕ) → P k → mem j (g.deps k) ≡ true → P j) where
  pass_least : (m : ℕ) (w : ℕ → Bool) → ((k : ℕ) → w k ≡ true → P k) → (k : ℕ) → pass g m w k ≡ true → P k
  unfolding pass
  pass_least zero w h k e = h k e
  pass_least (suc m) w h k e = pass_least m (look g m w) (λ j ej. looked j (or_cases (w j) (w m && mem j (g.deps m)) (sym (look_at g m w j) ∙ ej))) k e
    where
      looked : (j : ℕ) → (w j ≡ true) ⊎ ((w m && mem j (g.deps m)) ≡ true) → P j
      looked j (inl e') = h j e'
      looked j (inr e') = closed m j (h m (and_fst (w m) (mem j (g.deps m)) e')) (and_snd (w m) (mem j (g.deps m)) e')

  pub hist_least : (s : List ℕ) → ((k : ℕ) → k < g.size → mem k s ≡ true → P k) → (k : ℕ) → hist g s k ≡ true → P k
  unfolding hist known
  hist_least s h k e =
      pass_least g.size (known g s) (λ j ej. h j (ltb-true j g.size (and_fst (ltb j g.size) (mem j s) ej)) (and_snd (ltb j g.size) (mem j s) ej)) k e

-- ---- the pass keeps every mark, and adds none at m or above

pass_keeps : (g : Graph) (m : ℕ) (w : ℕ → Bool) (k : ℕ) → w k ≡ true → pass g m w k ≡ true
unfolding pass
pass_keeps g zero w k e = e
pass_keeps g (suc m) w k e = pass_keeps g m (look g m w) k (look_at g m w k ∙ or_left (w k) (w m && mem k (g.deps m)) e)

pub hist_start : (g : Graph) (s : List ℕ) (k : ℕ) → k < g.size → mem k s ≡ true → hist g s k ≡ true
unfolding hist known
hist_start g s k l e = pass_keeps g g.size (known g s) k (and_both (ltb k g.size) (mem k s) (lt-ltb k g.size l) e)

module _ (g : Graph) (v : ValidGraph g) where
  pass_high : (m : ℕ) (w : ℕ → Bool) (k : ℕ) → m ≤ g.size → m ≤ k → pass g m w k ≡ true → w k ≡ true
  unfolding pass
  pass_high zero w k b l e = e
  pass_high (suc m) w k b l e =
      ⊎_elim (λ e'. e') (λ e'. let d = v.down m k (omega arith) (and_snd (w m) (mem k (g.deps m)) e') in absurd (omega arith))
      (or_cases (w k) (w m && mem k (g.deps m)) (sym (look_at g m w k) ∙ pass_high m (look g m w) k (omega arith) (omega arith) e))

  pass_closed : (m : ℕ) (w : ℕ → Bool) (k j : ℕ) → m ≤ g.size → k < m → pass g m w k ≡ true → mem j (g.deps k) ≡ true → pass g m w j ≡ true
  unfolding pass
  pass_closed zero w k j b l e d = absurd (not-suc-le-zero l)
  pass_closed (suc m) w k j b l e d =
      below_suc (λ (i : ℕ). pass g (suc m) w i ≡ true → mem j (g.deps i) ≡ true → pass g (suc m) w j ≡ true) m k l
      (λ lt e d. pass_closed m (look g m w) k j (omega arith) lt e d)
      (λ e d. pass_keeps g m (look g m w) j (look_at g m w j ∙ or_right (w j) (w m && mem j (g.deps m)) (and_both (w m) (mem j (g.deps m)) (marked e) d)))
      e d
    where
      marked : pass g m (look g m w) m ≡ true → w m ≡ true
      marked e =
          ⊎_elim (λ e'. e') (λ e'. and_fst (w m) (mem m (g.deps m)) e')
          (or_cases (w m) (w m && mem m (g.deps m)) (sym (look_at g m w m) ∙ pass_high m (look g m w) m (omega arith) (omega arith) e))

  -- the history holds known nodes alone
  pub hist_known : (s : List ℕ) (k : ℕ) → hist g s k ≡ true → k < g.size
  hist_known s = hist_least g (λ (k : ℕ). k < g.size) (λ k j l d. let b = v.down k j l d in omega arith) s (λ k l e. l)

  -- and with a node its dependencies
  pub hist_closed : (s : List ℕ) (k j : ℕ) → hist g s k ≡ true → mem j (g.deps k) ≡ true → hist g s j ≡ true
  unfolding hist
  hist_closed s k j e d = pass_closed g.size (known g s) k j (omega arith) (hist_known s k e) e d

  -- ---- the two definitions agree

  pub reach_hist : (s : List ℕ) {k : ℕ} → Reach g s k → hist g s k ≡ true
  reach_hist s (start k l e) = hist_start g s k l e
  reach_hist s (step k j r d) = hist_closed s k j (reach_hist s r) d

pub hist_reach : (g : Graph) (s : List ℕ) (k : ℕ) → hist g s k ≡ true → Reach g s k
hist_reach g s = hist_least g (λ (k : ℕ). Reach g s k) (λ k j r d. step k j r d) s (λ k l e. start k l e)
