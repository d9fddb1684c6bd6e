-- The laws of the limited walk's leftovers, and of the caching rule.
-- Assumes nothing.
use mathlib.Core.Path.{◌≡◌, refl, sym, ap, ap₂, ◌∙◌}
use mathlib.Core.Logic.{⊎_elim}
use mathlib.Core.Bool.{Bool, true, false, ◌&&◌, ◌||◌}
use mathlib.Core.List.{List, [], ◌∷◌, ◌++◌}
use Prim.Native.Nat.{ℕ, zero, suc, ◌+◌, ◌≤◌, ◌<◌}
use native.Mathlib.Nat.{not-suc-le-zero}
use native.Mathlib.Omega.{arith}
use lib.Dec.{eqb, leb}
use borrow.Author.Tests.{eqb-true, eq-eqb, ne_eqb, leb-true, leb-false, le-leb, lt-leb}
use Rattle.paper.specs.Lists.{mem, pick}
use Rattle.paper.specs.Graph.{Graph, look}
use Rattle.paper.specs.Caching.{left_over, in_turn, cached_to, cached_after}
use Rattle.paper.proofs.Bools.{by_bool, not-both, or_left, or_right, below_or_not, mem_nil, pick_ext, pick_mem}
use Rattle.paper.proofs.History.{look_at}

module _ (g : Graph) (limit : ℕ) where
  -- node m is not marked: it is passed over
  pub left_skip : (c w : ℕ → Bool) (m n : ℕ) → w m ≡ false → left_over g limit c (suc m) n w ≡ left_over g limit c m n w
  unfolding left_over
  left_skip c w m n f = rw f

  -- node m is cached: it counts as visited
  pub left_cached : (c w : ℕ → Bool) (m n : ℕ) → w m ≡ true → c m ≡ true → left_over g limit c (suc m) n w ≡ left_over g limit c m (suc n) w
  unfolding left_over
  left_cached c w m n t e = rw (t, e)

  -- node m is not cached: its dependencies are marked, and the walk goes on or stops
  pub left_visit : (c w : ℕ → Bool) (m n : ℕ) → w m ≡ true → c m ≡ false → n < limit → left_over g limit c (suc m) n w ≡ left_over g limit c m (suc n) (look g m w)
  unfolding left_over
  left_visit c w m n t e l = rw (t, e, lt-leb limit n l)

  pub left_stop : (c w : ℕ → Bool) (m n : ℕ) → w m ≡ true → c m ≡ false → limit ≤ n → left_over g limit c (suc m) n w ≡ pick (look g m w) m
  unfolding left_over
  left_stop c w m n t e l = rw (t, e, le-leb limit n l)

  look_ext : (w z : ℕ → Bool) (m : ℕ) → ((j : ℕ) → j < suc m → w j ≡ z j) → (j : ℕ) → j < m → look g m w j ≡ look g m z j
  look_ext w z m e j l = look_at g m w j ∙ ap₂ (λ (a b : Bool). a || (b && mem j (g.deps m))) (e j (omega arith)) (e m (omega arith)) ∙ sym (look_at g m z j)

  -- only the nodes below m matter
  pub left_ext : (c d w z : ℕ → Bool) (m n : ℕ) → ((j : ℕ) → j < m → c j ≡ d j) → ((j : ℕ) → j < m → w j ≡ z j) → left_over g limit c m n w ≡ left_over g limit d m n z
  unfolding left_over
  left_ext c d w z zero n e f = refl
  left_ext c d w z (suc m) n e f =
      rw (
        e m (omega arith),
        f m (omega arith),
        left_ext c d w z m (suc n) (λ j l. e j (omega arith)) (λ j l. f j (omega arith)),
        left_ext c d (look g m w) (look g m z) m (suc n) (λ j l. e j (omega arith)) (look_ext w z m f),
        left_ext c d w z m n (λ j l. e j (omega arith)) (λ j l. f j (omega arith)),
        pick_ext (look g m w) (look g m z) m (look_ext w z m f),
      )

  -- a walk that can visit all nodes below m leaves none
  pub left_none : (c w : ℕ → Bool) (m n : ℕ) → n + m ≤ limit → left_over g limit c m n w ≡ []
  unfolding left_over
  left_none c w zero n l = refl
  left_none c w (suc m) n l =
      by_bool (w m)
      (λ t.
      by_bool (c m) (λ e. left_cached c w m n t e ∙ left_none c w m (suc n) (omega arith)) (λ e. left_visit c w m n t e (omega arith) ∙ left_none c (look g m w) m (suc n) (omega arith)))
      (λ f. left_skip c w m n f ∙ left_none c w m n (omega arith))

  -- what is left over is below m
  pub left_below : (c w : ℕ → Bool) (m n j : ℕ) → mem j (left_over g limit c m n w) ≡ true → j < m
  unfolding left_over
  left_below c w zero n j e = not-both e (mem_nil j)
  left_below c w (suc m) n j e =
      by_bool (w m)
      (λ t.
      by_bool (c m) (λ q. let r = left_below c w m (suc n) j (ap (mem j) (sym (left_cached c w m n t q)) ∙ e) in omega arith)
      (λ q.
      by_bool (leb limit n)
      (λ s. let r = pick_mem (look g m w) m j (ap (mem j) (sym (left_stop c w m n t q (leb-true limit n s))) ∙ e) in let z = r.0 in omega arith)
      (λ s.
      let r = left_below c (look g m w) m (suc n) j (ap (mem j) (sym (left_visit c w m n t q (leb-false limit n s))) ∙ e) in
      omega arith)))
      (λ f. let r = left_below c w m n j (ap (mem j) (sym (left_skip c w m n f)) ∙ e) in omega arith)

-- nothing below m is to be visited: nothing is left over
pub left_idle : (g : Graph) (limit : ℕ) (c w : ℕ → Bool) (m n : ℕ) → ((j : ℕ) → j < m → w j ≡ false) → left_over g limit c m n w ≡ []
unfolding left_over
left_idle g limit c w zero n f = refl
left_idle g limit c w (suc m) n f = left_skip g limit c w m n (f m (omega arith)) ∙ left_idle g limit c w m n (λ j l. f j (omega arith))

-- a walk from node k leaves nodes below k, and none where k is cached
pub left_lower : (g : Graph) (c w : ℕ → Bool) (k j : ℕ) → w k ≡ true → mem j (left_over g 32 c (suc k) 0 w) ≡ true → j < k
left_lower g c w k j t e =
    by_bool (c k) (λ q. left_below g 32 c w k 1 j (ap (mem j) (sym (left_cached g 32 c w k 0 t q)) ∙ e))
    (λ q. left_below g 32 c (look g k w) k 1 j (ap (mem j) (sym (left_visit g 32 c w k 0 t q (omega arith))) ∙ e))

-- ---- in turn

pub in_turn_snoc : (f : (ℕ → Bool) → ℕ → ℕ → Bool) (c : ℕ → Bool) (xs : List ℕ) (k : ℕ) → in_turn f c (xs ++ (k ∷ [])) ≡ f (in_turn f c xs) k
unfolding in_turn
in_turn_snoc f c [] k = refl
in_turn_snoc f c (x ∷ xs) k = in_turn_snoc f (f c x) xs k

-- two rules that keep sets alike below b, for the nodes below m
in_turn_ext : (f h : (ℕ → Bool) → ℕ → ℕ → Bool) (b m : ℕ) → ((c d : ℕ → Bool) → ((j : ℕ) → j < b → c j ≡ d j) → (i : ℕ) → i < m → (j : ℕ) → j < b → f c i j ≡ h d i j) → (c d : ℕ → Bool) → ((j : ℕ) → j < b → c j ≡ d j) → (xs : List ℕ) → ((i : ℕ) → mem i xs ≡ true → i < m) → (j : ℕ) → j < b → in_turn f c xs j ≡ in_turn h d xs j
unfolding in_turn mem
in_turn_ext f h b m r c d e [] low j l = e j l
in_turn_ext f h b m r c d e (x ∷ xs) low j l =
    in_turn_ext f h b m r (f c x) (h d x) (r c d e x (low x (or_left (eqb x x) (mem x xs) (eq-eqb x x refl)))) xs (λ i t. low i (or_right (eqb i x) (mem i xs) t)) j l

-- a rule that changes nothing at j for the nodes below m, and one that keeps j
turn_same : (f : (ℕ → Bool) → ℕ → ℕ → Bool) (j m : ℕ) → ((c : ℕ → Bool) (i : ℕ) → i < m → f c i j ≡ c j) → (c : ℕ → Bool) (xs : List ℕ) → ((i : ℕ) → mem i xs ≡ true → i < m) → in_turn f c xs j ≡ c j
unfolding in_turn mem
turn_same f j m r c [] low = refl
turn_same f j m r c (x ∷ xs) low =
    turn_same f j m r (f c x) xs (λ i t. low i (or_right (eqb i x) (mem i xs) t)) ∙ r c x (low x (or_left (eqb x x) (mem x xs) (eq-eqb x x refl)))

turn_keeps : (f : (ℕ → Bool) → ℕ → ℕ → Bool) (j : ℕ) → ((c : ℕ → Bool) (i : ℕ) → c j ≡ true → f c i j ≡ true) → (c : ℕ → Bool) (xs : List ℕ) → c j ≡ true → in_turn f c xs j ≡ true
unfolding in_turn
turn_keeps f j r c [] e = e
turn_keeps f j r c (x ∷ xs) e = turn_keeps f j r (f c x) xs (r c x e)

module _ (g : Graph) where
  -- caching node k changes nothing above k
  pub cached_above : (depth : ℕ) (c : ℕ → Bool) (k j : ℕ) → k < j → cached_to g depth c k j ≡ c j
  unfolding cached_to
  cached_above zero c k j l = refl
  cached_above (suc depth) c k j l =
      ap (λ (b : Bool). b || in_turn (cached_to g depth) c (left_over g 32 c (suc k) 0 (λ i. eqb i k)) j) (ne_eqb j k (λ (q : j ≡ k). omega arith))
      ∙ turn_same (cached_to g depth) j (suc k) (λ d i h. cached_above depth d i j (omega arith)) c (left_over g 32 c (suc k) 0 (λ i. eqb i k)) (left_below g 32 c (λ i. eqb i k) (suc k) 0)

  -- what is cached stays cached
  pub cached_keeps : (depth : ℕ) (c : ℕ → Bool) (k j : ℕ) → c j ≡ true → cached_to g depth c k j ≡ true
  unfolding cached_to
  cached_keeps zero c k j e = e
  cached_keeps (suc depth) c k j e =
      or_right (eqb j k) _ (turn_keeps (cached_to g depth) j (λ d i. cached_keeps depth d i j) c (left_over g 32 c (suc k) 0 (λ i. eqb i k)) e)

  -- the depth does not matter, nor what the set has above k
  pub cached_ext : (depth depth' : ℕ) (c d : ℕ → Bool) (k : ℕ) → k < depth → k < depth' → ((j : ℕ) → j < suc k → c j ≡ d j) → (j : ℕ) → j < suc k → cached_to g depth c k j ≡ cached_to g depth' d k j
  unfolding cached_to
  cached_ext zero depth' c d k l m e j b = absurd (not-suc-le-zero l)
  cached_ext (suc depth) zero c d k l m e j b = absurd (not-suc-le-zero m)
  cached_ext (suc depth) (suc depth') c d k l m e j b =
      ap (λ (x : Bool). eqb j k || x)
      (in_turn_ext (cached_to g depth) (cached_to g depth') (suc k) k
      (λ c₁ d₁ e₁ i h j₁ b₁.
      ⊎_elim (λ low. cached_ext depth depth' c₁ d₁ i (omega arith) (omega arith) (λ j₂ b₂. e₁ j₂ (omega arith)) j₁ low)
      (λ high. cached_above depth c₁ i j₁ high ∙ e₁ j₁ b₁ ∙ sym (cached_above depth' d₁ i j₁ high))
      (below_or_not j₁ (suc i)))
      c d e
      (left_over g 32 c (suc k) 0 (λ i. eqb i k))
      (λ i t. left_lower g c (λ i. eqb i k) k i (eq-eqb k k refl) t)
      j b
      ∙ ap (λ (xs : List ℕ). in_turn (cached_to g depth') d xs j) (left_ext g 32 c d (λ i. eqb i k) (λ i. eqb i k) (suc k) 0 e (λ i t. refl)))

  -- the same for nodes in turn, all below b
  pub turn_ext : (depth depth' b : ℕ) → b ≤ depth → b ≤ depth' → (c d : ℕ → Bool) → ((j : ℕ) → j < b → c j ≡ d j) → (xs : List ℕ) → ((i : ℕ) → mem i xs ≡ true → i < b) → (j : ℕ) → j < b → in_turn (cached_to g depth) c xs j ≡ in_turn (cached_to g depth') d xs j
  turn_ext depth depth' b l m =
      in_turn_ext (cached_to g depth) (cached_to g depth') b b
      (λ c₁ d₁ e₁ i h j₁ b₁.
      ⊎_elim (λ low. cached_ext depth depth' c₁ d₁ i (omega arith) (omega arith) (λ j₂ b₂. e₁ j₂ (omega arith)) j₁ low)
      (λ high. cached_above depth c₁ i j₁ high ∙ e₁ j₁ b₁ ∙ sym (cached_above depth' d₁ i j₁ high))
      (below_or_not j₁ (suc i)))

  -- node k is cached
  pub cached_here : (depth : ℕ) (c : ℕ → Bool) (k : ℕ) → cached_to g (suc depth) c k k ≡ true
  unfolding cached_to
  cached_here depth c k = or_left (eqb k k) _ (eq-eqb k k refl)

  -- where it is cached already nothing changes
  pub cached_again : (c : ℕ → Bool) (k j : ℕ) → c k ≡ true → cached_after g c k j ≡ c j
  unfolding cached_after cached_to in_turn
  cached_again c k j t =
      ap (λ (xs : List ℕ). eqb j k || in_turn (cached_to g k) c xs j)
      (left_cached g 32 c (λ i. eqb i k) k 0 (eq-eqb k k refl) t ∙ left_idle g 32 c (λ i. eqb i k) k 1 (λ i l. ne_eqb i k (λ (q : i ≡ k). omega arith)))
      ∙ by_bool (eqb j k) (λ e. rw e (sym (ap c (eqb-true j k e) ∙ t))) (λ e. rw e)

  -- the rule at its start: what the walk left over in turn, and node k
  pub cached_by : (c : ℕ → Bool) (k j : ℕ) → cached_after g c k j ≡ (eqb j k || in_turn (cached_to g k) c (left_over g 32 c (suc k) 0 (λ i. eqb i k)) j)
  unfolding cached_after cached_to
  cached_by c k j = refl

  pub after_here : (c : ℕ → Bool) (k : ℕ) → cached_after g c k k ≡ true
  unfolding cached_after
  after_here c k = cached_here k c k

  pub after_keeps : (c : ℕ → Bool) (k j : ℕ) → c j ≡ true → cached_after g c k j ≡ true
  unfolding cached_after
  after_keeps c k j e = cached_keeps (suc k) c k j e

  pub after_above : (c : ℕ → Bool) (k j : ℕ) → k < j → cached_after g c k j ≡ c j
  unfolding cached_after
  after_above c k j l = cached_above (suc k) c k j l

  -- as a step of a greater node's caching
  pub after_to : (depth : ℕ) (c d : ℕ → Bool) (k : ℕ) → k < depth → ((j : ℕ) → j < suc k → c j ≡ d j) → (j : ℕ) → j < suc k → cached_after g c k j ≡ cached_to g depth d k j
  unfolding cached_after
  after_to depth c d k l e j b = cached_ext (suc k) depth c d k (omega arith) l e j b
