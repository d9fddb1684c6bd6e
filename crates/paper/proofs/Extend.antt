-- Nodes that are added after the others leave every history, clock and dependency of the others as they were.
-- Assumes nothing.
use mathlib.Core.Path.{◌≡◌, sym, ap, ap₂, ◌∙◌}
use mathlib.Core.Bool.{Bool, true, false, ◌||◌}
use mathlib.Core.List.{List, [], ◌∷◌}
use Prim.Native.Nat.{ℕ, suc, ◌≤◌, ◌<◌, max}
use lib.Dec.{eqb}
use native.Mathlib.Omega.{arith}
use Rattle.paper.specs.Lists.{mem, tally, some_below}
use Rattle.paper.specs.Graph.{Graph, own, hist, clock, wanted, ValidGraph, Chained}
use Rattle.paper.specs.ProofWords.{Extends}
use Rattle.paper.proofs.Bools.{same_bool, to_false, below_suc, tally_ext, some_ext, of_some}
use Rattle.paper.proofs.History.{hist_least, hist_start, hist_known, hist_closed}
use Rattle.paper.proofs.Clock.{clock_upper, clock_least, clock_node}
use Rattle.paper.proofs.Chain.{chained_clock, clock_chained}

-- a history depends on the dependencies alone
module _ (g g' : Graph) (v : ValidGraph g) (v' : ValidGraph g') (longer : g.size ≤ g'.size) (depss : (k : ℕ) → k < g.size → g'.deps k ≡ g.deps k)
    (s : List ℕ) (old : (k : ℕ) → k < g'.size → mem k s ≡ true → k < g.size) where
  pub hist_same : (k : ℕ) → hist g' s k ≡ hist g s k
  hist_same k =
      same_bool (hist g' s k) (hist g s k)
      (λ e.
      (hist_least g' (λ (i : ℕ). (i < g.size) × (hist g s i ≡ true))
      (λ i j p d.
      let d' : mem j (g.deps i) ≡ true = rw (depss i p.0) at d in
      (let b = v.down i j p.0 d' in omega arith, hist_closed g v s i j p.1 d'))
      s
      (λ i l e. (old i l e, hist_start g s i (old i l e) e))
      k e).1)
      (λ e.
      (hist_least g (λ (i : ℕ). (i < g.size) × (hist g' s i ≡ true))
      (λ i j p d.
      (let b = v.down i j p.0 d in omega arith, hist_closed g' v' s i j p.1 (rw (depss i p.0) d)))
      s
      (λ i l e. (l, hist_start g' s i (omega arith) e))
      k e).1)

module _ (g g' : Graph) (v : ValidGraph g) (v' : ValidGraph g') (x : Extends g g') (s : List ℕ) (old : (k : ℕ) → mem k s ≡ true → k < g.size) where
  pub hist_extend : (k : ℕ) → hist g' s k ≡ hist g s k
  hist_extend = hist_same g g' v v' x.longer x.depss s (λ k l e. old k e)

  pub clock_extend : (a : ℕ) → clock g' s a ≡ clock g s a
  clock_extend a =
      let l =
      clock_least g' v' s a (clock g s a)
      (λ k e q.
      let e' = sym (hist_extend k) ∙ e in
      let b = hist_known g v s k e' in
      let u = clock_upper g v s k e' in
      let q' = ap (clock g s) (sym (x.actors k b) ∙ q) in
      omega (arith, x.seqs k b)) in
      let r =
      clock_least g v s a (clock g' s a)
      (λ k e q.
      let b = hist_known g v s k e in
      let u = clock_upper g' v' s k (hist_extend k ∙ e) in
      let q' = ap (clock g' s) (x.actors k b ∙ q) in
      omega (arith, x.seqs k b)) in
      omega arith

-- ---- one node more: g' is g with a node at the end, whose dependencies are known and whose sequence is its actor's next

module _ (g g' : Graph) (v : ValidGraph g) (x : Extends g g') (one : g'.size ≡ suc g.size)
    (low : (j : ℕ) → mem j (g'.deps g.size) ≡ true → j < g.size)
    (next : g'.seq g.size ≡ suc (tally (λ j. eqb (g.actor j) (g'.actor g.size)) g.size)) where
  each : (P : ℕ → Type 0) → ((k : ℕ) → k < g.size → P k) → P g.size → (k : ℕ) → k < g'.size → P k
  each P old new k l = below_suc P g.size k (omega arith) (old k) new

  pub valid_add : ValidGraph g'
  valid_add =
      record {
        down =
            λ k j l.
            each (λ (i : ℕ). mem j (g'.deps i) ≡ true → j < i)
            (λ i b d. v.down i j b (rw (x.depss i b) at d)) (low j) k l;
        runs =
            each (λ (i : ℕ). g'.seq i ≡ suc (tally (λ j. eqb (g'.actor j) (g'.actor i)) i))
            (λ i b.
            x.seqs i b ∙ v.runs i b
            ∙ ap suc (sym (tally_ext (λ j. eqb (g'.actor j) (g'.actor i)) (λ j. eqb (g.actor j) (g.actor i)) i (λ j lj. ap₂ (λ (a b : ℕ). eqb a b) (x.actors j (omega arith)) (x.actors i b)))))
            (next
            ∙ ap suc (tally_ext (λ j. eqb (g.actor j) (g'.actor g.size)) (λ j. eqb (g'.actor j) (g'.actor g.size)) g.size
            (λ j lj. ap (λ (a : ℕ). eqb a (g'.actor g.size)) (sym (x.actors j lj)))));
      }

  -- a node is depended on where it was, or where the new one depends on it
  pub wanted_add : (k : ℕ) → wanted g' k ≡ (wanted g k || mem k (g'.deps g.size))
  unfolding wanted some_below
  wanted_add k =
      ap (some_below (λ m. mem k (g'.deps m))) one
      ∙ ap (λ (b : Bool). b || mem k (g'.deps g.size))
      (some_ext (λ m. mem k (g'.deps m)) (λ m. mem k (g.deps m)) g.size (λ m l. ap (mem k) (x.depss m l)))

  -- nothing depends on the new node, and a node is a head then exactly if it was and the new one does not depend on it
  pub new_unwanted : wanted g' g.size ≡ false
  unfolding wanted
  new_unwanted =
      to_false (some_below (λ m. mem g.size (g'.deps m)) g'.size)
      (λ e. let r = of_some (λ m. mem g.size (g'.deps m)) g'.size e in let b = valid_add.down r.0 g.size r.1 r.2 in omega (arith, r.1))

  -- the clock of the new node
  pub clock_new : (a : ℕ) → clock g' (g.size ∷ []) a ≡ max (own g' g.size a) (clock g (g'.deps g.size) a)
  clock_new a =
      clock_node g' valid_add g.size (omega arith) a
      ∙ ap (max (own g' g.size a)) (clock_extend g g' v valid_add x (g'.deps g.size) low a)

  -- a chained graph stays so exactly if the clock of the new node's dependencies has the sequence before its own
  pub chained_add : Chained g → g'.seq g.size ≡ suc (clock g (g'.deps g.size) (g'.actor g.size)) → Chained g'
  chained_add c new =
      clock_chained g' valid_add
      (each (λ (i : ℕ). g'.seq i ≡ suc (clock g' (g'.deps i) (g'.actor i)))
      (λ i b.
      x.seqs i b ∙ chained_clock g v c i b
      ∙ ap suc
      (sym (clock_extend g g' v valid_add x (g.deps i) (λ j d. let y = v.down i j b d in omega arith) (g.actor i))
      ∙ ap₂ (clock g') (sym (x.depss i b)) (sym (x.actors i b))))
      (new ∙ ap suc (sym (clock_extend g g' v valid_add x (g'.deps g.size) low (g'.actor g.size)))))
