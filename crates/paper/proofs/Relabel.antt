-- Actors renumbered by a function that keeps them apart: histories stay, and each clock entry goes with its actor.
-- Assumes nothing.
use mathlib.Core.Path.{◌≡◌, sym, ap, ap₂, ◌∙◌}
use mathlib.Core.List.{List}
use Prim.Native.Nat.{ℕ, suc, ◌<◌}
use native.Mathlib.Omega.{arith}
use lib.Dec.{eqb}
use borrow.Author.Tests.{eqb-true, eq-eqb}
use Rattle.paper.specs.Graph.{Graph, hist, clock, ValidGraph}
use Rattle.paper.specs.ProofWords.{Relabels}
use Rattle.paper.proofs.Bools.{same_bool, tally_ext}
use Rattle.paper.proofs.History.{hist_known}
use Rattle.paper.proofs.Clock.{clock_upper, clock_least}
use Rattle.paper.proofs.Extend.{hist_same}

module _ (f : ℕ → ℕ) (g g' : Graph) (v : ValidGraph g) (x : Relabels f g g') where
  same_test : (j k : ℕ) → j < g.size → k < g.size → eqb (g'.actor j) (g'.actor k) ≡ eqb (g.actor j) (g.actor k)
  same_test j k lj lk =
      ap₂ (λ (a b : ℕ). eqb a b) (x.actors j lj) (x.actors k lk)
      ∙ same_bool (eqb (f (g.actor j)) (f (g.actor k))) (eqb (g.actor j) (g.actor k))
      (λ e. eq-eqb (g.actor j) (g.actor k) (x.apart j k lj lk (eqb-true (f (g.actor j)) (f (g.actor k)) e)))
      (λ e. eq-eqb (f (g.actor j)) (f (g.actor k)) (ap f (eqb-true (g.actor j) (g.actor k) e)))

  pub valid_relabel : ValidGraph g'
  valid_relabel =
      record {
        down = λ k j l d. let b : k < g.size = (let q = x.sizes in omega arith) in v.down k j b (rw (x.depss k b) at d);
        runs =
            λ k l.
            let b : k < g.size = (let q = x.sizes in omega arith) in
            x.seqs k b ∙ v.runs k b
            ∙ ap suc (sym (tally_ext (λ j. eqb (g'.actor j) (g'.actor k)) (λ j. eqb (g.actor j) (g.actor k)) k (λ j lj. same_test j k (omega arith) b)));
      }

  pub hist_relabel : (s : List ℕ) (k : ℕ) → hist g' s k ≡ hist g s k
  hist_relabel s = let q = x.sizes in hist_same g g' v valid_relabel (omega arith) x.depss s (λ k l e. omega arith)

  -- the entry of a goes to f a, where no other actor that has nodes does
  pub clock_relabel : (s : List ℕ) (a : ℕ) → ((k : ℕ) → k < g.size → f (g.actor k) ≡ f a → g.actor k ≡ a) → clock g' s (f a) ≡ clock g s a
  clock_relabel s a only =
      let l =
      clock_least g' valid_relabel s (f a) (clock g s a)
      (λ k e q.
      let e' = sym (hist_relabel s k) ∙ e in
      let b = hist_known g v s k e' in
      let u = clock_upper g v s k e' in
      let y = ap (clock g s) (only k b (sym (x.actors k b) ∙ q)) in
      omega (arith, x.seqs k b)) in
      let r =
      clock_least g v s a (clock g' s (f a))
      (λ k e q.
      let b = hist_known g v s k e in
      let u = clock_upper g' valid_relabel s k (hist_relabel s k ∙ e) in
      let y = ap (clock g' s) (x.actors k b ∙ ap f q) in
      omega (arith, x.seqs k b)) in
      omega arith

  -- the entry of a number that no actor has is 0
  pub clock_relabel_new : (s : List ℕ) (b : ℕ) → ((k : ℕ) → k < g.size → f (g.actor k) ≡ b → ⊥) → clock g' s b ≡ 0
  clock_relabel_new s b out =
      let l =
      clock_least g' valid_relabel s b 0
      (λ k e q. let i = hist_known g v s k (sym (hist_relabel s k) ∙ e) in absurd (out k i (sym (x.actors k i) ∙ q))) in
      omega arith
