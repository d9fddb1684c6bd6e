-- The owner that is computed is the owner as defined: the actor's change of lowest sequence whose range holds the counter.
-- Assumes nothing.
use mathlib.Core.Path.{◌≡◌, sym, ap, ◌∙◌}
use mathlib.Core.Logic.{⊎_elim}
use mathlib.Core.Bool.{true, false}
use Prim.Native.Nat.{ℕ, ◌+◌, ◌≤◌, ◌<◌}
use native.Mathlib.Omega.{arith}
use native.Mathlib.Nat.{eq-or-lt_of_le}
use lib.Dec.{eqb, leb, ltb}
use borrow.Author.Tests.{eqb-true, ltb-true}
use Rattle.paper.specs.Graph.{Graph, ValidGraph, is_in_range, owns, Owner, owner}
use Rattle.paper.proofs.Bools.{not-both, to_false, and_fst, and_snd, below_or_not}
use Rattle.paper.proofs.First.{first_says, first_none}
use Rattle.paper.proofs.Chain.{seq_up}

pub owns_actor : (g : Graph) (a c k : ℕ) → owns g a c k ≡ true → g.actor k ≡ a
unfolding owns
owns_actor g a c k t = eqb-true (g.actor k) a (and_fst (eqb (g.actor k) a) (is_in_range g c k) t)

pub owner_owns : (g : Graph) → ValidGraph g → (a c : ℕ) → owner g a c < g.size → Owner g a c (owner g a c)
unfolding owner
owner_owns g v a c l =
    let f = first_says (owns g a c) g.size in
    record {
      known_k = l;
      holds = f.passes l;
      lowest =
          λ j b t.
          ⊎_elim (λ d. not-both t (f.none_before j d))
          (λ d.
          ⊎_elim (λ e. let q = ap g.seq e in omega arith)
          (λ u. let s = seq_up g v (owner g a c) j u b (owns_actor g a c (owner g a c) (f.passes l) ∙ sym (owns_actor g a c j t)) in omega arith)
          (eq-or-lt_of_le {n = owner g a c} {m = j} d))
          (below_or_not j (owner g a c));
    }

-- no owner: no change's range holds the counter
pub owner_none : (g : Graph) (a c : ℕ) → owner g a c ≡ g.size → (j : ℕ) → j < g.size → owns g a c j ≡ false
unfolding owner
owner_none g a c e j l = (first_says (owns g a c) g.size).none_before j (omega arith)

-- an actor without changes owns nothing, and no change owns counter 0 where op counts are within max ops
pub no_actor_none : (g : Graph) (a c : ℕ) → ((k : ℕ) → k < g.size → g.actor k ≡ a → ⊥) → owner g a c ≡ g.size
unfolding owner
no_actor_none g a c n = first_none (owns g a c) g.size (λ j l. to_false (owns g a c j) (λ t. n j l (owns_actor g a c j t)))

pub zero_none : (g : Graph) (a : ℕ) → ((k : ℕ) → k < g.size → g.ops k ≤ g.max_op k) → owner g a 0 ≡ g.size
unfolding owner owns is_in_range
zero_none g a low =
    first_none (owns g a 0) g.size
    (λ j l.
    to_false (owns g a 0 j)
    (λ t.
    let r = and_snd (eqb (g.actor j) a) (is_in_range g 0 j) t in
    let b = ltb-true (g.max_op j) (0 + g.ops j) (and_snd (leb 0 (g.max_op j)) (ltb (g.max_op j) (0 + g.ops j)) r) in
    let w = low j l in
    omega arith))
