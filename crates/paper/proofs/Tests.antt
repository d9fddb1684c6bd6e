-- Valid and chained as tests.
-- Assumes nothing.
use mathlib.Core.Path.{◌≡◌, sym, ap, ◌∙◌}
use mathlib.Core.Logic.{⊎_elim, ◌↔◌}
use mathlib.Core.Bool.{Bool, true, ◌&&◌, ◌||◌}
use Prim.Native.Nat.{ℕ, suc}
use native.Mathlib.Omega.{arith}
use lib.Dec.{eqb, ltb, leb}
use borrow.Author.Tests.{ltb-true, lt-ltb, leb-true, leb-false, eqb-true, eq-eqb}
use Rattle.paper.specs.Lists.{mem, tally, some_below, all_in}
use Rattle.paper.specs.Graph.{Graph, clock, ValidGraph, valid_test, ChainedOld, chained_old_test, Chained, chained_test}
use Rattle.paper.proofs.Bools.{by_bool, or_cases, or_left, or_right, and_both, and_fst, and_snd, of_all, all_of, of_all_in, all_in_of, some_of, of_some}
use Rattle.paper.proofs.Chain.{same_node, preceding, chained_clock, clock_chained}

pub valid_iff : (g : Graph) → (valid_test g ≡ true) ↔ ValidGraph g
unfolding valid_test
valid_iff g = (
  (λ e.
      record {
        down = λ k j l d. ltb-true j k (of_all_in (λ i. ltb i k) (g.deps k) (and_fst (low k) (run k) (of_all (λ i. low i && run i) g.size e k l)) j d);
        runs = λ k l. eqb-true (g.seq k) (suc (tally (λ j. eqb (g.actor j) (g.actor k)) k)) (and_snd (low k) (run k) (of_all (λ i. low i && run i) g.size e k l));
      }),
  (λ v.
      all_of (λ i. low i && run i) g.size
      (λ k l.
      and_both (low k) (run k) (all_in_of (λ j. ltb j k) (g.deps k) (λ j d. lt-ltb j k (v.down k j l d)))
      (eq-eqb (g.seq k) (suc (tally (λ j. eqb (g.actor j) (g.actor k)) k)) (v.runs k l)))),
)
  where
    low : ℕ → Bool
    low k = all_in (λ j. ltb j k) (g.deps k)

    run : ℕ → Bool
    run k = eqb (g.seq k) (suc (tally (λ j. eqb (g.actor j) (g.actor k)) k))

module _ (g : Graph) (v : ValidGraph g) where
  pub chained_iff : (chained_test g ≡ true) ↔ Chained g
  unfolding chained_test
  chained_iff = (
    (λ e. clock_chained g v (λ k l. eqb-true (g.seq k) (suc (clock g (g.deps k) (g.actor k))) (of_all (λ i. eqb (g.seq i) (suc (clock g (g.deps i) (g.actor i)))) g.size e k l))),
    (λ c. all_of (λ i. eqb (g.seq i) (suc (clock g (g.deps i) (g.actor i)))) g.size (λ k l. eq-eqb (g.seq k) (suc (clock g (g.deps k) (g.actor k))) (chained_clock g v c k l))),
  )

  pub chained_old_iff : (chained_old_test g ≡ true) ↔ ChainedOld g
  unfolding chained_old_test ChainedOld
  chained_old_iff = (
    (λ e j k p.
        let one = v.runs j p.known_j in
        ⊎_elim (λ s. let b = leb-true (g.seq k) 1 s in absurd (omega (arith, p.next)))
        (λ s.
        let r = of_some (own k) k s in
        let a = and_fst (eqb (g.actor r.0) (g.actor k)) (rest k r.0) r.2 in
        let b = and_snd (eqb (g.actor r.0) (g.actor k)) (rest k r.0) r.2 in
        let q = and_fst (eqb (g.seq k) (suc (g.seq r.0))) (mem r.0 (g.deps k)) b in
        let n = eqb-true (g.seq k) (suc (g.seq r.0)) q in
        ap (λ (i : ℕ). mem i (g.deps k))
        (same_node g v j r.0 p.known_j (omega (arith, r.1, p.known_k)) (p.same ∙ sym (eqb-true (g.actor r.0) (g.actor k) a)) (omega (arith, p.next)))
        ∙ and_snd (eqb (g.seq k) (suc (g.seq r.0))) (mem r.0 (g.deps k)) b)
        (or_cases (leb (g.seq k) 1) (some_below (own k) k) (of_all (λ i. leb (g.seq i) 1 || some_below (own i) i) g.size e k p.known_k))),
    (λ c.
        all_of (λ i. leb (g.seq i) 1 || some_below (own i) i) g.size
        (λ k l.
        by_bool (leb (g.seq k) 1) (λ t. or_left (leb (g.seq k) 1) (some_below (own k) k) t)
        (λ f.
        let b = leb-false (g.seq k) 1 f in
        let r = preceding g v k l (omega arith) in
        let p = r.1 in
        let m = c r.0 k p in
        or_right (leb (g.seq k) 1) (some_below (own k) k)
        (some_of (own k) k r.0 (v.down k r.0 l m)
        (and_both (eqb (g.actor r.0) (g.actor k)) (rest k r.0) (eq-eqb (g.actor r.0) (g.actor k) p.same)
        (and_both (eqb (g.seq k) (suc (g.seq r.0))) (mem r.0 (g.deps k)) (eq-eqb (g.seq k) (suc (g.seq r.0)) p.next) m)))))
        ),
  )
    where
      rest : ℕ → ℕ → Bool
      rest k j = eqb (g.seq k) (suc (g.seq j)) && mem j (g.deps k)

      own : ℕ → ℕ → Bool
      own k j = eqb (g.actor j) (g.actor k) && rest k j
