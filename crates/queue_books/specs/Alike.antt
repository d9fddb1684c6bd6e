-- Two queues that hold the same changes have the same ready order, rest, dropped and kept ones, whatever they give past their size.
-- Assumes nothing.
use Rattle.std.specs.Prelude.{◌≡◌, Bool, ◌&&◌, ◌||◌, eqb, ltb, length, take, get_or}
use Rattle.std.proofs.Math.Path.{refl, ap}
use Rattle.std.proofs.Common.{sym, ◌∙◌, subst, ⊎_elim, arith, length-take, get_or-take, ltb-true}
use Prim.Native.Nat.{ℕ, zero, suc, ◌<◌}
use mathlib.Core.List.{List, [], ◌∷◌, ◌++◌}
use Rattle.std.proofs.Math.Bool.{true, not}
use Rattle.paper.specs.Lists.{mem, names, pick, every}
use Rattle.paper.specs.Queue.{Waiting, Queue, among, met, first, freed, order_from, order, rest, branch, children, drop_from, dropped, kept}
use Rattle.paper.proofs.Bools.{by_bool, or_cases, mem_here, mem_append, mem_get_d, mem_place, or_right, mem_cons, pick_mem, pick_ext}
use Rattle.paper.specs.Books.{changes_at}

-- the same size, and the same changes below it
pub record Alike (p q : Queue) : Type 0 where
  pub sizes : p.size ≡ q.size
  pub same : (i : ℕ) → i < p.size → p.at i ≡ q.at i

-- every one listed waits
pub record Low (n : ℕ) (l : List ℕ) : Type 0 where
  pub low : (k : ℕ) → mem k l ≡ true → k < n

low_tail : {n x : ℕ} {l : List ℕ} → Low n (x ∷ l) → Low n l
low_tail {n} {x} {l} w = record { low = λ k m. w.low k (mem_cons k x l ∙ or_right (eqb k x) (mem k l) m) }

low_take : {n : ℕ} {l : List ℕ} (c : ℕ) → Low n l → Low n (take c l)
low_take {n} {l} c w =
    record {
      low = λ k m.
          let r = mem_place k (take c l) m in
          let b : r.0 < c = omega (arith, r.1, length-take c l) in
          w.low k (subst (λ (x : ℕ). mem x l ≡ true) (sym (get_or-take c l r.0 0 b) ∙ r.2) (mem_get_d l r.0 (omega (arith, r.1, length-take c l))));
    }

pub low_pick : (p : ℕ → Bool) (n : ℕ) → Low n (pick p n)
low_pick p n = record { low = λ k m. (pick_mem p n k m).0 }

low_join : {n : ℕ} {s t : List ℕ} → Low n s → Low n t → Low n (s ++ t)
low_join {n} {s} {t} a b = record { low = λ k m. ⊎_elim (a.low k) (b.low k) (or_cases (mem k s) (mem k t) (sym (mem_append k s t) ∙ m)) }

module _ (p q : Queue) (al : Alike p q) where
  among_alike : (l : List ℕ) (h : List ℕ) → Low p.size l → among p l h ≡ among q l h
  unfolding among
  among_alike [] h w = refl
  among_alike (i ∷ l) h w = rw (al.same i (w.low i (mem_here i l)), among_alike l h (low_tail w))

  module _ (known : List ℕ → Bool) where
    every_alike : (l : List ℕ) (ds : List (List ℕ)) → Low p.size l → every (λ d. known d || among p l d) ds ≡ every (λ d. known d || among q l d) ds
    unfolding every
    every_alike l [] w = refl
    every_alike l (d ∷ ds) w = rw (among_alike l d w, every_alike l ds w)

    met_alike : (l : List ℕ) (i : ℕ) → Low p.size l → i < p.size → met known p l i ≡ met known q l i
    unfolding met
    met_alike l i w b = every_alike l (p.at i).deps w ∙ ap (λ (x : Waiting). every (λ d. known d || among q l d) x.deps) (al.same i b)

    first_alike : first known p ≡ first known q
    unfolding first
    first_alike =
        pick_ext (met known p []) (met known q []) p.size (λ i b. met_alike [] i (record { low = λ k m. absurd (none k m) }) b) ∙ ap (pick (met known q [])) al.sizes
      where
        none : (k : ℕ) → mem k [] ≡ true → ⊥
        none k m = let r = mem_place k [] m in omega (arith, r.1)

    freed_alike : (l : List ℕ) (c : ℕ) → Low p.size l → freed known p l c ≡ freed known q l c
    unfolding freed
    freed_alike l c w =
        pick_ext (λ i. met known p (take (suc c) l) i && not (met known p (take c l) i)) (λ i. met known q (take (suc c) l) i && not (met known q (take c l) i)) p.size
        (λ i b. rw (met_alike (take (suc c) l) i (low_take (suc c) w) b, met_alike (take c l) i (low_take c w) b))
        ∙ ap (pick (λ i. met known q (take (suc c) l) i && not (met known q (take c l) i))) al.sizes

    low_freed : (l : List ℕ) (c : ℕ) → Low p.size (freed known p l c)
    unfolding freed
    low_freed l c = low_pick (λ i. met known p (take (suc c) l) i && not (met known p (take c l) i)) p.size

    from_alike : (left c : ℕ) (l : List ℕ) → Low p.size l → order_from known p left c l ≡ order_from known q left c l
    unfolding order_from
    from_alike zero c l w = refl
    from_alike (suc left) c l w =
        by_bool (ltb c (length l))
        (λ t. rw t (from_alike left (suc c) (l ++ freed known p l c) (low_join w (low_freed l c)) ∙ ap (λ (x : List ℕ). order_from known q left (suc c) (l ++ x)) (freed_alike l c w)))
        (λ f. rw f)

    low_first : Low p.size (first known p)
    unfolding first
    low_first = low_pick (met known p []) p.size

    pub order_alike : order known p ≡ order known q
    unfolding order
    order_alike = from_alike p.size 0 (first known p) low_first ∙ (ap (order_from known q p.size 0) first_alike ∙ ap (λ (n : ℕ). order_from known q n 0 (first known q)) al.sizes)

    pub rest_alike : rest known p ≡ rest known q
    unfolding rest
    rest_alike = rw (order_alike, al.sizes)

  module _ (key from : ℕ) where
    branch_alike : (i : ℕ) → i < p.size → branch p key from i ≡ branch q key from i
    unfolding branch
    branch_alike i b = rw (al.same i b)

    children_alike : (l : List ℕ) (c : ℕ) → c < length l → Low p.size l → children p l c ≡ children q l c
    unfolding children
    children_alike l c b w =
        pick_ext (λ i. names (p.at (get_or l c 0)).hash (p.at i).deps && not (mem i l)) (λ i. names (q.at (get_or l c 0)).hash (q.at i).deps && not (mem i l)) p.size
        (λ i low. rw (al.same i low, al.same (get_or l c 0) (w.low (get_or l c 0) (mem_get_d l c b))))
        ∙ ap (pick (λ i. names (q.at (get_or l c 0)).hash (q.at i).deps && not (mem i l))) al.sizes

    low_children : (l : List ℕ) (c : ℕ) → Low p.size (children p l c)
    unfolding children
    low_children l c = low_pick (λ i. names (p.at (get_or l c 0)).hash (p.at i).deps && not (mem i l)) p.size

    drops_alike : (left c : ℕ) (l : List ℕ) → Low p.size l → drop_from p left c l ≡ drop_from q left c l
    unfolding drop_from
    drops_alike zero c l w = refl
    drops_alike (suc left) c l w =
        by_bool (ltb c (length l))
        (λ t.
        rw t
        (drops_alike left (suc c) (l ++ children p l c) (low_join w (low_children l c))
        ∙ ap (λ (x : List ℕ). drop_from q left (suc c) (l ++ x)) (children_alike l c (ltb-true c (length l) t) w)))
        (λ f. rw f)

    pub dropped_alike : dropped p key from ≡ dropped q key from
    unfolding dropped
    dropped_alike =
        drops_alike p.size 0 (pick (branch p key from) p.size) (low_pick (branch p key from) p.size)
        ∙ (ap (drop_from q p.size 0) (pick_ext (branch p key from) (branch q key from) p.size branch_alike) ∙ ap (λ (n : ℕ). drop_from q n 0 (pick (branch q key from) n)) al.sizes)

    pub kept_alike : kept p key from ≡ kept q key from
    unfolding kept
    kept_alike = rw (dropped_alike, al.sizes)

  -- the changes at positions that wait
  pub changes_alike : (l : List ℕ) → Low p.size l → changes_at p l ≡ changes_at q l
  unfolding changes_at
  changes_alike [] w = refl
  changes_alike (i ∷ l) w = rw (al.same i (w.low i (mem_here i l)), changes_alike l (low_tail w))
