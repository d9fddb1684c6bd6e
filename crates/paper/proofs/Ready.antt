-- The ready order: every ready one is listed exactly once and no other, and what it depends on is known or listed earlier.
-- Assumes nothing.
use mathlib.Core.Path.{◌≡◌, refl, sym, ap, ◌∙◌, subst}
use mathlib.Core.Logic.{⊎_elim, ◌↔◌}
use mathlib.Core.Bool.{Bool, true, false, not, cond, ◌&&◌, ◌||◌}
use mathlib.Core.List.{List, [], ◌∷◌, ◌++◌}
use Prim.Native.Nat.{ℕ, zero, suc, ◌+◌, ◌-◌, ◌≤◌, ◌<◌}
use native.Mathlib.Numerals.{add-one}
use native.Mathlib.Omega.{arith}
use lib.Dec.{eqb, ltb}
use lib.ListN.{length, take, drop, get_or, length-append, length-take, get_or-append}
use lib.Seq.{take-append-le, take-add, take-length, get_or-append-add, get_or-take}
use borrow.Author.Tests.{ltb-true, ltb-false, lt-ltb, le-ltb}
use Rattle.paper.specs.Lists.{same_list, mem, names, tally, count}
use Rattle.paper.specs.Queue.{Queue, Distinct, Ready, ready, among, met, first, freed, order_from, order, rest}
use Rattle.paper.proofs.Bools.{by_bool, to_false, not-both, or_cases, or_left, or_right, and_both, and_fst, mem_get_d, mem_place, pick_mem, tally_ext}
use Rattle.paper.proofs.Count.{tally_most, tally_split, count-append, count-true, count_pick, tally_one, mem_count, parts, count_two}
use Rattle.paper.proofs.Bools.{below_or_not}
use Rattle.paper.proofs.Hashes.{same→eq, eq→same, every_of, of_every}

-- ---- among the listed

pub among_append : (q : Queue) (s t : List ℕ) (h : List ℕ) → among q (s ++ t) h ≡ (among q s h || among q t h)
unfolding among
among_append q [] t h = refl
among_append q (i ∷ s) t h = ap (λ (b : Bool). same_list (q.at i).hash h || b) (among_append q s t h) ∙ or_assoc (same_list (q.at i).hash h) (among q s h) (among q t h)
  where
    or_assoc : (a b c : Bool) → (a || (b || c)) ≡ ((a || b) || c)
    or_assoc true b c = refl
    or_assoc false b c = refl

-- a hash among the listed stands at some place
pub among_place : (q : Queue) (l : List ℕ) (h : List ℕ) → among q l h ≡ true → (p : ℕ) × (p < length l) × ((q.at (get_or l p 0)).hash ≡ h)
unfolding among
among_place q [] h e = not-both e refl
among_place q (i ∷ l) h e =
    ⊎_elim (λ t. (0, omega arith, same→eq (q.at i).hash h t)) (λ t. let r = among_place q l h t in (suc r.0, omega (arith, r.1), r.2))
    (or_cases (same_list (q.at i).hash h) (among q l h) e)

pub place_among : (q : Queue) (l : List ℕ) (p : ℕ) → p < length l → among q l (q.at (get_or l p 0)).hash ≡ true
unfolding among
place_among q [] p b = absurd (omega arith)
place_among q (i ∷ l) zero b = or_left (same_list (q.at i).hash (q.at i).hash) (among q l (q.at i).hash) (eq→same (q.at i).hash (q.at i).hash refl)
place_among q (i ∷ l) (suc p) b =
    or_right (same_list (q.at i).hash (q.at (get_or l p 0)).hash) (among q l (q.at (get_or l p 0)).hash) (place_among q l p (omega arith))

module _ (known : List ℕ → Bool) (q : Queue) where
  -- the more are listed, the more is met
  pub met_more : (s t : List ℕ) (i : ℕ) → ((h : List ℕ) → among q s h ≡ true → among q t h ≡ true) → met known q s i ≡ true → met known q t i ≡ true
  unfolding met
  met_more s t i up e =
      every_of (λ d. known d || among q t d) (q.at i).deps
      (λ d n.
      ⊎_elim (λ k. or_left (known d) (among q t d) k) (λ a. or_right (known d) (among q t d) (up d a))
      (or_cases (known d) (among q s d) (of_every (λ d. known d || among q s d) (q.at i).deps e d n)))

  pub among_take : (l : List ℕ) (c d : ℕ) → c ≤ d → (h : List ℕ) → among q (take c l) h ≡ true → among q (take d l) h ≡ true
  among_take l c d le h a =
      let e : c + (d - c) ≡ d = omega arith in
      subst (λ (x : ℕ). among q (take x l) h ≡ true) e
      (rw (take-add c (d - c) l, among_append q (take c l) (take (d - c) (drop c l)) h) (or_left (among q (take c l) h) (among q (take (d - c) (drop c l)) h) a))

  pub met_take : (l : List ℕ) (c d i : ℕ) → c ≤ d → met known q (take c l) i ≡ true → met known q (take d l) i ≡ true
  met_take l c d i le e = met_more (take c l) (take d l) i (among_take l c d le) e

  -- ---- the listing

  -- l lists each that the first c of it leave with nothing unknown, once, and each after what it depends on
  pub record Listed (c : ℕ) (l : List ℕ) : Type 0 where
    pub counts : (p : ℕ → Bool) → count p l ≡ tally (λ i. p i && met known q (take c l) i) q.size
    pub earlier : (p : ℕ) → p < length l → met known q (take p l) (get_or l p 0) ≡ true

  pub listed_start : Listed 0 (first known q)
  unfolding first
  listed_start =
      record {
        counts = λ p. count_pick p (met known q []) q.size;
        earlier = λ p b. met_take (first known q) 0 p (get_or (first known q) p 0) (omega arith) (pick_mem (met known q []) q.size (get_or (first known q) p 0) (mem_get_d (first known q) p b)).1;
      }

  module _ (c : ℕ) (l : List ℕ) (at : Listed c l) where
    pub listed_most : length l ≤ q.size
    listed_most = omega (arith, count-true l, at.counts (λ i. true), tally_most (λ i. true && met known q (take c l) i) q.size)

    -- what is listed waits
    pub listed_in : (k : ℕ) → mem k l ≡ true → k < q.size
    listed_in k m =
        by_bool (ltb k q.size) (λ t. ltb-true k q.size t)
        (λ f.
        let n : count (eqb k) l ≡ 0 = at.counts (eqb k) ∙ (tally_one k (met known q (take c l)) q.size ∙ rw f) in
        not-both m (mem_count k l ∙ (rw n (le-ltb 0 0 (omega arith)))))

    -- and is listed once
    pub listed_once : (k : ℕ) → count (eqb k) l ≤ 1
    listed_once k = rw (at.counts (eqb k), tally_one k (met known q (take c l)) q.size) (bit_most (ltb k q.size && met known q (take c l) k))
      where
        bit_most : (b : Bool) → cond b 1 0 ≤ 1
        bit_most true = omega arith
        bit_most false = omega arith

    -- where the hashes are distinct, the hash at a place is not among those before it
    pub listed_new : Distinct q → (x : ℕ) → x < length l → among q (take x l) (q.at (get_or l x 0)).hash ≡ false
    listed_new d x b =
        to_false (among q (take x l) (q.at (get_or l x 0)).hash)
        (λ t.
        let r = among_place q (take x l) (q.at (get_or l x 0)).hash t in
        let low : r.0 < x = omega (arith, r.1, length-take x l) in
        let y : get_or (take x l) r.0 0 ≡ get_or l r.0 0 = get_or-take x l r.0 0 low in
        let e : get_or l r.0 0 ≡ get_or l x 0 =
        d.hashes (get_or l r.0 0) (get_or l x 0) (listed_in (get_or l r.0 0) (mem_get_d l r.0 (omega arith))) (listed_in (get_or l x 0) (mem_get_d l x b)) (ap (λ (i : ℕ). (q.at i).hash) (sym y) ∙ r.2)
        in
        let two = count_two l r.0 x low b e in
        omega (arith, listed_once (get_or l x 0)))

    -- one that the place c frees stands after it
    later : c < length l → (k : ℕ) → k < length (freed known q l c) → met known q (take (suc c) l) (get_or (freed known q l c) k 0) ≡ true
    unfolding freed
    later b k inside =
        and_fst (met known q (take (suc c) l) (get_or (freed known q l c) k 0)) (not (met known q (take c l) (get_or (freed known q l c) k 0)))
        (pick_mem (λ i. met known q (take (suc c) l) i && not (met known q (take c l) i)) q.size (get_or (freed known q l c) k 0) (mem_get_d (freed known q l c) k inside)).1

    old : (t : List ℕ) (p : ℕ) → p < length l → met known q (take p (l ++ t)) (get_or (l ++ t) p 0) ≡ true
    old t p b = rw (take-append-le p l t (omega arith), get_or-append l t 0 p b) (at.earlier p b)

    fresh : c < length l → (p : ℕ) → length l ≤ p → p < length (l ++ freed known q l c)
        → met known q (take p (l ++ freed known q l c)) (get_or (l ++ freed known q l c) p 0) ≡ true
    fresh b p out inside =
        let new = freed known q l c in
        let e : length l + (p - length l) ≡ p = omega arith in
        let k : p - length l < length new = omega (arith, length-append l new) in
        let m : met known q (take (suc c) (l ++ new)) (get_or new (p - length l) 0) ≡ true = rw (take-append-le (suc c) l new (omega arith)) (later b (p - length l) k) in
        let g : get_or (l ++ new) p 0 ≡ get_or new (p - length l) 0 = ap (λ (x : ℕ). get_or (l ++ new) x 0) (sym e) ∙ get_or-append-add l new (p - length l) 0 in
        met_take (l ++ new) (suc c) p (get_or (l ++ new) p 0) (omega arith) (rw g m)

    pub listed_next : c < length l → Listed (suc c) (l ++ freed known q l c)
    unfolding freed
    listed_next b =
        record {
          counts = λ p.
              rw (count-append p l new, take-append-le (suc c) l new (omega arith), at.counts p, count_pick p now_met q.size)
              (sym (tally_split p (met known q (take c l)) (met known q (take (suc c) l)) q.size (λ i. met_take l c (suc c) i (omega arith))));
          earlier = λ p inside. ⊎_elim (λ lt. old new p lt) (λ out. fresh b p out inside) (below_or_not p (length l));
        }
      where
        now_met : ℕ → Bool
        now_met i = met known q (take (suc c) l) i && not (met known q (take c l) i)

        new : List ℕ
        new = freed known q l c

    -- no more are listed: all of l is looked at
    pub listed_end : c ≤ length l → length l ≤ c → Listed (length l) l
    listed_end a b = let e : c ≡ length l = omega arith in subst (λ (x : ℕ). Listed x l) e at

  -- one turn of the listing, and its end
  pub order_turn : (c : ℕ) (l : List ℕ) → c < q.size → c < length l
      → order_from known q (q.size - c) c l ≡ order_from known q (q.size - (c + 1)) (c + 1) (l ++ freed known q l c)
  unfolding order_from
  order_turn c l a b =
      let e : q.size - c ≡ suc (q.size - (c + 1)) = omega arith in
      rw (e, lt-ltb c (length l) b, add-one)

  pub order_stop : (left c : ℕ) (l : List ℕ) → length l ≤ c → order_from known q left c l ≡ l
  unfolding order_from
  order_stop zero c l b = refl
  order_stop (suc left) c l b = rw (le-ltb c (length l) b)

  -- the listing ends within as many turns as there are waiting ones
  listing_ends : (left c : ℕ) (l : List ℕ) → q.size ≤ c + left → c ≤ length l → Listed c l
      → Listed (length (order_from known q left c l)) (order_from known q left c l)
  unfolding order_from
  listing_ends zero c l room in_l at = listed_end c l at in_l (omega (arith, listed_most c l at))
  listing_ends (suc left) c l room in_l at =
      by_bool (ltb c (length l))
      (λ t.
      rw t
      (listing_ends left (suc c) (l ++ freed known q l c) (omega arith) (omega (arith, ltb-true c (length l) t, length-append l (freed known q l c)))
      (listed_next c l at (ltb-true c (length l) t))))
      (λ f. rw f (listed_end c l at in_l (ltb-false c (length l) f)))

  pub order_listed : Listed (length (order known q)) (order known q)
  unfolding order
  order_listed = listing_ends q.size 0 (first known q) (omega arith) (omega arith) listed_start

  -- ---- what the order lists

  -- how many of the listed pass a test: as many as waiting ones that the order leaves with nothing unknown
  pub order_counts : (p : ℕ → Bool) → count p (order known q) ≡ tally (λ i. p i && met known q (order known q) i) q.size
  order_counts p = subst (λ (l : List ℕ). count p (order known q) ≡ tally (λ i. p i && met known q l i) q.size) (take-length (order known q)) (order_listed.counts p)

  -- each is listed once or not at all
  pub order_once : (k : ℕ) → count (eqb k) (order known q) ≡ cond (ltb k q.size && met known q (order known q) k) 1 0
  order_once k = order_counts (eqb k) ∙ tally_one k (met known q (order known q)) q.size

  pub order_mem : (k : ℕ) → mem k (order known q) ≡ (ltb k q.size && met known q (order known q) k)
  order_mem k = mem_count k (order known q) ∙ (rw (order_once k) (bit (ltb k q.size && met known q (order known q) k)))
    where
      bit : (b : Bool) → ltb 0 (cond b 1 0) ≡ b
      bit true = refl
      bit false = refl

  -- a dependency of a listed one is known or listed earlier
  pub order_earlier : (p : ℕ) → p < length (order known q) → met known q (take p (order known q)) (get_or (order known q) p 0) ≡ true
  order_earlier = order_listed.earlier

  pub order_most : length (order known q) ≤ q.size
  order_most = listed_most (length (order known q)) (order known q) order_listed

  -- ---- the order lists the ready set

  -- the listed position whose hash is h
  unfoldable carrier : List ℕ → List ℕ → ℕ
  carrier [] h = 0
  carrier (i ∷ l) h = cond (same_list (q.at i).hash h) i (carrier l h)

  -- it stands at some place, where h is among the listed
  carrier_place : (l : List ℕ) (h : List ℕ) → among q l h ≡ true → (p : ℕ) × (p < length l) × (get_or l p 0 ≡ carrier l h) × ((q.at (carrier l h)).hash ≡ h)
  unfolding among carrier
  carrier_place [] h e = not-both e refl
  carrier_place (i ∷ l) h e =
      by_bool (same_list (q.at i).hash h)
      (λ t. rw t (0, omega arith, refl, same→eq (q.at i).hash h t))
      (λ f. let r = carrier_place l h (rw f at e) in rw f (suc r.0, omega (arith, r.1), r.2, r.3))

  -- an unknown dependency of what is listed at p is the hash of one listed earlier
  pub found_earlier : (p : ℕ) → p < length (order known q) → (d : List ℕ) → names d (q.at (get_or (order known q) p 0)).deps ≡ true → known d ≡ false
      → among q (take p (order known q)) d ≡ true
  unfolding met
  found_earlier p b d n u =
      ⊎_elim (λ k. not-both k u) (λ a. a)
      (or_cases (known d) (among q (take p (order known q)) d)
      (of_every (λ d. known d || among q (take p (order known q)) d) (q.at (get_or (order known q) p 0)).deps (order_earlier p b) d n))

  pub listed_low : (k : ℕ) → mem k (order known q) ≡ true → k < q.size
  listed_low k m = ltb-true k q.size (and_fst (ltb k q.size) (met known q (order known q) k) (sym (order_mem k) ∙ m))

  -- what is listed at p is ready, `most` bounding p
  place_ready : (most p : ℕ) → p < most → p < length (order known q) → Ready known q (get_or (order known q) p 0)
  place_ready zero p a b = absurd (omega arith)
  place_ready (suc most) p a b =
      let l = order known q in
      ready (get_or l p 0) (listed_low (get_or l p 0) (mem_get_d l p b)) (carrier (take p l))
      (λ d n u. (carrier_place (take p l) d (found_earlier p b d n u)).3)
      (λ d n u.
      let r = carrier_place (take p l) d (found_earlier p b d n u) in
      let x : r.0 < p = omega (arith, r.1, length-take p l) in
      subst (λ (i : ℕ). Ready known q i) (sym (get_or-take p l r.0 0 x) ∙ r.2) (place_ready most r.0 (omega arith) (omega arith)))

  mem_among : (l : List ℕ) (k : ℕ) → mem k l ≡ true → among q l (q.at k).hash ≡ true
  mem_among l k m = let r = mem_place k l m in subst (λ (i : ℕ). among q l (q.at i).hash ≡ true) r.2 (place_among q l r.0 r.1)

  ready_listed : {k : ℕ} → Ready known q k → mem k (order known q) ≡ true
  unfolding met
  ready_listed (ready k low by hashes readies) =
      order_mem k
      ∙ and_both (ltb k q.size) (met known q (order known q) k) (lt-ltb k q.size low)
      (every_of (λ d. known d || among q (order known q) d) (q.at k).deps
      (λ d n.
      by_bool (known d) (λ t. or_left (known d) (among q (order known q) d) t)
      (λ f.
      or_right (known d) (among q (order known q) d)
      (subst (λ (h : List ℕ). among q (order known q) h ≡ true) (hashes d n f) (mem_among (order known q) (by d) (ready_listed (readies d n f))))
      )))

  -- the order lists the ready set and nothing else
  pub order_ready : (k : ℕ) → (mem k (order known q) ≡ true) ↔ Ready known q k
  order_ready k = (
    (λ m. let r = mem_place k (order known q) m in subst (λ (i : ℕ). Ready known q i) r.2 (place_ready (suc r.0) r.0 (omega arith) r.1)),
    ready_listed,
  )

  -- the ready set is the least: a set that holds every waiting change whose every dependency is known or in it holds every ready one
  pub ready_least : (s : ℕ → Bool)
      → ((i : ℕ) → i < q.size
      → ((d : List ℕ) → names d (q.at i).deps ≡ true → known d ≡ false → (j : ℕ) × (s j ≡ true) × ((q.at j).hash ≡ d))
      → s i ≡ true)
      → {k : ℕ} → Ready known q k → s k ≡ true
  ready_least s closed (ready k low by hashes readies) =
      closed k low (λ d n u. (by d, ready_least s closed (readies d n u), hashes d n u))

  -- ---- the rest

  order_parts : (p : ℕ → Bool) → count p (order known q) ≡ tally (λ i. p i && mem i (order known q)) q.size
  order_parts p =
      order_counts p
      ∙ tally_ext (λ i. p i && met known q (order known q) i) (λ i. p i && mem i (order known q)) q.size
      (λ k b. ap (λ (x : Bool). p k && x) (sym (rw (lt-ltb k q.size b) at (order_mem k))))

  -- released and rest together are the queue
  pub order_rest : (p : ℕ → Bool) → tally p q.size ≡ count p (order known q) + count p (rest known q)
  unfolding rest
  order_rest = parts (order known q) q.size order_parts
