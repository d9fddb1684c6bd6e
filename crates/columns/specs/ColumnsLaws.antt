-- Laws of the checks over the columns: the loops' invariants with their steps, and the answers put together.
-- Assumes nothing.
use Rattle.paper.proofs.Count.{tally_more}
use Rattle.std.specs.Prelude.{[], ◌∷◌, suc, zero, Option, Some, None, if◌then◌else◌, ◌≡◌, Bool, cond, ◌&&◌, ◌||◌, List, ℕ, ◌+◌, ◌-◌, ◌/◌, ◌≤◌, ◌<◌, eqb, length, get_or, take, drop}
use Rattle.std.proofs.Math.Path.{refl, sym, ap, ap₂}
use Rattle.std.proofs.Common.{◌∙◌, arith, eqb-true, eq-eqb, le-leb, add-one, ne_eqb, leb-true}
use Rattle.std.proofs.Math.Bool.{true, false, not}
use Rattle.std.proofs.Math.Dec.{ltb, leb}
use Rattle.std.proofs.lemmas.Bool.{lt-leb}
use Rattle.paper.specs.Lists.{same_list, hash_at, mem, tally, some_below, all_below, all_in}
use Rattle.paper.proofs.Bools.{by_bool, same_bool, of_all, all_of, some_ext, tally_ext, to_false, not-both, and_both, and_fst, and_snd}
use Rattle.paper.proofs.Scans.{Passed, all_start, all_next, all_no, all_both, all_ext, all_places, both_in, sum_start, sum_next, sum_more, all_end, tally_start}
use Rattle.paper.specs.Graph.{wanted}
use Rattle.paper.specs.Loading.{Columns, listed_changes, deps_before, deps_of_columns, column_graph, lengths_equal, actors_below, ops_right, deps_few, values_enough, deps_below, max_ops_rise, sequences_run, hashes_distinct, heads_stated, agree}
use Rattle.paper.proofs.Loading.{wanted_values, heads_stated_is}
use Rattle.columns.specs.Columns.{lengths_test, actors_test, ops_test, runs_test, new_test, few, total, deps_at, dep_right, is_known, column_head_is, deps_test, heads_test, enough_test, checks, column_ops_right, lengths_are}
use Rattle.std.specs.List.{list_all, list_any, zip, filter}
use Rattle.std.proofs.lemmas.List.{length-take-le, get_or-take}

-- ---- two tests, one of which fails

pub and_no : (a b : Bool) → a ≡ false → (a && b) ≡ false
and_no a b e = rw e

pub and_not : (a b : Bool) → b ≡ false → (a && b) ≡ false
and_not a b e = to_false (a && b) (λ t. not-both (and_snd a b t) e)

pub or_else : (a b : Bool) → a ≡ false → b ≡ (a || b)
or_else a b e = rw e

pub dep_over : (ms : List ℕ) (k j : ℕ) → get_or ms k 0 < get_or ms j 0 → dep_right ms k j ≡ false
dep_over ms k j l = and_not (ltb j k) (leb (get_or ms j 0) (get_or ms k 0)) (lt-leb (get_or ms j 0) (get_or ms k 0) l)

-- ---- dependencies so far, and that there are values for them

pub record Enough (ds : List ℕ) (n values at k : ℕ) : Type 0 where
  pub passed : Passed (few ds) n k
  pub sum : at ≡ total ds k
  pub fits : at ≤ values

module _ (ds : List ℕ) (n values : ℕ) where
  pub enough_start : Enough ds n values 0 0
  enough_start = record { passed = all_start (few ds) n; sum = sym (sum_start (λ j. get_or ds j 0)); fits = omega arith }

  pub enough_next : {at k : ℕ} → Enough ds n values at k → k < n → get_or ds k 0 ≤ 32 → get_or ds k 0 ≤ values - at → Enough ds n values (at + get_or ds k 0) (k + 1)
  enough_next {at} {k} e l f h = record {
    passed = all_next (few ds) n e.passed l (le-leb _ _ f);
    sum = (let s = e.sum in let t = sum_next (λ j. get_or ds j 0) k in omega arith);
    fits = (let b = e.fits in omega arith);
  }

  pub enough_many : {at k : ℕ} → Enough ds n values at k → k < n → 32 < get_or ds k 0 → false ≡ (all_below (few ds) n && leb (total ds n) values)
  enough_many {at} {k} e l m = sym (and_no (all_below (few ds) n) (leb (total ds n) values) (sym (all_no (few ds) n k l (lt-leb _ _ m))))

  pub enough_short : {at k : ℕ} → Enough ds n values at k → k < n → values - at < get_or ds k 0 → false ≡ (all_below (few ds) n && leb (total ds n) values)
  enough_short {at} {k} e l m =
      let s = e.sum in
      let t = sum_next (λ j. get_or ds j 0) k in
      let u = sum_more (λ j. get_or ds j 0) (k + 1) n (omega arith) in
      sym (and_not (all_below (few ds) n) (leb (total ds n) values) (lt-leb (total ds n) values (omega arith)))

-- ---- dependencies so far, where there are values for all

pub record Summed (ds : List ℕ) (n at k : ℕ) : Type 0 where
  pub low : k ≤ n
  pub sum : at ≡ total ds k

module _ (ds : List ℕ) (n : ℕ) where
  pub summed_start : Summed ds n 0 0
  summed_start = record { low = omega arith; sum = sym (sum_start (λ j. get_or ds j 0)) }

  -- there are values for change k
  pub summed_fits : {at k : ℕ} → Summed ds n at k → k < n → at + get_or ds k 0 ≤ total ds n
  summed_fits {at} {k} s l =
      let e = s.sum in let t = sum_next (λ j. get_or ds j 0) k in let u = sum_more (λ j. get_or ds j 0) (k + 1) n (omega arith) in omega arith

  pub summed_next : {at k : ℕ} → Summed ds n at k → k < n → Summed ds n (at + get_or ds k 0) (k + 1)
  summed_next {at} {k} s l = record { low = omega arith; sum = (let e = s.sum in let t = sum_next (λ j. get_or ds j 0) k in omega arith) }

-- the part of the values that is lent for change k
pub deps_part : (ds vs : List ℕ) {n at k : ℕ} → Summed ds n at k → take (at + get_or ds k 0 - at) (drop at vs) ≡ deps_at ds vs k
deps_part ds vs {n} {at} {k} s =
    let e : at + get_or ds k 0 - at ≡ get_or ds k 0 = omega arith in ap₂ (λ (m i : ℕ). take m (drop i vs)) e s.sum

-- ---- what a chain over a list answers, by its places

swapped : (x k : ℕ) → eqb x k ≡ eqb k x
swapped x k = same_bool (eqb x k) (eqb k x) (λ t. eq-eqb k x (sym (eqb-true x k t))) (λ t. eq-eqb x k (sym (eqb-true k x t)))

module _ (p : ℕ → Bool) where
  all_listed : (xs : List ℕ) → list_all p xs ≡ all_in p xs
  unfolding all_in
  all_listed [] = refl
  all_listed (x ∷ xs) = ap (λ (b : Bool). p x && b) (all_listed xs)

  pub all_of_list : (xs : List ℕ) → list_all p xs ≡ all_below (λ i. p (get_or xs i 0)) (length xs)
  all_of_list xs = all_listed xs ∙ sym (all_places p xs)

pub some_of_list : (k : ℕ) (xs : List ℕ) → list_any (λ x. eqb x k) xs ≡ mem k xs
unfolding mem
some_of_list k [] = refl
some_of_list k (x ∷ xs) = ap₂ (λ (a b : Bool). a || b) (swapped x k) (some_of_list k xs)

-- the first of the tests, and the rest of them
all_front : (p : ℕ → Bool) (n : ℕ) → all_below p (suc n) ≡ (p 0 && all_below (λ i. p (suc i)) n)
all_front p n =
    same_bool (all_below p (suc n)) (p 0 && all_below (λ i. p (suc i)) n)
    (λ t. and_both (p 0) (all_below (λ i. p (suc i)) n) (of_all p (suc n) t 0 (omega arith)) (all_of (λ i. p (suc i)) n (λ k l. of_all p (suc n) t (suc k) (omega arith))))
    (λ t. all_of p (suc n) (λ k l. front k l (and_fst (p 0) (all_below (λ i. p (suc i)) n) t) (and_snd (p 0) (all_below (λ i. p (suc i)) n) t)))
  where
    front : (k : ℕ) → k < suc n → p 0 ≡ true → all_below (λ i. p (suc i)) n ≡ true → p k ≡ true
    front zero l a b = a
    front (suc k) l a b = of_all (λ i. p (suc i)) n b k (omega arith)

-- two lists of one length, side by side
pub all_of_zip : (p : ℕ × ℕ → Bool) (xs ys : List ℕ) → length ys ≡ length xs → list_all p (zip xs ys) ≡ all_below (λ i. p (get_or xs i 0, get_or ys i 0)) (length xs)
unfolding all_below
all_of_zip p [] ys e = refl
all_of_zip p (x ∷ xs) [] e = absurd (omega arith)
all_of_zip p (x ∷ xs) (y ∷ ys) e = ap (λ (b : Bool). p (x, y) && b) (all_of_zip p xs ys (omega arith)) ∙ sym (all_front (λ i. p (get_or (x ∷ xs) i 0, get_or (y ∷ ys) i 0)) (length xs))

-- the first of the numbers, and how many of the rest
tally_front : (p : ℕ → Bool) (n : ℕ) → tally p (suc n) ≡ cond (p 0) 1 0 + tally (λ i. p (suc i)) n
unfolding tally
tally_front p zero = omega arith
tally_front p (suc n) = omega (arith, tally_front p n)

-- how many of a list are a
pub count_of_list : (a : ℕ) (xs : List ℕ) → length (filter (λ x. eqb x a) xs) ≡ tally (λ j. eqb (get_or xs j 0) a) (length xs)
unfolding tally
count_of_list a [] = refl
count_of_list a (x ∷ xs) = by_bool (eqb x a) (λ t. let m = more in let n : ◌≡◌ {A = ℕ} (cond (eqb x a) 1 0) 1 = rw t in rw t (omega (arith, count_of_list a xs)))
    (λ f. let m = more in let n : ◌≡◌ {A = ℕ} (cond (eqb x a) 1 0) 0 = rw f in rw f (omega (arith, count_of_list a xs)))
  where
    more : tally (λ j. eqb (get_or (x ∷ xs) j 0) a) (suc (length xs)) ≡ cond (eqb x a) 1 0 + tally (λ j. eqb (get_or xs j 0) a) (length xs)
    more = tally_front (λ j. eqb (get_or (x ∷ xs) j 0) a) (length xs)

-- how many of its first k are
pub count_of_front : (a k : ℕ) (xs : List ℕ) → k ≤ length xs → length (filter (λ x. eqb x a) (take k xs)) ≡ tally (λ j. eqb (get_or xs j 0) a) k
count_of_front a k xs l =
    count_of_list a (take k xs)
    ∙ ap (tally (λ j. eqb (get_or (take k xs) j 0) a)) (length-take-le k xs l)
    ∙ tally_ext (λ j. eqb (get_or (take k xs) j 0) a) (λ j. eqb (get_or xs j 0) a) k (λ j b. ap (λ (x : ℕ). eqb x a) (get_or-take k xs j 0 b))

-- ---- a number where a test holds

pub refused : (b : Bool) (n : ℕ) → false ≡ b → ◌≡◌ {A = Option ℕ} None (if b then Some n else None)
refused b n e = rw (← e)

pub given : (b : Bool) (n m : ℕ) → true ≡ b → n ≡ m → ◌≡◌ {A = Option ℕ} (Some n) (if b then Some m else None)
given b n m e q = rw (← e, q)

pub no_number : (b : Bool) (n : ℕ) → ◌≡◌ {A = Option ℕ} None (if b then Some n else None) → b ≡ false
no_number true n e = cc
no_number false n e = refl

pub the_number : (b : Bool) (n m : ℕ) → ◌≡◌ {A = Option ℕ} (Some n) (if b then Some m else None) → (b ≡ true) × (n ≡ m)
the_number true n m e = (refl, cc)
the_number false n m e = cc

-- ---- the answers put together

module _ (c : Columns) where
  -- the values of all changes
  abbrev used : List ℕ
  used = take (total c.dep_counts (listed_changes c)) c.dep_values

  pub heads_are : heads_test c ≡ heads_stated c
  unfolding deps_before
  heads_are =
      sym (heads_stated_is c
      ∙ ap₂ (λ (a b : Bool). a && b)
      (all_ext (λ i. some_below (λ k. same_list (hash_at c.hashes k) (hash_at c.heads i) && not (wanted (column_graph c) k)) (listed_changes c))
      (λ i. some_below (column_head_is c.hashes used (hash_at c.heads i)) (listed_changes c)) (length c.heads / 32)
      (λ i l.
      some_ext (λ k. same_list (hash_at c.hashes k) (hash_at c.heads i) && not (wanted (column_graph c) k)) (column_head_is c.hashes used (hash_at c.heads i)) (listed_changes c)
      (λ k b. ap (λ (w : Bool). same_list (hash_at c.hashes k) (hash_at c.heads i) && not w) (wanted_values c k))))
      (all_ext (λ k. wanted (column_graph c) k || is_known c.heads (length c.heads / 32) (hash_at c.hashes k))
      (λ k. mem k used || is_known c.heads (length c.heads / 32) (hash_at c.hashes k)) (listed_changes c)
      (λ k l. ap (λ (w : Bool). w || is_known c.heads (length c.heads / 32) (hash_at c.hashes k)) (wanted_values c k))))

  pub deps_are : deps_test c ≡ (deps_below c && max_ops_rise c)
  unfolding deps_below max_ops_rise deps_before
  deps_are =
      all_ext (λ k. all_in (dep_right c.max_ops k) (deps_of_columns c k))
      (λ k. all_in (λ j. ltb j k) (deps_of_columns c k) && all_in (λ j. leb (get_or c.max_ops j 0) (get_or c.max_ops k 0)) (deps_of_columns c k)) (listed_changes c)
      (λ k l. both_in (λ j. ltb j k) (λ j. leb (get_or c.max_ops j 0) (get_or c.max_ops k 0)) (deps_of_columns c k))
      ∙ all_both (λ k. all_in (λ j. ltb j k) (deps_of_columns c k)) (λ k. all_in (λ j. leb (get_or c.max_ops j 0) (get_or c.max_ops k 0)) (deps_of_columns c k)) (listed_changes c)

  -- the checks are the paper's conditions
  pub checks_agree : checks c ≡ agree c
  unfolding agree lengths_equal actors_below ops_right deps_few values_enough sequences_run hashes_distinct deps_before
  checks_agree = rw (deps_are, heads_are) (regroup (lengths_equal c) (actors_below c) (ops_right c) (deps_few c) (values_enough c) (deps_below c) (max_ops_rise c) (sequences_run c && (hashes_distinct c && heads_stated c)))
    where
      regroup : (a b d e f g h r : Bool) → (a && (b && (d && ((e && f) && ((g && h) && r))))) ≡ (a && (b && (d && (e && (f && (g && (h && r)))))))
      regroup true true true true true true h r = refl
      regroup true true true true true false h r = refl
      regroup true true true true false g h r = refl
      regroup true true true false f g h r = refl
      regroup true true false e f g h r = refl
      regroup true false d e f g h r = refl
      regroup false b d e f g h r = refl

  -- every check passed
  pub record Checked : Type 0 where
    pub lengths : lengths_test c ≡ true
    pub actors : actors_test c ≡ true
    pub ops : ops_test c ≡ true
    pub enough : enough_test c ≡ true
    pub deps : deps_test c ≡ true
    pub runs : runs_test c ≡ true
    pub new : new_test c ≡ true
    pub heads : heads_test c ≡ true

  pub checked : agree c ≡ true → Checked
  checked t =
      let t0 = checks_agree ∙ t in
      let t1 = and_snd (lengths_test c) (actors_test c && (ops_test c && (enough_test c && (deps_test c && (runs_test c && (new_test c && heads_test c)))))) t0 in
      let t2 = and_snd (actors_test c) (ops_test c && (enough_test c && (deps_test c && (runs_test c && (new_test c && heads_test c))))) t1 in
      let t3 = and_snd (ops_test c) (enough_test c && (deps_test c && (runs_test c && (new_test c && heads_test c)))) t2 in
      let t4 = and_snd (enough_test c) (deps_test c && (runs_test c && (new_test c && heads_test c))) t3 in
      let t5 = and_snd (deps_test c) (runs_test c && (new_test c && heads_test c)) t4 in
      let t6 = and_snd (runs_test c) (new_test c && heads_test c) t5 in
      record {
        lengths = and_fst (lengths_test c) (actors_test c && (ops_test c && (enough_test c && (deps_test c && (runs_test c && (new_test c && heads_test c)))))) t0;
        actors = and_fst (actors_test c) (ops_test c && (enough_test c && (deps_test c && (runs_test c && (new_test c && heads_test c))))) t1;
        ops = and_fst (ops_test c) (enough_test c && (deps_test c && (runs_test c && (new_test c && heads_test c)))) t2;
        enough = and_fst (enough_test c) (deps_test c && (runs_test c && (new_test c && heads_test c))) t3;
        deps = and_fst (deps_test c) (runs_test c && (new_test c && heads_test c)) t4;
        runs = and_fst (runs_test c) (new_test c && heads_test c) t5;
        new = and_fst (new_test c) (heads_test c) t6;
        heads = and_snd (new_test c) (heads_test c) t6;
      }

  pub all_checked : Checked → true ≡ agree c
  all_checked k =
      sym (and_both (lengths_test c) _ k.lengths (and_both (actors_test c) _ k.actors (and_both (ops_test c) _ k.ops (and_both (enough_test c) _ k.enough
      (and_both (deps_test c) _ k.deps (and_both (runs_test c) _ k.runs (and_both (new_test c) (heads_test c) k.new k.heads)))))))
      ∙ checks_agree

  -- a check fails
  pub failed : (n : ℕ) → (Checked → ⊥) → ◌≡◌ {A = Option ℕ} None (if agree c then Some n else None)
  failed n f = refused (agree c) n (sym (to_false (agree c) (λ t. f (checked t))))

-- ---- laws that no proof needs any more

-- the other test decides
pub and_yes : (a b : Bool) → a ≡ true → b ≡ (a && b)
and_yes a b e = rw e

-- a chain of tests: it stops at the first that fails, or goes on
pub stop : (a b : Bool) → a ≡ false → false ≡ (a && b)
stop a b e = sym (and_no a b e)

pub go_on : (a b r : Bool) → a ≡ true → r ≡ b → r ≡ (a && b)
go_on a b r e q = q ∙ and_yes a b e

pub ops_over : (ms os : List ℕ) (k : ℕ) → get_or ms k 0 < get_or os k 0 → column_ops_right ms os k ≡ false
ops_over ms os k l = and_not (leb (get_or ms k 0) 4294967295) (leb (get_or os k 0) (get_or ms k 0)) (lt-leb (get_or os k 0) (get_or ms k 0) l)

module _ (ds : List ℕ) (n values : ℕ) where
  pub enough_end : {at k : ℕ} → Enough ds n values at k → n ≤ k → true ≡ (all_below (few ds) n && leb (total ds n) values)
  enough_end {at} {k} e l =
      let q : k ≡ n = (let b = e.passed.low in omega arith) in
      let s : at ≡ total ds n = e.sum ∙ ap (total ds) q in
      let f = e.fits in
      sym (and_both (all_below (few ds) n) (leb (total ds n) values) (sym (all_end (few ds) n e.passed l)) (le-leb (total ds n) values (omega arith)))

module _ (ds : List ℕ) (n : ℕ) where
  pub summed_end : {at k : ℕ} → Summed ds n at k → n ≤ k → at ≡ total ds n
  summed_end {at} {k} s l = let q : k ≡ n = (let b = s.low in omega arith) in s.sum ∙ ap (total ds) q

pub record Counted (ws : List ℕ) (a n c k : ℕ) : Type 0 where
  pub low : k ≤ n
  pub count : c ≡ tally (λ j. eqb (get_or ws j 0) a) k
  pub most : c ≤ k

module _ {ws : List ℕ} {a n c k : ℕ} where
  pub counted_yes : Counted ws a n c k → k < n → get_or ws k 0 ≡ a → {d : ℕ} → d ≡ c + 1 → Counted ws a n d (k + 1)
  counted_yes s l e q =
      let t = sym (tally_more (λ j. eqb (get_or ws j 0) a) k) in
      let b : ◌≡◌ {A = ℕ} (cond (eqb (get_or ws k 0) a) 1 0) 1 = rw (eq-eqb (get_or ws k 0) a e) in
      let o = s.count in
      let m = s.most in
      record { low = omega arith; count = rw (add-one k) (omega arith); most = omega arith }

  pub counted_no : Counted ws a n c k → k < n → (get_or ws k 0 ≡ a → ⊥) → {d : ℕ} → d ≡ c → Counted ws a n d (k + 1)
  counted_no s l e q =
      let t = sym (tally_more (λ j. eqb (get_or ws j 0) a) k) in
      let b : ◌≡◌ {A = ℕ} (cond (eqb (get_or ws k 0) a) 1 0) 0 = rw (ne_eqb (get_or ws k 0) a e) in
      let o = s.count in
      let m = s.most in
      record { low = omega arith; count = rw (add-one k) (omega arith); most = omega arith }

  pub counted_end : Counted ws a n c k → n ≤ k → c ≡ tally (λ j. eqb (get_or ws j 0) a) n
  counted_end s l = let q : k ≡ n = (let b = s.low in omega arith) in s.count ∙ ap (tally (λ j. eqb (get_or ws j 0) a)) q

pub counted_start : (ws : List ℕ) (a n : ℕ) → Counted ws a n 0 0
counted_start ws a n = record { low = omega arith; count = sym (tally_start (λ j. eqb (get_or ws j 0) a)); most = omega arith }

-- what equal lengths give
pub record Lengths (n a s m o d : ℕ) : Type 0 where
  pub actors : a ≡ n
  pub seqs : s ≡ n
  pub maxes : m ≡ n
  pub ops : o ≡ n
  pub deps : d ≡ n

pub lengths_of : (n a s m o d : ℕ) → lengths_are n a s m o d ≡ true → Lengths n a s m o d
lengths_of n a s m o d e =
    let r1 = and_snd (eqb a n) (eqb s n && (eqb m n && (eqb o n && eqb d n))) e in
    let r2 = and_snd (eqb s n) (eqb m n && (eqb o n && eqb d n)) r1 in
    let r3 = and_snd (eqb m n) (eqb o n && eqb d n) r2 in
    record {
      actors = eqb-true a n (and_fst (eqb a n) (eqb s n && (eqb m n && (eqb o n && eqb d n))) e);
      seqs = eqb-true s n (and_fst (eqb s n) (eqb m n && (eqb o n && eqb d n)) r1);
      maxes = eqb-true m n (and_fst (eqb m n) (eqb o n && eqb d n) r2);
      ops = eqb-true o n (and_fst (eqb o n) (eqb d n) r3);
      deps = eqb-true d n (and_snd (eqb o n) (eqb d n) r3);
    }

pub enough_of : (c : Columns) → enough_test c ≡ true → total c.dep_counts (listed_changes c) ≤ length c.dep_values
enough_of c t =
    leb-true (total c.dep_counts (listed_changes c)) (length c.dep_values) (and_snd (all_below (few c.dep_counts) (listed_changes c)) (leb (total c.dep_counts (listed_changes c)) (length c.dep_values)) t)

-- the values of all changes, as they are lent
pub used_part : (vs : List ℕ) (e n : ℕ) → e ≡ n → take (e - 0) (drop 0 vs) ≡ take n vs
used_part vs e n q = let z : e - 0 ≡ n = omega arith in ap (λ (m : ℕ). take m vs) z
