-- Records filled into tables, read back as records: what stands at each place, and that distinct records stay distinct.
-- Assumes nothing.
use Rattle.std.specs.Prelude.{◌≡◌, refl, ℕ, zero, suc, ◌+◌, ◌-◌, ◌*◌, ◌<◌, ◌≤◌, List, [], ◌∷◌, ◌++◌, map, Bool, true, false, cond, ◌&&◌, eqb, ltb, length, get_or}
use Rattle.std.proofs.Common.{sym, ap, ◌∙◌, subst, ⊎_elim, add-zero, eq-or-lt_of_le, arith, append_assoc, append-nil}
use Rattle.paper.specs.Lists.{each_below, pick, count}
use Rattle.paper.specs.Queue.{Waiting, Queue, Distinct}
use Rattle.paper.proofs.Bools.{below_or_not, pick_mem, mem_get_d}
use Rattle.paper.proofs.Count.{count_pick, tally_one, count_two}
use Rattle.list_laws.specs.Over.{over, part, part_length_lem, over_length, over_here}
use Rattle.ready.specs.Tables.{dep_count, record_at}
use Rattle.records.specs.Records.{five_at, dep_bytes, fill_hashes, fill_numbers, fill_deps, Rooms, Source, Filled, Copied, SameLengths}
use Rattle.records.specs.RecordLaws.{source_less, rooms_less, rooms_same}
use Rattle.queue_books.specs.View.{part_before, get_d_before, get_d_here, record_same}

-- ---- one record copied

-- record k stands whole in the tables
pub record Whole (hs ns ds : List ℕ) (k : ℕ) : Type 0 where
  pub hash : 32 * k + 32 ≤ length hs
  pub deps : 1024 * k + 32 * dep_count ns k ≤ length ds
  pub few : dep_count ns k ≤ 32

pub rooms_whole : {hs ns ds : List ℕ} {k : ℕ} → Rooms hs ns ds (k + 1) → dep_count ns k ≤ 32 → Whole hs ns ds k
rooms_whole r f = record { hash = omega (arith, r.hashes); deps = omega (arith, r.deps); few = f }

module _ {hs ns ds : List ℕ} {k at : ℕ} {th tn td th' tn' td' : List ℕ} (src : Whole hs ns ds k) (room : Rooms th tn td (at + 1)) (c : Copied hs ns ds k at th tn td th' tn' td') where
  hash_length : length (part hs (32 * k) 32) ≡ 32
  hash_length = part_length_lem hs (32 * k) 32 src.hash

  deps_length : length (dep_bytes ns ds k) ≡ 32 * dep_count ns k
  deps_length = part_length_lem ds (1024 * k) (32 * dep_count ns k) src.deps

  hash_fits : 32 * at + length (part hs (32 * k) 32) ≤ length th
  hash_fits = omega (arith, hash_length, room.hashes)

  five_fits : 5 * at + length (five_at ns k) ≤ length tn
  five_fits = omega (arith, room.numbers)

  deps_fits : 1024 * at + length (dep_bytes ns ds k) ≤ length td
  deps_fits = omega (arith, deps_length, room.deps, src.few)

  pub lengths_kept : SameLengths th tn td th' tn' td'
  lengths_kept =
      record {
        hashes = ap length c.hashes ∙ over_length th (32 * at) (part hs (32 * k) 32) hash_fits;
        numbers = ap length c.numbers ∙ over_length tn (5 * at) (five_at ns k) five_fits;
        deps = ap length c.deps ∙ over_length td (1024 * at) (dep_bytes ns ds k) deps_fits;
      }

  number_here : (j : ℕ) → j < 5 → get_or tn' (5 * at + j) 0 ≡ get_or (five_at ns k) j 0
  number_here j l = ap (λ (x : List ℕ). get_or x (5 * at + j) 0) c.numbers ∙ get_d_here tn (5 * at) (five_at ns k) five_fits j (omega arith)

  pub count_here : dep_count tn' at ≡ dep_count ns k
  count_here = number_here 4 (omega arith)

  five_here : five_at tn' at ≡ five_at ns k
  five_here =
      let z = number_here 0 (omega arith) in
      rw (number_here 1 (omega arith), number_here 2 (omega arith), number_here 3 (omega arith), count_here)
      (ap (λ (x : ℕ). x ∷ get_or ns (5 * k + 1) 0 ∷ get_or ns (5 * k + 2) 0 ∷ get_or ns (5 * k + 3) 0 ∷ get_or ns (5 * k + 4) 0 ∷ []) (rw add-zero at z))

  -- there it stands
  pub copied_here : record_at th' tn' td' at ≡ record_at hs ns ds k
  copied_here =
      record_same hs ns ds k th' tn' td' at
      (rw c.hashes (ap (part (over th (32 * at) (part hs (32 * k) 32)) (32 * at)) (sym hash_length) ∙ over_here th (32 * at) (part hs (32 * k) 32) hash_fits))
      five_here src.deps (omega (arith, lengths_kept.deps, room.deps, src.few))
      (rw c.deps (ap (part (over td (1024 * at) (dep_bytes ns ds k)) (1024 * at)) (sym deps_length) ∙ over_here td (1024 * at) (dep_bytes ns ds k) deps_fits))

  number_before : (j : ℕ) → j < 5 * at → get_or tn' j 0 ≡ get_or tn j 0
  number_before j l = ap (λ (x : List ℕ). get_or x j 0) c.numbers ∙ get_d_before tn (5 * at) (five_at ns k) five_fits j l

  -- before it nothing changes
  module _ (j : ℕ) (low : j < at) where
    pub count_before : dep_count tn' j ≡ dep_count tn j
    count_before = number_before (5 * j + 4) (omega arith)

    five_before : five_at tn' j ≡ five_at tn j
    five_before = rw (number_before (5 * j) (omega arith), number_before (5 * j + 1) (omega arith), number_before (5 * j + 2) (omega arith), number_before (5 * j + 3) (omega arith), count_before)

    pub copied_before : dep_count tn j ≤ 32 → record_at th' tn' td' j ≡ record_at th tn td j
    copied_before small =
        record_same th tn td j th' tn' td' j (rw c.hashes (part_before th (32 * at) (part hs (32 * k) 32) hash_fits (32 * j) 32 (omega arith))) five_before
        (omega (arith, room.deps)) (omega (arith, lengths_kept.deps, room.deps))
        (rw c.deps (part_before td (1024 * at) (dep_bytes ns ds k) deps_fits (1024 * j) (32 * dep_count tn j) (omega arith)))

-- ---- many

-- m records, of the positions f 0, f 1, .., stand from place `at` on; before it nothing changed
pub record Stands (hs ns ds : List ℕ) (f : ℕ → ℕ) (at m : ℕ) (th tn td th' tn' td' : List ℕ) : Type 0 where
  pub lengths : SameLengths th tn td th' tn' td'
  pub here : (i : ℕ) → i < m → record_at th' tn' td' (at + i) ≡ record_at hs ns ds (f i)
  pub few_here : (i : ℕ) → i < m → dep_count tn' (at + i) ≡ dep_count ns (f i)
  pub before : (j : ℕ) → j < at → dep_count tn j ≤ 32 → record_at th' tn' td' j ≡ record_at th tn td j
  pub few_before : (j : ℕ) → j < at → dep_count tn' j ≡ dep_count tn j

stands_start : (hs ns ds : List ℕ) (f : ℕ → ℕ) (at : ℕ) (th tn td : List ℕ) → Stands hs ns ds f at 0 th tn td th tn td
stands_start hs ns ds f at th tn td =
    record {
      lengths = record { hashes = refl; numbers = refl; deps = refl };
      here = λ i l. absurd (omega arith);
      few_here = λ i l. absurd (omega arith);
      before = λ j l b. refl;
      few_before = λ j l. refl;
    }

stands_next : {hs ns ds : List ℕ} {f : ℕ → ℕ} {at m : ℕ} {th tn td th' tn' td' th'' tn'' td'' : List ℕ} → Source hs ns ds f (suc m) → Rooms th tn td (at + suc m)
    → Stands hs ns ds f at m th tn td th' tn' td' → Copied hs ns ds (f m) (at + m) th' tn' td' th'' tn'' td'' → Stands hs ns ds f at (suc m) th tn td th'' tn'' td''
stands_next {hs} {ns} {ds} {f} {at} {m} {th} {tn} {td} {th'} {tn'} {td'} {th''} {tn''} {td''} src room s c =
    let a = rooms_whole (src.rooms m (omega arith)) (src.few m (omega arith)) in
    let r = rooms_same s.lengths (rooms_less ((at + m) + 1) room (omega arith)) in
    let n = lengths_kept a r c in
    record {
      lengths = record { hashes = n.hashes ∙ s.lengths.hashes; numbers = n.numbers ∙ s.lengths.numbers; deps = n.deps ∙ s.lengths.deps };
      here = λ i l.
          ⊎_elim (λ e. subst (λ (x : ℕ). record_at th'' tn'' td'' (at + x) ≡ record_at hs ns ds (f x)) (sym e) (copied_here a r c))
          (λ low. copied_before a r c (at + i) (omega arith) (omega (arith, s.few_here i low, src.few i l)) ∙ s.here i low)
          (eq-or-lt_of_le {n = i} {m = m} (omega arith));
      few_here = λ i l.
          ⊎_elim (λ e. subst (λ (x : ℕ). dep_count tn'' (at + x) ≡ dep_count ns (f x)) (sym e) (count_here a r c))
          (λ low. count_before a r c (at + i) (omega arith) ∙ s.few_here i low)
          (eq-or-lt_of_le {n = i} {m = m} (omega arith));
      before = λ j l small. copied_before a r c j (omega arith) (omega (arith, s.few_before j l)) ∙ s.before j l small;
      few_before = λ j l. count_before a r c j (omega arith) ∙ s.few_before j l;
    }

fills : (hs ns ds : List ℕ) (f : ℕ → ℕ) (at m : ℕ) (th tn td : List ℕ) → Source hs ns ds f m → Rooms th tn td (at + m)
    → Stands hs ns ds f at m th tn td (fill_hashes hs f at m th) (fill_numbers ns f at m tn) (fill_deps ns ds f at m td)
unfolding fill_hashes fill_numbers fill_deps
fills hs ns ds f at zero th tn td src room = stands_start hs ns ds f at th tn td
fills hs ns ds f at (suc m) th tn td src room =
    stands_next src room (fills hs ns ds f at m th tn td (source_less m src (omega arith)) (rooms_less (at + m) room (omega arith)))
    (record { hashes = refl; numbers = refl; deps = refl })

-- what is filled in stands there
pub filled_stands : {hs ns ds : List ℕ} {f : ℕ → ℕ} {at m : ℕ} {th tn td th' tn' td' : List ℕ} → Source hs ns ds f m → Rooms th tn td (at + m)
    → Filled hs ns ds f at m th tn td th' tn' td' → Stands hs ns ds f at m th tn td th' tn' td'
filled_stands {hs} {ns} {ds} {f} {at} {m} {th} {tn} {td} src room a = rw (a.hashes, a.numbers, a.deps) (fills hs ns ds f at m th tn td src room)

-- ---- distinct

-- records of distinct positions are distinct
pub distinct_places : (q : Queue) (f : ℕ → ℕ) (m : ℕ) (g : ℕ → Waiting) → Distinct q → ((i : ℕ) → i < m → f i < q.size)
    → ((i j : ℕ) → i < m → j < m → f i ≡ f j → i ≡ j) → ((i : ℕ) → i < m → g i ≡ q.at (f i)) → Distinct (record { size = m; at = g })
distinct_places q f m g d low once same =
    record {
      hashes = λ i j a b e.
          once i j a b (d.hashes (f i) (f j) (low i a) (low j b) (ap (λ (w : Waiting). w.hash) (sym (same i a)) ∙ (e ∙ ap (λ (w : Waiting). w.hash) (same j b))));
      actors = λ i j a b e s.
          once i j a b
          (d.actors (f i) (f j) (low i a) (low j b) (ap (λ (w : Waiting). w.key) (sym (same i a)) ∙ (e ∙ ap (λ (w : Waiting). w.key) (same j b)))
          (ap (λ (w : Waiting). w.seq) (sym (same i a)) ∙ (s ∙ ap (λ (w : Waiting). w.seq) (same j b))));
    }

-- what is picked is picked once
pub pick_once : (p : ℕ → Bool) (n i j : ℕ) → i < length (pick p n) → j < length (pick p n) → get_or (pick p n) i 0 ≡ get_or (pick p n) j 0 → i ≡ j
pick_once p n i j a b e = ⊎_elim (λ l. absurd (two i j l b e)) (λ l. ⊎_elim (λ s. sym s) (λ m. absurd (two j i m a (sym e))) (eq-or-lt_of_le {n = j} {m = i} l)) (below_or_not i j)
  where
    most : (b : Bool) → cond b 1 0 ≤ 1
    most true = omega arith
    most false = omega arith

    two : (x y : ℕ) → x < y → y < length (pick p n) → get_or (pick p n) x 0 ≡ get_or (pick p n) y 0 → ⊥
    two x y l m s =
        let k = get_or (pick p n) y 0 in
        let c : count (eqb k) (pick p n) ≡ cond (ltb k n && p k) 1 0 = count_pick (eqb k) p n ∙ tally_one k p n in
        omega (arith, count_two (pick p n) x y l m s, most (ltb k n && p k))

pub pick_low : (p : ℕ → Bool) (n i : ℕ) → i < length (pick p n) → get_or (pick p n) i 0 < n
pick_low p n i l = (pick_mem p n (get_or (pick p n) i 0) (mem_get_d (pick p n) i l)).0

-- two queues, the one after the other, of which no change of the one has the hash or the actor and sequence of one of the other
pub distinct_join : (n m : ℕ) (f g h : ℕ → Waiting) → Distinct (record { size = n; at = f }) → Distinct (record { size = m; at = g })
    → ((i : ℕ) → i < n → h i ≡ f i) → ((j : ℕ) → j < m → h (n + j) ≡ g j)
    → ((i j : ℕ) → i < n → j < m → (f i).hash ≡ (g j).hash → ⊥)
    → ((i j : ℕ) → i < n → j < m → (f i).key ≡ (g j).key → (f i).seq ≡ (g j).seq → ⊥)
    → Distinct (record { size = n + m; at = h })
distinct_join n m f g h df dg old new apart-hash apart-actor =
    record {
      hashes = λ i j a b e.
          ⊎_elim
          (λ x.
          ⊎_elim (λ y. df.hashes i j x y (ap (λ (w : Waiting). w.hash) (sym (old i x)) ∙ (e ∙ ap (λ (w : Waiting). w.hash) (old j y))))
          (λ y. absurd (apart-hash i (j - n) x (omega arith) (ap (λ (w : Waiting). w.hash) (sym (old i x)) ∙ (e ∙ ap (λ (w : Waiting). w.hash) (late j y b)))))
          (below_or_not j n))
          (λ x.
          ⊎_elim (λ y. absurd (apart-hash j (i - n) y (omega arith) (ap (λ (w : Waiting). w.hash) (sym (old j y)) ∙ (sym e ∙ ap (λ (w : Waiting). w.hash) (late i x a)))))
          (λ y.
          let s = dg.hashes (i - n) (j - n) (omega arith) (omega arith) (ap (λ (w : Waiting). w.hash) (sym (late i x a)) ∙ (e ∙ ap (λ (w : Waiting). w.hash) (late j y b))) in
          omega arith)
          (below_or_not j n))
          (below_or_not i n);
      actors = λ i j a b e s.
          ⊎_elim
          (λ x.
          ⊎_elim
          (λ y.
          df.actors i j x y (ap (λ (w : Waiting). w.key) (sym (old i x)) ∙ (e ∙ ap (λ (w : Waiting). w.key) (old j y)))
          (ap (λ (w : Waiting). w.seq) (sym (old i x)) ∙ (s ∙ ap (λ (w : Waiting). w.seq) (old j y))))
          (λ y.
          absurd
          (apart-actor i (j - n) x (omega arith) (ap (λ (w : Waiting). w.key) (sym (old i x)) ∙ (e ∙ ap (λ (w : Waiting). w.key) (late j y b)))
          (ap (λ (w : Waiting). w.seq) (sym (old i x)) ∙ (s ∙ ap (λ (w : Waiting). w.seq) (late j y b)))))
          (below_or_not j n))
          (λ x.
          ⊎_elim
          (λ y.
          absurd
          (apart-actor j (i - n) y (omega arith) (ap (λ (w : Waiting). w.key) (sym (old j y)) ∙ (sym e ∙ ap (λ (w : Waiting). w.key) (late i x a)))
          (ap (λ (w : Waiting). w.seq) (sym (old j y)) ∙ (sym s ∙ ap (λ (w : Waiting). w.seq) (late i x a)))))
          (λ y.
          let z =
          dg.actors (i - n) (j - n) (omega arith) (omega arith) (ap (λ (w : Waiting). w.key) (sym (late i x a)) ∙ (e ∙ ap (λ (w : Waiting). w.key) (late j y b)))
          (ap (λ (w : Waiting). w.seq) (sym (late i x a)) ∙ (s ∙ ap (λ (w : Waiting). w.seq) (late j y b)))
          in
          omega arith)
          (below_or_not j n))
          (below_or_not i n);
    }
  where
    late : (i : ℕ) → n ≤ i → i < n + m → h i ≡ g (i - n)
    late i l b = let e : n + (i - n) ≡ i = omega arith in ap h (sym e) ∙ new (i - n) (omega arith)

-- ---- lists of records

pub each_ext : (f g : ℕ → Waiting) (m : ℕ) → ((i : ℕ) → i < m → f i ≡ g i) → each_below f m ≡ each_below g m
unfolding each_below
each_ext f g zero e = refl
each_ext f g (suc m) e = rw (each_ext f g m (λ i l. e i (omega arith)), e m (omega arith))

pub each_add : (f : ℕ → Waiting) (n m : ℕ) → each_below f (n + m) ≡ each_below f n ++ each_below (λ i. f (n + i)) m
unfolding each_below
each_add f n zero = rw (add-zero n) (sym (append-nil (each_below f n)))
each_add f n (suc m) =
    let e : n + suc m ≡ suc (n + m) = omega arith in
    ap (each_below f) e
    ∙ (ap (λ (l : List Waiting). l ++ (f (n + m) ∷ [])) (each_add f n m) ∙ append_assoc (each_below f n) (each_below (λ i. f (n + i)) m) (f (n + m) ∷ []))

each_front : (f : ℕ → Waiting) (m : ℕ) → each_below f (suc m) ≡ f 0 ∷ each_below (λ i. f (suc i)) m
unfolding each_below
each_front f zero = refl
each_front f (suc m) = ap (λ (l : List Waiting). l ++ (f (suc m) ∷ [])) (each_front f m)

pub each_map : (g : ℕ → Waiting) (l : List ℕ) → each_below (λ i. g (get_or l i 0)) (length l) ≡ map g l
unfolding each_below
each_map g [] = refl
each_map g (x ∷ l) = each_front (λ i. g (get_or (x ∷ l) i 0)) (length l) ∙ ap (λ (t : List Waiting). g x ∷ t) (each_map g l)
