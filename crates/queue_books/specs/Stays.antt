-- What was valid stays valid, after every operation that changes a queue or a batch, and what it holds then, as the paper's list.
-- Assumes nothing.
use Rattle.std.specs.Prelude.{◌≡◌, refl, ◌⊎◌, Bool, false, set}
use Rattle.std.proofs.Common.{sym, ◌∙◌, subst, ⊎_elim, zero-add, arith, length-set, get_or-set_same}
use Rattle.std.proofs.Math.Path.{ap}
use Rattle.std.proofs.Math.Logic.{inl, inr}
use Prim.Native.Nat.{ℕ, suc, ◌+◌, ◌-◌, ◌*◌, ◌/◌, ◌<◌, ◌≤◌}
use Rattle.std.proofs.Math.Numerals.{add-one}
use mathlib.Core.List.{List, [], ◌∷◌, ◌++◌}
use Rattle.std.proofs.Math.Bool.{true}
use Rattle.std.proofs.Math.ListN.{length, get_or, take, length-take}
use Rattle.std.proofs.Math.Seq.{get_or-take, take-length}
use Rattle.paper.specs.Lists.{names, each_below, pick, hash_at, hashes_of}
use Rattle.paper.specs.Queue.{Waiting, Distinct, order}
use Rattle.paper.proofs.Bools.{by_bool, not-both, or_left, or_right, below_or_not, mem_get_d}
use Rattle.paper.proofs.Ready.{listed_low, found_earlier, among_place}
use Rattle.paper.proofs.Count.{pick_length, tally_most}
use Rattle.list_laws.specs.Over.{over}
use Rattle.ready.specs.Tables.{dep_count, record_at, queue_of, known_in}
use Rattle.records.specs.Records.{Rooms, Few, Filled, Copied, SameLengths, place_of}
use Rattle.records.specs.RecordLaws.{rooms_less, source_list, source_front}
use Rattle.waiting.specs.Valid.{room, waiting, StoreLaid, StoreValid, has_actor_seq_in}
use Rattle.waiting.specs.ValidLaws.{sized_rooms, valid_rooms, known_none, actor_hit, few_next}
use Rattle.waiting.specs.Taken.{TakenOut}
use Rattle.batch.specs.Push.{StandsLast}
use Rattle.batch.specs.PushLaws.{Fine, whole_part}
use Rattle.queue.specs.Hand.{clash_at, any_clash, Appended}
use Rattle.queue.specs.HandLaws.{clash_hit}
use Rattle.release.specs.Release.{ready_of}
use Rattle.paper.specs.Books.{changes_at}
use Rattle.queue_books.specs.View.{records_of}
use Rattle.queue_books.specs.Stands.{Whole, Stands, filled_stands, copied_here, copied_before, count_here, count_before, lengths_kept, distinct_places, pick_once, pick_low, distinct_join, each_ext, each_add, each_map}

-- ---- the count

count_set : (cs : List ℕ) (n : ℕ) → length cs ≡ 1 → waiting (set cs 0 n) ≡ n
count_set cs n e = get_or-set_same cs 0 n 0 (omega arith)

-- n records are counted, of which each has at most 32 dependencies, and which are distinct
valid_after : {hs ns ds cs hs' ns' ds' cs' : List ℕ} (n : ℕ) → StoreValid hs ns ds cs → SameLengths hs ns ds hs' ns' ds' → cs' ≡ set cs 0 n → n ≤ room hs → Few ns' n
    → Distinct (queue_of hs' ns' ds' n) → StoreValid hs' ns' ds' cs'
valid_after {hs} {ns} {ds} {cs} {hs'} {ns'} {ds'} {cs'} n v same e most few distinct =
    let l = v.sized.laid in
    let w : waiting cs' ≡ n = ap (λ (x : List ℕ). get_or x 0 0) e ∙ count_set cs n l.one_count in
    record {
      sized =
          record {
            laid =
                record {
                  one_count = ap length e ∙ simp length-set l.one_count;
                  most = omega (arith, same.hashes, l.most);
                  hashes_whole = omega (arith, same.hashes, l.hashes_whole);
                  numbers_agree = omega (arith, same.hashes, same.numbers, l.numbers_agree);
                  deps_agree = omega (arith, same.hashes, same.deps, l.deps_agree);
                };
            within = omega (arith, same.hashes);
          };
      few = rw w few;
      distinct = rw w distinct;
    }

same_lengths : (hs ns ds : List ℕ) → SameLengths hs ns ds hs ns ds
same_lengths hs ns ds = record { hashes = refl; numbers = refl; deps = refl }

nothing_few : (ns : List ℕ) → Few ns 0
nothing_few ns = record { each = λ i l. absurd (omega arith) }

nothing_distinct : (hs ns ds : List ℕ) → Distinct (queue_of hs ns ds 0)
nothing_distinct hs ns ds = record { hashes = λ i j a b e. absurd (omega arith); actors = λ i j a b e f. absurd (omega arith) }

-- ---- opening, and emptying

-- tables of lengths that agree, with the count 0, are valid
pub open_valid : {hs ns ds cs cs' : List ℕ} → StoreLaid hs ns ds cs → cs' ≡ set cs 0 0 → StoreValid hs ns ds cs'
open_valid {hs} {ns} {ds} {cs} {cs'} l e =
    let w : waiting cs' ≡ 0 = ap (λ (x : List ℕ). get_or x 0 0) e ∙ count_set cs 0 l.one_count in
    record {
      sized =
          record {
            laid =
                record {
                  one_count = ap length e ∙ simp length-set l.one_count;
                  most = l.most;
                  hashes_whole = l.hashes_whole;
                  numbers_agree = l.numbers_agree;
                  deps_agree = l.deps_agree;
                };
            within = omega arith;
          };
      few = rw w (nothing_few ns);
      distinct = rw w (nothing_distinct hs ns ds);
    }

pub opened_list : (hs ns ds cs : List ℕ) {cs' : List ℕ} → length cs ≡ 1 → cs' ≡ set cs 0 0 → records_of hs ns ds (waiting cs') ≡ []
unfolding records_of each_below
opened_list hs ns ds cs l e = rw (e, count_set cs 0 l)

-- ---- pushing

-- the change that is pushed
abbrev pub waiting_change : List ℕ → ℕ → ℕ → ℕ → ℕ → List ℕ → Waiting
waiting_change h key seq top ops needs = record { hash = h; key = key; seq = seq; max_op = top; ops = ops; deps = hashes_of needs }

module _ {hs ns ds cs h : List ℕ} {key seq top ops : ℕ} {needs hs' ns' ds' cs' : List ℕ} (v : StoreValid hs ns ds cs) (f : Fine hs ns cs h key seq needs) (p : StandsLast hs ns ds cs h key seq top ops needs hs' ns' ds' cs') where
  -- it is a record of its own, copied
  src : Whole h (key ∷ seq ∷ top ∷ ops ∷ (length needs / 32) ∷ []) needs 0
  src = record { hash = omega (arith, f.hash_whole); deps = omega arith; few = f.few }

  spot : Rooms hs ns ds (waiting cs + 1)
  spot = rooms_less (waiting cs + 1) (sized_rooms v.sized) (omega (arith, f.space))

  copied : Copied h (key ∷ seq ∷ top ∷ ops ∷ (length needs / 32) ∷ []) needs 0 (waiting cs) hs ns ds hs' ns' ds'
  copied =
      record {
        hashes = p.hashes ∙ ap (over hs (32 * waiting cs)) (sym (whole_part h 32 f.hash_whole));
        numbers = p.numbers;
        deps = p.deps ∙ ap (over ds (1024 * waiting cs)) (sym (whole_part needs (32 * (length needs / 32)) (omega (arith, f.list_whole))));
      }

  its_hash : hash_at h 0 ≡ h
  unfolding hash_at
  its_hash = ap (λ (x : ℕ). take x h) (sym f.hash_whole) ∙ take-length h

  its_record : record_at h (key ∷ seq ∷ top ∷ ops ∷ (length needs / 32) ∷ []) needs 0 ≡ waiting_change h key seq top ops needs
  unfolding hashes_of
  its_record = rw its_hash

  here : record_at hs' ns' ds' (waiting cs) ≡ waiting_change h key seq top ops needs
  here = copied_here src spot copied ∙ its_record

  before : (j : ℕ) → j < waiting cs → record_at hs' ns' ds' j ≡ record_at hs ns ds j
  before j l = copied_before src spot copied j l (v.few.each j l)

  few_after : Few ns' (waiting cs + 1)
  few_after = few_next (record { each = λ i l. omega (arith, count_before src spot copied i l, v.few.each i l) }) (omega (arith, count_here src spot copied, f.few))

  pub pushed_valid : StoreValid hs' ns' ds' cs'
  pushed_valid =
      valid_after (waiting cs + 1) v (lengths_kept src spot copied) p.count (omega (arith, f.space)) few_after
      (distinct_join (waiting cs) 1 (record_at hs ns ds) (λ i. waiting_change h key seq top ops needs) (record_at hs' ns' ds') v.distinct
      (record { hashes = λ i j a b e. omega arith; actors = λ i j a b e s. omega arith })
      before (λ j l. let z : waiting cs + j ≡ waiting cs = omega arith in rw z here)
      (λ i j a b e. known_none hs (waiting cs) h f.new_hash i a e)
      (λ i j a b e s. not-both (actor_hit ns key seq (waiting cs) i a e s) f.new_actor))

  pub pushed_list : records_of hs' ns' ds' (waiting cs') ≡ records_of hs ns ds (waiting cs) ++ (waiting_change h key seq top ops needs ∷ [])
  unfolding records_of each_below
  pushed_list =
      let w : waiting cs' ≡ suc (waiting cs) = ap (λ (x : List ℕ). get_or x 0 0) p.count ∙ (count_set cs (waiting cs + 1) v.sized.laid.one_count ∙ add-one (waiting cs)) in
      ap (each_below (record_at hs' ns' ds')) w
      ∙ (ap (λ (l : List Waiting). l ++ (record_at hs' ns' ds' (waiting cs) ∷ [])) (each_ext (record_at hs' ns' ds') (record_at hs ns ds) (waiting cs) before)
      ∙ ap (λ (w : Waiting). each_below (record_at hs ns ds) (waiting cs) ++ (w ∷ [])) here)

-- ---- handing over

module _ {hs ns ds cs bhs bns bds bcs hs' ns' ds' cs' bcs' : List ℕ} (v : StoreValid hs ns ds cs) (b : StoreValid bhs bns bds bcs) (no-clash : any_clash hs ns (waiting cs) bhs bns (waiting bcs) ≡ false)
    (fits : waiting cs + waiting bcs ≤ room hs) (a : Appended hs ns ds cs bhs bns bds bcs hs' ns' ds' cs' bcs') where
  joined : Stands bhs bns bds (λ i. i) (waiting cs) (waiting bcs) hs ns ds hs' ns' ds'
  joined = filled_stands (source_front (valid_rooms b) b.few) (rooms_less (waiting cs + waiting bcs) (sized_rooms v.sized) fits) a.tables

  old : (j : ℕ) → j < waiting cs → record_at hs' ns' ds' j ≡ record_at hs ns ds j
  old j l = joined.before j l (v.few.each j l)

  few_joined : Few ns' (waiting cs + waiting bcs)
  few_joined =
      record {
        each = λ i l.
            ⊎_elim (λ x. omega (arith, joined.few_before i x, v.few.each i x))
            (λ x.
            let e : waiting cs + (i - waiting cs) ≡ i = omega arith in
            let y : i - waiting cs < waiting bcs = omega arith in
            let z : dep_count ns' i ≡ dep_count bns (i - waiting cs) = ap (dep_count ns') (sym e) ∙ joined.few_here (i - waiting cs) y in
            omega (arith, z, b.few.each (i - waiting cs) y))
            (below_or_not i (waiting cs));
      }

  hash_apart : (i j : ℕ) → i < waiting cs → j < waiting bcs → hash_at hs i ≡ hash_at bhs j → ⊥
  unfolding clash_at
  hash_apart i j l k e =
      let h = hash_at bhs j in
      by_bool (known_in hs (waiting cs) (hash_at bhs j))
      (λ t.
      not-both
      (clash_hit hs ns (waiting cs) bhs bns (waiting bcs) j k
      (or_left (known_in hs (waiting cs) (hash_at bhs j)) (has_actor_seq_in ns (waiting cs) (get_or bns (5 * j) 0) (get_or bns (5 * j + 1) 0)) t)) no-clash)
      (λ f. known_none hs (waiting cs) (hash_at bhs j) f i l e)

  actor_apart : (i j : ℕ) → i < waiting cs → j < waiting bcs → get_or ns (5 * i) 0 ≡ get_or bns (5 * j) 0 → get_or ns (5 * i + 1) 0 ≡ get_or bns (5 * j + 1) 0 → ⊥
  unfolding clash_at
  actor_apart i j l k e s =
      not-both
      (clash_hit hs ns (waiting cs) bhs bns (waiting bcs) j k
      (or_right (known_in hs (waiting cs) (hash_at bhs j)) (has_actor_seq_in ns (waiting cs) (get_or bns (5 * j) 0) (get_or bns (5 * j + 1) 0))
      (actor_hit ns (get_or bns (5 * j) 0) (get_or bns (5 * j + 1) 0) (waiting cs) i l e s))) no-clash

  pub handed_valid : StoreValid hs' ns' ds' cs'
  handed_valid =
      valid_after (waiting cs + waiting bcs) v joined.lengths a.count fits few_joined
      (distinct_join (waiting cs) (waiting bcs) (record_at hs ns ds) (record_at bhs bns bds) (record_at hs' ns' ds') v.distinct b.distinct old joined.here hash_apart actor_apart)

  pub handed_list : records_of hs' ns' ds' (waiting cs') ≡ records_of hs ns ds (waiting cs) ++ records_of bhs bns bds (waiting bcs)
  unfolding records_of
  handed_list =
      let w : waiting cs' ≡ waiting cs + waiting bcs = ap (λ (x : List ℕ). get_or x 0 0) a.count ∙ count_set cs (waiting cs + waiting bcs) v.sized.laid.one_count in
      ap (each_below (record_at hs' ns' ds')) w
      ∙ (each_add (record_at hs' ns' ds') (waiting cs) (waiting bcs)
      ∙ (ap (λ (l : List Waiting). l ++ each_below (λ i. record_at hs' ns' ds' (waiting cs + i)) (waiting bcs)) (each_ext (record_at hs' ns' ds') (record_at hs ns ds) (waiting cs) old)
      ∙ ap (λ (l : List Waiting). each_below (record_at hs ns ds) (waiting cs) ++ l) (each_ext (λ i. record_at hs' ns' ds' (waiting cs + i)) (record_at bhs bns bds) (waiting bcs) joined.here)))

  -- the batch is empty, and valid
  pub emptied_valid : StoreValid bhs bns bds bcs'
  emptied_valid = open_valid b.sized.laid a.emptied

  pub emptied_list : records_of bhs bns bds (waiting bcs') ≡ []
  emptied_list = opened_list bhs bns bds bcs b.sized.laid.one_count a.emptied

-- ---- releasing and dropping: what passes a test is kept

module _ {hs ns ds cs hs' ns' ds' cs' : List ℕ} (v : StoreValid hs ns ds cs) (p : ℕ → Bool) (t : TakenOut hs ns ds cs (pick p (waiting cs)) hs' ns' ds' cs') where
  keep_most : length (pick p (waiting cs)) ≤ waiting cs
  keep_most = omega (arith, pick_length p (waiting cs), tally_most p (waiting cs))

  closed : Stands hs ns ds (place_of (pick p (waiting cs))) 0 (length (pick p (waiting cs))) hs ns ds hs' ns' ds'
  closed =
      filled_stands (source_list {order = pick p (waiting cs)} (record { rooms = valid_rooms v; few = v.few; fits = omega arith; low = pick_low p (waiting cs) }))
      (rooms_less (0 + length (pick p (waiting cs))) (valid_rooms v) (omega (arith, keep_most))) t.moved

  kept_at : (i : ℕ) → i < length (pick p (waiting cs)) → record_at hs' ns' ds' i ≡ record_at hs ns ds (get_or (pick p (waiting cs)) i 0)
  kept_at i l = subst (λ (x : ℕ). record_at hs' ns' ds' x ≡ record_at hs ns ds (get_or (pick p (waiting cs)) i 0)) (zero-add i) (closed.here i l)

  few_kept : Few ns' (length (pick p (waiting cs)))
  few_kept =
      record {
        each = λ i l.
            let z : dep_count ns' i ≡ dep_count ns (get_or (pick p (waiting cs)) i 0) = ap (dep_count ns') (sym (zero-add i)) ∙ closed.few_here i l in
            omega (arith, z, v.few.each (get_or (pick p (waiting cs)) i 0) (pick_low p (waiting cs) i l));
      }

  pub taken_valid : StoreValid hs' ns' ds' cs'
  taken_valid =
      valid_after (length (pick p (waiting cs))) v closed.lengths t.count (omega (arith, keep_most, v.sized.within)) few_kept
      (distinct_places (queue_of hs ns ds (waiting cs)) (place_of (pick p (waiting cs))) (length (pick p (waiting cs))) (record_at hs' ns' ds') v.distinct (pick_low p (waiting cs)) (pick_once p (waiting cs)) kept_at)

  pub taken_list : records_of hs' ns' ds' (waiting cs') ≡ changes_at (queue_of hs ns ds (waiting cs)) (pick p (waiting cs))
  unfolding records_of changes_at
  taken_list =
      let w : waiting cs' ≡ length (pick p (waiting cs)) = ap (λ (x : List ℕ). get_or x 0 0) t.count ∙ count_set cs (length (pick p (waiting cs))) v.sized.laid.one_count in
      ap (each_below (record_at hs' ns' ds')) w
      ∙ (each_ext (record_at hs' ns' ds') (λ i. record_at hs ns ds (get_or (pick p (waiting cs)) i 0)) (length (pick p (waiting cs))) kept_at
      ∙ each_map (record_at hs ns ds) (pick p (waiting cs)))

-- ---- what a release gives out

module _ (gs : List ℕ) (k : ℕ) {hs ns ds cs th tn td th' tn' td' : List ℕ} (v : StoreValid hs ns ds cs)
    (space : Rooms th tn td (length (ready_of gs k hs ns ds cs)))
    (a : Filled hs ns ds (place_of (ready_of gs k hs ns ds cs)) 0 (length (ready_of gs k hs ns ds cs)) th tn td th' tn' td') where
  ready_low : (i : ℕ) → i < length (ready_of gs k hs ns ds cs) → get_or (ready_of gs k hs ns ds cs) i 0 < waiting cs
  unfolding ready_of
  ready_low i l = listed_low (known_in gs k) (queue_of hs ns ds (waiting cs)) (get_or (ready_of gs k hs ns ds cs) i 0) (mem_get_d (ready_of gs k hs ns ds cs) i l)

  out : Stands hs ns ds (place_of (ready_of gs k hs ns ds cs)) 0 (length (ready_of gs k hs ns ds cs)) th tn td th' tn' td'
  out =
      filled_stands (source_list {order = ready_of gs k hs ns ds cs} (record { rooms = valid_rooms v; few = v.few; fits = omega arith; low = ready_low }))
      (rooms_less (0 + length (ready_of gs k hs ns ds cs)) space (omega arith)) a

  given_at : (i : ℕ) → i < length (ready_of gs k hs ns ds cs) → record_at th' tn' td' i ≡ record_at hs ns ds (get_or (ready_of gs k hs ns ds cs) i 0)
  given_at i l = subst (λ (x : ℕ). record_at th' tn' td' x ≡ record_at hs ns ds (get_or (ready_of gs k hs ns ds cs) i 0)) (zero-add i) (out.here i l)

  -- the ready ones, in ready order
  pub given_list : records_of th' tn' td' (length (ready_of gs k hs ns ds cs)) ≡ changes_at (queue_of hs ns ds (waiting cs)) (ready_of gs k hs ns ds cs)
  unfolding records_of changes_at
  given_list =
      each_ext (record_at th' tn' td') (λ i. record_at hs ns ds (get_or (ready_of gs k hs ns ds cs) i 0)) (length (ready_of gs k hs ns ds cs)) given_at
      ∙ each_map (record_at hs ns ds) (ready_of gs k hs ns ds cs)

  -- what a released change depends on is known, or is the hash of one released before it: the rule of adding
  pub given_in_order : (p : ℕ) → p < length (ready_of gs k hs ns ds cs) → (d : List ℕ) → names d (record_at th' tn' td' p).deps ≡ true
      → (known_in gs k d ≡ true) ⊎ ((e : ℕ) × (e < p) × (hash_at th' e ≡ d))
  unfolding ready_of
  given_in_order p l d n =
      by_bool (known_in gs k d) (λ t. inl t)
      (λ f.
      let q = queue_of hs ns ds (waiting cs) in
      let o = order (known_in gs k) q in
      let m : names d (record_at hs ns ds (get_or o p 0)).deps ≡ true = ap (λ (w : Waiting). names d w.deps) (sym (given_at p l)) ∙ n in
      let r = among_place q (take p o) d (found_earlier (known_in gs k) q p l d m f) in
      let low : r.0 < p = omega (arith, r.1, length-take p o) in
      let x : get_or (take p o) r.0 0 ≡ get_or o r.0 0 = get_or-take p o r.0 0 low in
      inr (r.0, low, ap (λ (w : Waiting). w.hash) (given_at r.0 (omega arith)) ∙ (ap (λ (i : ℕ). hash_at hs i) (sym x) ∙ r.2)))
