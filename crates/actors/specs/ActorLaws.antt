-- What the changed tables hold at each place, and the steps of the loops that change them.
-- Assumes nothing.
use Rattle.std.specs.Prelude.{◌≡◌, Ok, Err, cond, ltb, length, take, drop}
use Rattle.std.proofs.Math.Path.{refl, sym, ap₂, fun_ext}
use Rattle.std.proofs.Common.{ap, ◌∙◌, ⊎_elim, arith, length-take, length-drop, get_or-set_same, get_or-take, get_or-drop, take_all, drop-drop}
use mathlib.Core.List.{List, [], ◌∷◌, ◌++◌, append_assoc}
use Prim.Native.Nat.{ℕ, zero, suc, ◌+◌, ◌*◌, ◌-◌, ◌≤◌, ◌<◌}
use Rattle.std.proofs.Math.Numerals.{add-one}
use Rattle.std.proofs.Math.Nat.{mul-le-mul_right, suc-mul}
use Rattle.std.proofs.Math.ListN.{get_or, set, length-set, get_or-eq_default}
use Rattle.std.proofs.Math.Seq.{get_or-set_other, paste, paste-zero, paste-suc}
use borrow.Author.Tests.{ltb-true, ltb-false, lt-ltb, le-ltb, le-leb, lt-leb, eq-eqb, ne_eqb}
use Rattle.paper.proofs.Bools.{by_bool, below_suc}
use Rattle.list_laws.specs.Cases.{below_or_not, three_ways}
use Rattle.clock.specs.Clock as clock
use Rattle.clock.specs.Places.{length_inserted, inserted_low, inserted_here, inserted_high, length_removed, removed_low, removed_high, removed_free}
use Rattle.tables.specs.Tables.{Tables, changes, actors, change_room_of, actor_room, actor_at}
use Rattle.tables.specs.Valid.{count_of, Numbers, Valid}
use Rattle.actors.specs.declared.ActorRefusal.TheVariants.{NoActor, HasChanges, NoRoom}
use Rattle.actors.specs.Actors.{opening, inserting, removing, widen, narrow, renumbered, row_filled, row_at, rows_by, RowBy}

-- ---- renumbered nodes

module _ (f : ℕ → ℕ) (ns : List ℕ) where
  pub renumbered_long : (n : ℕ) → length (renumbered f n ns) ≡ length ns
  unfolding renumbered
  renumbered_long zero = refl
  renumbered_long (suc n) = length-set (renumbered f n ns) (6 * n) (f (actor_at ns n)) ∙ renumbered_long n

  -- every number but those nodes' actors stays
  pub renumbered_other : (n i : ℕ) → ((k : ℕ) → k < n → i ≡ 6 * k → ⊥) → get_or (renumbered f n ns) i 0 ≡ get_or ns i 0
  unfolding renumbered
  renumbered_other zero i h = refl
  renumbered_other (suc n) i h =
      get_or-set_other (renumbered f n ns) (6 * n) i (f (actor_at ns n)) 0 (h n (omega arith)) ∙ renumbered_other n i (λ k l. h k (omega arith))

  pub renumbered_actor : (n k : ℕ) → 6 * n ≤ length ns → k < n → actor_at (renumbered f n ns) k ≡ f (actor_at ns k)
  unfolding renumbered
  renumbered_actor zero k b l = absurd (omega arith)
  renumbered_actor (suc n) k b l =
      below_suc (λ (j : ℕ). actor_at (renumbered f (suc n) ns) j ≡ f (actor_at ns j)) n k l
      (λ h. get_or-set_other (renumbered f n ns) (6 * n) (6 * k) (f (actor_at ns n)) 0 (λ q. omega arith) ∙ renumbered_actor n k (omega arith) h)
      (get_or-set_same (renumbered f n ns) (6 * n) (f (actor_at ns n)) 0 (let z = renumbered_long n in omega arith))

  -- no node, and one more
  pub renumbered_none : renumbered f 0 ns ≡ ns
  unfolding renumbered
  renumbered_none = refl

  pub renumbered_read : (n : ℕ) → actor_at (renumbered f n ns) n ≡ actor_at ns n
  renumbered_read n = renumbered_other n (6 * n) (λ k l q. omega arith)

  pub renumbered_next : (n v : ℕ) → v ≡ f (actor_at ns n) → set (renumbered f n ns) (6 * n) v ≡ renumbered f (n + 1) ns
  unfolding renumbered
  renumbered_next n v e = rw (add-one n) (ap (set (renumbered f n ns) (6 * n)) e)

-- ---- a row that is filled

module _ (b : ℕ) (s : ℕ → ℕ) (cs : List ℕ) where
  pub filled_long : (m : ℕ) → length (row_filled b s m cs) ≡ length cs
  unfolding row_filled
  filled_long zero = refl
  filled_long (suc m) = length-set (row_filled b s m cs) (b + m) (s m) ∙ filled_long m

  pub filled_low : (m i : ℕ) → i < b → get_or (row_filled b s m cs) i 0 ≡ get_or cs i 0
  unfolding row_filled
  filled_low zero i l = refl
  filled_low (suc m) i l = get_or-set_other (row_filled b s m cs) (b + m) i (s m) 0 (λ q. omega arith) ∙ filled_low m i l

  pub filled_high : (m i : ℕ) → b + m ≤ i → get_or (row_filled b s m cs) i 0 ≡ get_or cs i 0
  unfolding row_filled
  filled_high zero i l = refl
  filled_high (suc m) i l = get_or-set_other (row_filled b s m cs) (b + m) i (s m) 0 (λ q. omega arith) ∙ filled_high m i (omega arith)

  pub filled_in : (m i : ℕ) → b + m ≤ length cs → i < m → get_or (row_filled b s m cs) (b + i) 0 ≡ s i
  unfolding row_filled
  filled_in zero i r l = absurd (omega arith)
  filled_in (suc m) i r l =
      below_suc (λ (j : ℕ). get_or (row_filled b s (suc m) cs) (b + j) 0 ≡ s j) m i l
      (λ h. get_or-set_other (row_filled b s m cs) (b + m) (b + i) (s m) 0 (λ q. omega arith) ∙ filled_in m i (omega arith) h)
      (get_or-set_same (row_filled b s m cs) (b + m) (s m) 0 (let z = filled_long m in omega arith))

-- ---- rows

module _ (s : (ℕ → ℕ) → ℕ → ℕ) (w : ℕ) (cs : List ℕ) where
  pub rows_long : (n : ℕ) → length (rows_by s w n cs) ≡ length cs
  unfolding rows_by
  rows_long zero = refl
  rows_long (suc n) = filled_long (n * w) (s (row_at cs (n * w) w)) (rows_by s w n cs) w ∙ rows_long n

  -- the rows from n on stay
  pub rows_high : (n i : ℕ) → n * w ≤ i → get_or (rows_by s w n cs) i 0 ≡ get_or cs i 0
  unfolding rows_by
  rows_high zero i l = refl
  rows_high (suc n) i l =
      let e = suc-mul n w in
      filled_high (n * w) (s (row_at cs (n * w) w)) (rows_by s w n cs) w i (omega arith) ∙ rows_high n i (omega arith)

  pub rows_in : (n k i : ℕ) → n * w ≤ length cs → k < n → i < w → get_or (rows_by s w n cs) (k * w + i) 0 ≡ s (row_at cs (k * w) w) i
  unfolding rows_by
  rows_in zero k i r l h = absurd (omega arith)
  rows_in (suc n) k i r l h =
      let e = suc-mul n w in
      below_suc (λ (j : ℕ). get_or (rows_by s w (suc n) cs) (j * w + i) 0 ≡ s (row_at cs (j * w) w) i) n k l
      (λ b.
      let d : suc k * w ≤ n * w = mul-le-mul_right w b in
      let d' = suc-mul k w in
      filled_low (n * w) (s (row_at cs (n * w) w)) (rows_by s w n cs) w (k * w + i) (omega arith) ∙ rows_in n k i (omega arith) b h)
      (filled_in (n * w) (s (row_at cs (n * w) w)) (rows_by s w n cs) w i (let z = rows_long n in omega arith) h)

  -- row n is still the old one
  pub rows_read : (n : ℕ) → row_at (rows_by s w n cs) (n * w) w ≡ row_at cs (n * w) w
  rows_read n = fun_ext (λ i. ap (λ (v : ℕ). cond (ltb i w) v 0) (rows_high n (n * w + i) (omega arith)))

  pub rows_none : rows_by s w 0 cs ≡ cs
  unfolding rows_by
  rows_none = refl

  pub rows_next : (n : ℕ) → row_filled (n * w) (s (row_at (rows_by s w n cs) (n * w) w)) w (rows_by s w n cs) ≡ rows_by s w (n + 1) cs
  unfolding rows_by
  rows_next n = rw add-one (ap (λ (c : ℕ → ℕ). row_filled (n * w) (s c) w (rows_by s w n cs)) (rows_read n))

-- row k lies in the table
pub row_room : (k n w r : ℕ) → k < n → n * w ≤ r → k * w + w ≤ r
row_room k n w r l b = let d : suc k * w ≤ n * w = mul-le-mul_right w l in let e = suc-mul k w in omega arith

-- it is the clocks' shift that opens place p in a row, and closes it
module _ (row : List ℕ) (w p : ℕ) (l : p < w) (long : length row ≡ w) where
  pub row_widened : RowBy (widen p) w row (clock.inserted row (w - 1) p)
  row_widened = (length_inserted row _ _ low room, at)
    where
      low : p ≤ w - 1
      low = omega arith

      room : w - 1 < length row
      room = omega arith

      high : (i : ℕ) → i < w → p < i → get_or (clock.inserted row (w - 1) p) i 0 ≡ widen p (clock.entry_of row) i
      high zero h q = absurd (omega arith)
      high (suc i) h q =
          let z : suc i - 1 ≡ i = omega arith in
          rw (le-ltb (suc i) p (omega arith), ne_eqb (suc i) p (λ e. omega arith), z) (inserted_high _ _ _ low room i (omega arith) (omega arith))

      at : (i : ℕ) → i < w → get_or (clock.inserted row (w - 1) p) i 0 ≡ widen p (clock.entry_of row) i
      at i h =
          ⊎_elim (λ q. rw (lt-ltb i p q) (inserted_low _ _ _ low room i q))
          (⊎_elim (λ q. rw (le-ltb i p (omega arith), eq-eqb i p q, q) (inserted_here _ _ _ low room)) (high i h))
          (three_ways i p)

  pub row_narrowed : RowBy (narrow p) w row (clock.removed row w p)
  row_narrowed = (length_removed row _ _ l room, at)
    where
      room : w ≤ length row
      room = omega arith

      at : (i : ℕ) → i < w → get_or (clock.removed row w p) i 0 ≡ narrow p (clock.entry_of row) i
      at i h =
          ⊎_elim (λ q. rw (lt-ltb i p q) (removed_low _ _ _ l room i q))
          (λ q.
          ⊎_elim (λ y. rw (le-ltb i p q) (removed_high _ _ _ l room i q y))
          (λ n. rw (le-ltb i p q) (removed_free _ _ _ l room i (omega arith) ∙ sym (get_or-eq_default row 0 {n = suc i} (omega arith))))
          (below_or_not (suc i) w))
          (below_or_not i p)

-- ---- the row of w entries from b on, lent: what a function gets that is lent `&mut cs[b..b + w]`, and cs once the row is put back

abbrev lent : ℕ → ℕ → List ℕ → List ℕ
lent b w cs = take (b + w - b) (drop b cs)

abbrev put : ℕ → ℕ → List ℕ → List ℕ → List ℕ
put b w cs row = take b cs ++ (row ++ drop (b + w - b) (drop b cs))

module _ (cs : List ℕ) (b w : ℕ) (fits : b + w ≤ length cs) where
  pub lent_long : length (lent b w cs) ≡ w
  lent_long = simp (length-take, length-drop) (omega arith)

  lent_at : (i : ℕ) → i < w → get_or (lent b w cs) i 0 ≡ get_or cs (b + i) 0
  lent_at i l = get_or-take (b + w - b) (drop b cs) i 0 (omega arith) ∙ get_or-drop b cs i 0

  -- a row that holds s 0, s 1, ..: its first m entries are put back, and all are
  module _ (s : ℕ → ℕ) (row : List ℕ) (long : length row ≡ w) (holds : (i : ℕ) → i < w → get_or row i 0 ≡ s i) where
    some_back : (m : ℕ) → m ≤ w → paste cs b row m ≡ row_filled b s m cs
    unfolding row_filled
    some_back zero l = sym (paste-zero cs b row)
    some_back (suc m) l = sym (paste-suc cs b row m 0 (omega arith) (omega arith)) ∙ ap₂ (λ (c : List ℕ) (v : ℕ). set c (b + m) v) (some_back m (omega arith)) (holds m l)

    all_back : put b w cs row ≡ row_filled b s w cs
    all_back =
        let k : b + w - b ≡ w = omega arith in
        rw (k, drop-drop w b cs, ← append_assoc (take b cs) row (drop (b + w) cs), ← take_all w row (omega arith)) (some_back w (omega arith))

  lent_row : clock.entry_of (lent b w cs) ≡ row_at cs b w
  lent_row =
      fun_ext (λ i. by_bool (ltb i w) (λ y. rw y (lent_at i (ltb-true i w y))) (λ n. rw n (get_or-eq_default (lent b w cs) 0 {n = i} (let h = ltb-false i w n in omega (arith, lent_long)))))

  -- a row that was changed by s is put back
  pub changed_back : (s : (ℕ → ℕ) → ℕ → ℕ) (row : List ℕ) → RowBy s w (lent b w cs) row → put b w cs row ≡ row_filled b (s (row_at cs b w)) w cs
  changed_back s row r = all_back (s (row_at cs b w)) row (r.0 ∙ lent_long) (λ i h. r.1 i h ∙ ap (λ (c : ℕ → ℕ). s c i) lent_row)

  -- so they open place p of the row in the table, and close it
  pub widened : {p : ℕ} {row : List ℕ} → p < w → row ≡ clock.inserted (lent b w cs) (w - 1) p → put b w cs row ≡ row_filled b (widen p (row_at cs b w)) w cs
  widened {p} {row} l e = changed_back (widen p) row (rw e (row_widened (lent b w cs) w p l lent_long))

  pub narrowed : {p : ℕ} {row : List ℕ} → p < w → row ≡ clock.removed (lent b w cs) w p → put b w cs row ≡ row_filled b (narrow p (row_at cs b w)) w cs
  narrowed {p} {row} l e = changed_back (narrow p) row (rw e (row_narrowed (lent b w cs) w p l lent_long))

-- ---- the answers, each from its condition

module _ (t : Tables) where
  pub opening_done : (a : ℕ) → a ≤ actor_room t → opening t a ≡ Ok tt
  unfolding opening
  opening_done a l = rw (le-leb a (actor_room t) l)

  pub opening_refused : (a : ℕ) → actor_room t < a → opening t a ≡ Err NoRoom
  unfolding opening
  opening_refused a l = rw (lt-leb a (actor_room t) l)

  pub inserting_done : (p : ℕ) → p ≤ actors t → actors t < actor_room t → inserting t p ≡ Ok tt
  unfolding inserting
  inserting_done p l h = rw (le-leb p (actors t) l, lt-ltb (actors t) (actor_room t) h)

  pub inserting_high : (p : ℕ) → actors t < p → inserting t p ≡ Err NoRoom
  unfolding inserting
  inserting_high p l = rw (lt-leb p (actors t) l)

  pub inserting_full : (p : ℕ) → p ≤ actors t → actor_room t ≤ actors t → inserting t p ≡ Err NoRoom
  unfolding inserting
  inserting_full p l h = rw (le-leb p (actors t) l, le-ltb (actors t) (actor_room t) h)

  pub removing_none : (p : ℕ) → actors t ≤ p → removing t p ≡ Err NoActor
  unfolding removing
  removing_none p l = rw (le-leb (actors t) p l)

  pub removing_used : (p : ℕ) → p < actors t → (count_of t.nodes p (changes t) ≡ 0 → ⊥) → removing t p ≡ Err HasChanges
  unfolding removing
  removing_used p l n = rw (lt-leb (actors t) p l, ne_eqb (count_of t.nodes p (changes t)) 0 n)

  pub removing_done : (p : ℕ) → p < actors t → count_of t.nodes p (changes t) ≡ 0 → removing t p ≡ Ok tt
  unfolding removing
  removing_done p l e = rw (lt-leb (actors t) p l, eq-eqb (count_of t.nodes p (changes t)) 0 e)

-- one row more is changed
pub rows_back : (s : (ℕ → ℕ) → ℕ → ℕ) (w k : ℕ) (cs cs' row : List ℕ) → cs' ≡ rows_by s w k cs → k * w + w ≤ length cs' → RowBy s w (lent (k * w) w cs') row → put (k * w) w cs' row ≡ rows_by s w (k + 1) cs
rows_back s w k cs cs' row e fits r =
    changed_back cs' (k * w) w fits s row r ∙ (ap (λ (l : List ℕ). row_filled (k * w) (s (row_at l (k * w) w)) w l) e ∙ rows_next s w cs k)

-- three counts, written
pub three : (us : List ℕ) (a : ℕ) → length us ≡ 3 → set (set (set us 0 0) 1 0) 2 a ≡ 0 ∷ 0 ∷ a ∷ []
three [] a e = absurd (omega arith)
three (x ∷ []) a e = absurd (omega arith)
three (x ∷ y ∷ []) a e = absurd (omega arith)
three (x ∷ y ∷ z ∷ []) a e = refl
three (x ∷ y ∷ z ∷ v ∷ us) a e = absurd (omega arith)

-- ---- what valid tables have room for

pub record Rooms (t : Tables) : Type 0 where
  pub counts_three : length t.counts ≡ 3
  pub changes_few : changes t ≤ 4096
  pub nodes_fit : 6 * changes t ≤ length t.nodes
  pub rows_fit : changes t * actor_room t ≤ length t.clocks
  pub actors_fit : actors t ≤ actor_room t
  pub room_few : actor_room t ≤ 64
  pub actors_low : (k : ℕ) → k < changes t → actor_at t.nodes k < 64

pub rooms : (t : Tables) → Valid t → Rooms t
unfolding Numbers
rooms t v =
    let l = v.sound.lengths in
    let u = v.sound.counts in
    let m : changes t * actor_room t ≤ change_room_of t * actor_room t = mul-le-mul_right (actor_room t) u.changes_fit in
    record {
      counts_three = l.counts_three;
      changes_few = omega (arith, u.changes_fit, l.changes_limit);
      nodes_fit = omega (arith, u.changes_fit, l.nodes_same);
      rows_fit = omega (arith, l.clocks_whole);
      actors_fit = u.actors_fit;
      room_few = l.actors_limit;
      actors_low = λ k h. omega (arith, (v.sound.numbers k h).actor_low, u.actors_fit, l.actors_limit);
    }

-- ---- laws that no proof needs any more

-- cs' is cs with its first k rows changed
pub record Passing (s : (ℕ → ℕ) → ℕ → ℕ) (w n : ℕ) (cs : List ℕ) (k : ℕ) (cs' : List ℕ) : Type 0 where
  pub high : k ≤ n
  pub long : length cs' ≡ length cs
  pub same : cs' ≡ rows_by s w k cs

module _ (s : (ℕ → ℕ) → ℕ → ℕ) (w n : ℕ) (cs : List ℕ) where
  pub passing_start : Passing s w n cs 0 cs
  unfolding rows_by
  passing_start = record { high = omega arith; long = refl; same = refl }

  pub passing_next : {k : ℕ} {cs' cs'' : List ℕ} → Passing s w n cs k cs' → k < n → cs'' ≡ row_filled (k * w) (s (row_at cs' (k * w) w)) w cs' → Passing s w n cs (k + 1) cs''
  passing_next {k} {cs'} {cs''} v l e =
      record {
        high = omega arith;
        long = ap length e ∙ filled_long (k * w) (s (row_at cs' (k * w) w)) cs' w ∙ v.long;
        same = e ∙ ap (λ (l : List ℕ). row_filled (k * w) (s (row_at l (k * w) w)) w l) v.same ∙ rows_next s w cs k;
      }

  pub passing_end : {k : ℕ} {cs' : List ℕ} → Passing s w n cs k cs' → n ≤ k → cs' ≡ rows_by s w n cs
  passing_end {k} v l = let h = v.high in let e : k ≡ n = omega arith in v.same ∙ ap (λ (m : ℕ). rows_by s w m cs) e
