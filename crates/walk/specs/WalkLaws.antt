-- The steps of the walk.
-- Assumes nothing.
use Rattle.std.specs.Prelude.{◌≡◌, refl, Bool, false, ◌||◌, List, [], ◌∷◌, eqb, ltb, set}
use Rattle.std.proofs.Math.Path.{sym, ap}
use Rattle.std.proofs.Common.{◌∙◌, subst, add-one, arith, get_or-set_same, get_or-set_other}
use Rattle.std.proofs.Math.Bool.{true, cond, or-true, or-false}
use Prim.Native.Nat.{ℕ, zero, suc, ◌+◌, ◌-◌, ◌*◌, ◌≤◌, ◌<◌, max}
use Rattle.std.proofs.Math.ListN.{length, get_or, length-set}
use borrow.Author.Tests.{eqb-true, eqb-false, ne_eqb, ltb-false, lt-ltb, le-ltb}
use Rattle.paper.specs.Lists.{mem, pick}
use Rattle.paper.specs.Graph.{Graph, own, clock, look, ValidGraph as ValidGraph}
use Rattle.paper.specs.ProofWords.{front}
use Rattle.paper.specs.Caching.{left_over}
use Rattle.paper.proofs.Bools.{by_bool, not-both, to_false, mem_nil, mem_pick, pick_ext}
use Rattle.paper.proofs.History.{look_at}
use Rattle.paper.proofs.Walk.{front_ext, front_end, front_skip, front_cached, front_visit}
use Rattle.paper.proofs.Cached.{left_skip, left_cached, left_visit, left_stop, left_ext, left_none}
use Rattle.tables.specs.Tables.{Tables, changes, actor_at, seq_at, first_at, along, entry_at, graph}
use Rattle.tables.specs.Valid.{Sound}
use Rattle.tables.specs.DepsLaws.{valid_graph}
use Rattle.walk.specs.Marks.{marked, MarkedBy}
use Rattle.walk.specs.MarkLaws.{marked_by}
use Rattle.walk.specs.Rows.{cached, RowsRight, Walkable}
use Rattle.walk.specs.RowLaws.{own_below, actor_low}
use Rattle.walk.specs.Walk.{Merged, Visited, WalkDone}

-- ---- the loop of `merge_row`: the first i entries are merged

pub record Merging (rows : List ℕ) (from : ℕ) (d₀ d : List ℕ) (i : ℕ) : Type 0 where
  pub long : length d ≡ length d₀
  pub done : (a : ℕ) → a < i → get_or d a 0 ≡ max (get_or d₀ a 0) (get_or rows (from + a) 0)
  pub rest : (a : ℕ) → i ≤ a → get_or d a 0 ≡ get_or d₀ a 0

pub merging_start : (rows : List ℕ) (from : ℕ) (d : List ℕ) → Merging rows from d d 0
merging_start rows from d = record { long = refl; done = λ a l. absurd (omega arith); rest = λ a l. refl }

pub merging_next : {rows : List ℕ} {from : ℕ} {d₀ d : List ℕ} {i : ℕ} → Merging rows from d₀ d i → i < length d → (v : ℕ) → v ≡ max (get_or d i 0) (get_or rows (from + i) 0) → Merging rows from d₀ (set d i v) (i + 1)
merging_next {rows} {from} {d₀} {d} {i} m l v e = record {
  long = length-set d i v ∙ m.long;
  done = λ a h.
      by_bool (eqb a i)
      (λ t. let q = eqb-true a i t in rw q (get_or-set_same d i v 0 l ∙ e ∙ ap (λ (x : ℕ). max x (get_or rows (from + i) 0)) (m.rest i (omega arith))))
      (λ f. let q = eqb-false a i f in get_or-set_other d i a v 0 q ∙ m.done a (omega arith));
  rest = λ a h. get_or-set_other d i a v 0 (λ q. omega arith) ∙ m.rest a (omega arith);
}

pub merging_end : {rows : List ℕ} {from : ℕ} {d₀ d : List ℕ} {i : ℕ} → Merging rows from d₀ d i → length d ≤ i → Merged rows from d₀ d
merging_end m l = record { long = m.long; entry = λ a h. m.done a (let q = m.long in omega arith) }

-- ---- a visit

-- nothing below m is marked: nothing is to come
pub front_none : (g : Graph) (v : ValidGraph g) (w : ℕ → Bool) (m a : ℕ) → ((j : ℕ) → j < m → w j ≡ false) → front g w m a ≡ 0
front_none g v w zero a f = front_end g v w a
front_none g v w (suc m) a f = front_skip g v w m a (f m (omega arith)) ∙ front_none g v w m a (λ j l. f j (omega arith))

-- the sequence of node k is brought in at its actor
pub included : (g : Graph) (k : ℕ) (d : List ℕ) (v : ℕ) → v ≡ max (get_or d (g.actor k) 0) (g.seq k) → g.actor k < length d → (a : ℕ) → get_or (set d (g.actor k) v) a 0 ≡ max (get_or d a 0) (own g k a)
included g k d v e l a =
    by_bool (eqb (g.actor k) a)
    (λ t. let q = eqb-true (g.actor k) a t in rw (t, ← q) (get_or-set_same d (g.actor k) v 0 l ∙ e))
    (λ f. let q = eqb-false (g.actor k) a f in rw f (get_or-set_other d (g.actor k) a v 0 (λ x. q (sym x)) ∙ omega arith))

-- a mark is taken away
pub unmark : (m : List ℕ) (k j : ℕ) → k < length m → get_or (set m k 0) j 0 ≡ cond (eqb j k) 0 (get_or m j 0)
unmark m k j l = by_bool (eqb j k) (λ t. rw (t, eqb-true j k t) (get_or-set_same m k 0 0 l)) (λ f. rw f (get_or-set_other m k j 0 0 (eqb-false j k f)))

unmark_low : (m : List ℕ) (k j : ℕ) → j < k → marked (set m k 0) j ≡ marked m j
unmark_low m k j l = ap (ltb 0) (get_or-set_other m k j 0 0 (λ q. omega arith))

module _ (t : Tables) (width : ℕ) (clock₀ marks : List ℕ) (k : ℕ) (w : Walkable t width (length clock₀) (k + 1)) (in_marks : k < length marks) (is-marked : 0 < get_or marks k 0) (v : ℕ)
    (e : v ≡ max (get_or clock₀ (actor_at t.nodes k) 0) (seq_at t.nodes k)) where
  known : k < changes t
  known = let i = w.inside in omega arith

  actor_in : actor_at t.nodes k < length clock₀
  actor_in = let a = actor_low t w.sound k known in let b = w.enough in omega arith

  mark_on : marked marks k ≡ true
  mark_on = lt-ltb 0 (get_or marks k 0) is-marked

  -- the row is cached: it is merged
  pub visit_kept : (clock' : List ℕ) → 0 < get_or t.clocks (k * width + actor_at t.nodes k) 0 → Merged t.clocks (k * width) (set clock₀ (actor_at t.nodes k) v) clock' → Visited t k clock₀ marks clock' (set marks k 0) true
  unfolding RowsRight
  visit_kept clock' h m =
      let on : cached t k ≡ true = lt-ltb 0 (entry_at t k (actor_at t.nodes k)) (rw w.wide at h) in
      let n : length (set clock₀ (actor_at t.nodes k) v) ≡ length clock₀ = length-set clock₀ (actor_at t.nodes k) v in
      record {
        long = m.long ∙ n;
        marks_long = length-set marks k 0;
        same = λ a l.
            let q : get_or clock' a 0 ≡ max (get_or (set clock₀ (actor_at t.nodes k) v) a 0) (entry_at t k a) = m.entry a (omega arith) ∙ ap (λ (x : ℕ). max (get_or (set clock₀ (actor_at t.nodes k) v) a 0) (get_or t.clocks (k * x + a) 0)) w.wide in
            let r : entry_at t k a ≡ clock (graph t) (k ∷ []) a = w.rows k (omega arith) a (let b = w.narrow in omega arith) ∙ ap (λ (b : Bool). cond b (clock (graph t) (k ∷ []) a) 0) on in
            let i = included (graph t) k clock₀ v e actor_in a in
            let o = own_below t w.sound k known a in
            let f = front_cached (graph t) (valid_graph t w.sound) (marked marks) k a mark_on in
            let x = front_ext (graph t) (valid_graph t w.sound) (marked (set marks k 0)) (marked marks) k a (λ j b. unmark_low marks k j b) in
            omega arith;
        each = λ j. rw on (unmark marks k j in_marks);
        answer = sym on;
      }

  -- it is not: the dependencies are marked
  pub visit_plain : (marks' : List ℕ) → get_or t.clocks (k * width + actor_at t.nodes k) 0 ≡ 0 → MarkedBy (along t.targets t.nexts (first_at t.nodes k)) (set marks k 0) marks' → Visited t k clock₀ marks (set clock₀ (actor_at t.nodes k) v) marks' false
  visit_plain marks' h m =
      let z : entry_at t k (actor_at t.nodes k) ≡ 0 = rw w.wide at h in
      let off : cached t k ≡ false = le-ltb 0 (entry_at t k (actor_at t.nodes k)) (omega arith) in
      record {
        long = length-set clock₀ (actor_at t.nodes k) v;
        marks_long = m.long ∙ length-set marks k 0;
        same = λ a l.
            let i = included (graph t) k clock₀ v e actor_in a in
            let f = front_visit (graph t) (valid_graph t w.sound) (marked marks) k a known mark_on in
            let x =
            front_ext (graph t) (valid_graph t w.sound) (marked marks') (λ j. marked marks j || mem j ((graph t).deps k)) k a
            (λ j b. marked_by (along t.targets t.nexts (first_at t.nodes k)) (set marks k 0) marks' m j ∙ ap (λ (y : Bool). y || mem j ((graph t).deps k)) (unmark_low marks k j b)) in
            omega arith;
        each = λ j. rw off (m.each j ∙ ap (cond (mem j (along t.targets t.nexts (first_at t.nodes k))) 1) (unmark marks k j in_marks));
        answer = sym off;
      }

-- ---- the walk

-- none between m and n: what is below n is below m
pub pick_cut : (p : ℕ → Bool) (m d : ℕ) → ((j : ℕ) → m ≤ j → j < d + m → p j ≡ false) → pick p (d + m) ≡ pick p m
unfolding pick
pick_cut p m zero f = let e : zero + m ≡ m = omega arith in rw e
pick_cut p m (suc d) f = let e : suc d + m ≡ suc (d + m) = omega arith in rw (e, f (d + m) (omega arith) (omega arith)) (pick_cut p m d (λ j l h. f j l (omega arith)))

pub front_cut : (g : Graph) (v : ValidGraph g) (w : ℕ → Bool) (m d a : ℕ) → ((j : ℕ) → m ≤ j → j < d + m → w j ≡ false) → front g w (d + m) a ≡ front g w m a
front_cut g v w m zero a f = let e : zero + m ≡ m = omega arith in rw e
front_cut g v w m (suc d) a f =
    let e : suc d + m ≡ suc (d + m) = omega arith in rw e (front_skip g v w (d + m) a (f (d + m) (omega arith) (omega arith)) ∙ front_cut g v w m d a (λ j l h. f j l (omega arith)))

-- the walk has come down to i with n visited: nothing from i on is marked, and what the clock has, what is to come and what will be left over are as at the start
pub record Walking (t : Tables) (top limit : ℕ) (clock₀ marks₀ clock marks : List ℕ) (i n : ℕ) : Type 0 where
  pub count : n + i ≤ top
  pub long : length clock ≡ length clock₀
  pub marks_long : length marks ≡ length marks₀
  pub same : (a : ℕ) → a < length clock₀ → max (get_or clock a 0) (front (graph t) (marked marks) i a) ≡ max (get_or clock₀ a 0) (front (graph t) (marked marks₀) top a)
  pub left : left_over (graph t) limit (cached t) i n (marked marks) ≡ left_over (graph t) limit (cached t) top 0 (marked marks₀)
  pub none : (j : ℕ) → i ≤ j → j < top → get_or marks j 0 ≡ 0
  pub past : (j : ℕ) → top ≤ j → get_or marks j 0 ≡ get_or marks₀ j 0

pub walking_start : (t : Tables) (top limit : ℕ) (clock marks : List ℕ) → Walking t top limit clock marks clock marks top 0
walking_start t top limit clock marks = record {
  count = omega arith;
  long = refl;
  marks_long = refl;
  same = λ a l. refl;
  left = refl;
  none = λ j l h. absurd (omega arith);
  past = λ j l. refl;
}

module _ (t : Tables) (top limit : ℕ) (clock₀ marks₀ clock marks : List ℕ) (s : Sound t) where
  g : Graph
  g = graph t

  valid : ValidGraph (graph t)
  valid = valid_graph t s

  -- where nothing from i on is marked, the walk may end
  ends : {i n : ℕ} → Walking t top limit clock₀ marks₀ clock marks i n → pick (marked marks) i ≡ left_over (graph t) limit (cached t) i n (marked marks) → WalkDone t top limit clock₀ marks₀ clock marks
  ends {i} {n} v e =
      let x : top ≡ (top - i) + i = (let c = v.count in omega arith) in
      let f : (j : ℕ) → i ≤ j → j < (top - i) + i → marked marks j ≡ false = λ j l h. ap (ltb 0) (v.none j l (omega arith)) in
      record {
        long = v.long;
        marks_long = v.marks_long;
        same = λ a l.
            let q : front (graph t) (marked marks) top a ≡ front (graph t) (marked marks) i a = ap (λ (y : ℕ). front (graph t) (marked marks) y a) x ∙ front_cut (graph t) valid (marked marks) i (top - i) a f in
            ap (max (get_or clock a 0)) q ∙ v.same a l;
        left = ap (pick (marked marks)) x ∙ pick_cut (marked marks) i (top - i) f ∙ e ∙ v.left;
        past = v.past;
      }

  pub walking_end : {i n : ℕ} → Walking t top limit clock₀ marks₀ clock marks i n → i ≡ 0 → WalkDone t top limit clock₀ marks₀ clock marks
  unfolding pick left_over
  walking_end {i} {n} v z = ends v (rw z)

  module _ (m n : ℕ) {i : ℕ} (q : i ≡ suc m) (v₀ : Walking t top limit clock₀ marks₀ clock marks i n) where
    v : Walking t top limit clock₀ marks₀ clock marks (suc m) n
    v = subst (λ (x : ℕ). Walking t top limit clock₀ marks₀ clock marks x n) q v₀

    pub walking_skip : get_or marks m 0 ≡ 0 → Walking t top limit clock₀ marks₀ clock marks m n
    walking_skip z =
        let off : marked marks m ≡ false = ap (ltb 0) z in
        record {
          count = let c = v.count in omega arith;
          long = v.long;
          marks_long = v.marks_long;
          same = λ a l. ap (max (get_or clock a 0)) (sym (front_skip (graph t) valid (marked marks) m a off)) ∙ v.same a l;
          left = sym (left_skip (graph t) limit (cached t) (marked marks) m n off) ∙ v.left;
          none = λ j l h. by_bool (eqb j m) (λ y. ap (λ (i : ℕ). get_or marks i 0) (eqb-true j m y) ∙ z) (λ y. let q = eqb-false j m y in v.none j (omega arith) h);
          past = v.past;
        }

    module _ (known : m < changes t) (clock' marks' : List ℕ) (r : Bool) (x : Visited t m clock marks clock' marks' r) (is-marked : 0 < get_or marks m 0) where
      on : marked marks m ≡ true
      on = lt-ltb 0 (get_or marks m 0) is-marked

      -- at m and above only the mark of m changes
      high : (j : ℕ) → m ≤ j → get_or marks' j 0 ≡ cond (eqb j m) 0 (get_or marks j 0)
      high j l =
          let d : mem j (along t.targets t.nexts (first_at t.nodes m)) ≡ false = to_false _ (λ e. let z = valid.down m j known e in omega arith) in
          x.each j ∙ by_bool (cached t m) (λ y. rw y) (λ y. rw (y, d))

      low_cached : cached t m ≡ true → (j : ℕ) → j < m → marked marks' j ≡ marked marks j
      low_cached y j l = let e : get_or marks' j 0 ≡ get_or marks j 0 = x.each j ∙ rw (y, ne_eqb j m (λ (q : j ≡ m). omega arith)) in ap (ltb 0) e

      low_plain : cached t m ≡ false → (j : ℕ) → j < m → marked marks' j ≡ look (graph t) m (marked marks) j
      low_plain y j l =
          ap (ltb 0) (x.each j)
          ∙ rw (look_at (graph t) m (marked marks) j, on, y, ne_eqb j m (λ (q : j ≡ m). omega arith))
          (by_bool (mem j (along t.targets t.nexts (first_at t.nodes m))) (λ b. rw b (sym (or-true (marked marks j)))) (λ b. rw b (sym (or-false (marked marks j)))))

      bare : (j : ℕ) → m ≤ j → j < top → get_or marks' j 0 ≡ 0
      bare j l h = high j l ∙ by_bool (eqb j m) (λ y. rw y) (λ y. let q = eqb-false j m y in rw y (v.none j (omega arith) h))

      -- what a visit leaves, whether or not the walk goes on
      steps : (left_over (graph t) limit (cached t) m (suc n) (marked marks') ≡ left_over (graph t) limit (cached t) top 0 (marked marks₀)) → Walking t top limit clock₀ marks₀ clock' marks' m (n + 1)
      steps e = record {
        count = let c = v.count in omega arith;
        long = x.long ∙ v.long;
        marks_long = x.marks_long ∙ v.marks_long;
        same = λ a l. x.same a (let q = v.long in omega arith) ∙ v.same a l;
        left = rw (add-one n) e;
        none = bare;
        past = λ j l. high j (let c = v.count in omega arith) ∙ rw (ne_eqb j m (λ (q : j ≡ m). let c = v.count in omega arith)) (v.past j l);
      }

      pub walking_kept : r ≡ true → Walking t top limit clock₀ marks₀ clock' marks' m (n + 1)
      walking_kept y =
          let q : cached t m ≡ true = sym x.answer ∙ y in
          steps (left_ext (graph t) limit (cached t) (cached t) (marked marks') (marked marks) m (suc n) (λ j l. refl) (low_cached q)
          ∙ sym (left_cached (graph t) limit (cached t) (marked marks) m n on q) ∙ v.left)

      pub walking_plain : r ≡ false → n < limit → Walking t top limit clock₀ marks₀ clock' marks' m (n + 1)
      walking_plain y h =
          let q : cached t m ≡ false = sym x.answer ∙ y in
          steps (left_ext (graph t) limit (cached t) (cached t) (marked marks') (look (graph t) m (marked marks)) m (suc n) (λ j l. refl) (low_plain q)
          ∙ sym (left_visit (graph t) limit (cached t) (marked marks) m n on q h) ∙ v.left)

      -- it stops
      pub walking_stop : r ≡ false → limit ≤ n → WalkDone t top limit clock₀ marks₀ clock' marks'
      walking_stop y h =
          let q : cached t m ≡ false = sym x.answer ∙ y in
          let e : top ≡ (top - m) + m = (let c = v.count in omega arith) in
          let f : (j : ℕ) → m ≤ j → j < (top - m) + m → marked marks' j ≡ false = λ j l b. ap (ltb 0) (bare j l (omega arith)) in
          record {
            long = x.long ∙ v.long;
            marks_long = x.marks_long ∙ v.marks_long;
            same = λ a l.
                let z : front (graph t) (marked marks') top a ≡ front (graph t) (marked marks') m a = ap (λ (i : ℕ). front (graph t) (marked marks') i a) e ∙ front_cut (graph t) valid (marked marks') m (top - m) a f in
                ap (max (get_or clock' a 0)) z ∙ x.same a (let u = v.long in omega arith) ∙ v.same a l;
            left = ap (pick (marked marks')) e ∙ pick_cut (marked marks') m (top - m) f ∙ pick_ext (marked marks') (look (graph t) m (marked marks)) m (low_plain q) ∙ sym (left_stop (graph t) limit (cached t) (marked marks) m n on q h) ∙ v.left;
            past = λ j l. high j (let c = v.count in omega arith) ∙ rw (ne_eqb j m (λ (u : j ≡ m). let c = v.count in omega arith)) (v.past j l);
          }

-- a walk without a limit leaves no mark, and the clock has all that the marked nodes bring
module _ (t : Tables) (s : Sound t) (top limit : ℕ) (clock marks clock' marks' : List ℕ) (w : WalkDone t top limit clock marks clock' marks') (all : top ≤ limit) where
  clean : (j : ℕ) → j < top → marked marks' j ≡ false
  clean j l = to_false _ (λ e. not-both (sym (ap (mem j) (w.left ∙ left_none (graph t) limit (cached t) (marked marks) top 0 (omega arith))) ∙ mem_pick (marked marks') top j l e) (mem_nil j))

  pub all_clean : (j : ℕ) → j < top → get_or marks' j 0 ≡ 0
  all_clean j l = let z = ltb-false 0 (get_or marks' j 0) (clean j l) in omega arith

  pub all_walked : (a : ℕ) → a < length clock → get_or clock' a 0 ≡ max (get_or clock a 0) (front (graph t) (marked marks) top a)
  all_walked a l = let e = w.same a l in let z = front_none (graph t) (valid_graph t s) (marked marks') top a clean in omega arith
