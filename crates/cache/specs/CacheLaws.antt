-- The steps of caching a node.
-- Assumes nothing.
use Rattle.std.specs.Prelude.{◌≡◌, refl, Bool, true, false, cond, ◌||◌, eqb, ltb, set}
use Rattle.std.proofs.Math.Path.{sym, ap}
use Rattle.std.proofs.Common.{◌∙◌, ⊎_elim, add-one, get_or-set_same, ext_get_or}
use mathlib.Core.List.{List, [], ◌∷◌}
use Prim.Native.Nat.{ℕ, suc, ◌+◌, ◌-◌, ◌*◌, ◌≤◌, ◌<◌, max}
use native.Mathlib.Omega.{arith}
use Rattle.std.proofs.Math.ListN.{length, get_or, length-set}
use Rattle.std.proofs.Math.Seq.{get_or-set_other, get_or-drop, paste}
use Rattle.std.proofs.lemmas.List.Edits.{drop-paste}
use borrow.Author.Tests.{eqb-true, eqb-false, eq-eqb, ne_eqb, ltb-false}
use Rattle.list_laws.specs.Paste.{paste_long, paste_low, paste_in}
use Rattle.paper.specs.Lists.{mem, pick}
use Rattle.paper.specs.Graph.{clock, ValidGraph as ValidGraph}
use Rattle.paper.specs.ProofWords.{front}
use Rattle.paper.specs.Caching.{left_over, in_turn, cached_to, cached_after}
use Rattle.paper.proofs.Bools.{by_bool, to_false, below_or_not, mem_pick, pick_mem}
use Rattle.paper.proofs.Walk.{front_skip, front_cached}
use Rattle.paper.proofs.Cached.{left_ext, left_lower, turn_ext, cached_again, cached_by}
use Rattle.tables.specs.Tables.{Tables, actor_room, actor_at, graph}
use Rattle.tables.specs.DepsLaws.{valid_graph}
use Rattle.walk.specs.Marks.{marked}
use Rattle.walk.specs.Rows.{cached, RowsRight, Walkable}
use Rattle.walk.specs.RowLaws.{row_fits, node_fits, own_room}
use Rattle.walk.specs.Walk.{WalkDone}
use Rattle.walk.specs.WalkLaws.{front_none}
use Rattle.cache.specs.Cache.{RowsTo, Cachable, Begun, NodeCached, Halfway, LeftCached, with_clocks}
use Rattle.cache.specs.RowLaws.{rows_apart, row_end, same_width, sound_with, cached_with, right_with}

-- ---- a node that is cached already

pub already : (t : Tables) (width k : ℕ) (marks : List ℕ) → Cachable t width k marks → cached t k ≡ true → RowsTo t (cached_after (graph t) (cached t) k) (suc k) t.clocks
unfolding RowsRight
already t width k marks v e = record {
  long = refl;
  rows = λ j a l h. v.rows j l a h ∙ ap (λ (b : Bool). cond b (clock (graph t) (j ∷ []) a) 0) (sym (cached_again (graph t) (cached t) k j e));
  past = λ i l. refl;
}

-- ---- the walk from node k

module _ (t : Tables) (width k : ℕ) (marks : List ℕ) (v : Cachable t width k marks) where
  valid : ValidGraph (graph t)
  valid = valid_graph t v.sound

  -- with node k marked, only it is to be visited
  only : (j : ℕ) → j < suc k → marked (set marks k 1) j ≡ eqb j k
  only j l =
      by_bool (eqb j k) (λ y. let q = eqb-true j k y in ap (λ (x : ℕ). ltb 0 (get_or (set marks k 1) x 0)) q ∙ ap (ltb 0) (get_or-set_same marks k 1 0 v.room) ∙ sym y)
      (λ y. ap (ltb 0) (get_or-set_other marks k j 1 0 (eqb-false j k y) ∙ v.clean j l) ∙ sym y)

  pub row_in : k * width + width ≤ length t.clocks
  row_in = let e : k * width ≡ k * actor_room t = ap (λ (x : ℕ). k * x) v.wide in let r = row_fits t v.sound k v.inside in let z = v.wide in omega arith

  pub narrow : width ≤ 64
  narrow = let z = v.wide in let l = v.sound.lengths.actors_limit in omega arith

  -- node k can be walked from, with a clock of a row's length
  pub walkable : (n : ℕ) → n ≡ width → Walkable t width n (k + 1)
  walkable n e = record {
    sound = v.sound;
    wide = v.wide;
    enough = let z = v.wide in let a = v.sound.counts.actors_fit in omega arith;
    narrow = let z = v.wide in omega arith;
    inside = let i = v.inside in omega arith;
    rows = λ j l. v.rows j (omega arith);
  }

  module _ (clock₀ clock' marks' : List ℕ) (zero₀ : (a : ℕ) → get_or clock₀ a 0 ≡ 0) (long₀ : length clock₀ ≡ width) (d : WalkDone t (k + 1) 32 clock₀ (set marks k 1) clock' marks') where
    left : pick (marked marks') (suc k) ≡ left_over (graph t) 32 (cached t) (suc k) 0 (λ i. eqb i k)
    left =
        ap (pick (marked marks')) (sym (add-one k)) ∙ d.left ∙ ap (λ (n : ℕ). left_over (graph t) 32 (cached t) n 0 (marked (set marks k 1))) (add-one k)
        ∙ left_ext (graph t) 32 (cached t) (cached t) (marked (set marks k 1)) (λ i. eqb i k) (suc k) 0 (λ j l. refl) only

    -- node k's own mark is gone
    gone : marked marks' k ≡ false
    gone = to_false _ (λ e. let z = left_lower (graph t) (cached t) (λ i. eqb i k) k k (eq-eqb k k refl) (sym (ap (mem k) left) ∙ mem_pick (marked marks') (suc k) k (omega arith) e) in omega arith)

    pub begun : (cs row : List ℕ) → row ≡ clock' → cs ≡ paste t.clocks (k * width) row (length row) → Begun t k marks cs marks'
    unfolding pick
    begun cs row q p =
        let n : length row ≡ actor_room t = ap length q ∙ d.long ∙ long₀ ∙ v.wide in
        let e : k * width ≡ k * actor_room t = ap (λ (x : ℕ). k * x) v.wide in
        let fits : k * width + length row ≤ length t.clocks = (let r = row_fits t v.sound k v.inside in omega arith) in
        record {
          long = ap length p ∙ paste_long t.clocks (k * width) row (length row) fits (omega arith);
          row = λ a l.
              let x : get_or cs (k * actor_room t + a) 0 ≡ get_or clock' a 0 = ap (λ (y : ℕ). get_or cs (y + a) 0) (sym e) ∙ ap (λ (y : List ℕ). get_or y (k * width + a) 0) p ∙ paste_in t.clocks (k * width) row (length row) fits (omega arith) a (omega arith) ∙ ap (λ (y : List ℕ). get_or y a 0) q in
              let s = d.same a (let u = v.wide in omega arith) in
              let z = zero₀ a in
              let f₁ : front (graph t) (marked marks') (k + 1) a ≡ front (graph t) (marked marks') k a = ap (λ (y : ℕ). front (graph t) (marked marks') y a) (add-one k) ∙ front_skip (graph t) valid (marked marks') k a gone in
              let f₂ : front (graph t) (marked (set marks k 1)) (k + 1) a ≡ max (clock (graph t) (k ∷ []) a) (front (graph t) (marked (set marks k 1)) k a) = ap (λ (y : ℕ). front (graph t) (marked (set marks k 1)) y a) (add-one k) ∙ front_cached (graph t) valid (marked (set marks k 1)) k a (only k (omega arith) ∙ eq-eqb k k refl) in
              let f₃ = front_none (graph t) valid (marked (set marks k 1)) k a (λ j l. only j (omega arith) ∙ ne_eqb j k (λ (y : j ≡ k). omega arith)) in
              omega arith;
          before = λ i l. ap (λ (y : List ℕ). get_or y i 0) p ∙ paste_low t.clocks (k * width) row (length row) fits (omega arith) i (omega arith);
          past = λ i l.
              let m = k * width + length row in
              let u : m + (i - m) ≡ i = omega arith in
              ap (λ (y : List ℕ). get_or y i 0) p
              ∙ ap (λ (y : ℕ). get_or (paste t.clocks (k * width) row (length row)) y 0) (sym u)
              ∙ sym (get_or-drop m (paste t.clocks (k * width) row (length row)) (i - m) 0)
              ∙ ap (λ (y : List ℕ). get_or y (i - m) 0) (drop-paste t.clocks (k * width) row (length row) (omega arith) (omega arith))
              ∙ get_or-drop m t.clocks (i - m) 0
              ∙ ap (λ (y : ℕ). get_or t.clocks y 0) u;
          marks_long = d.marks_long ∙ length-set marks k 1;
          left = rw gone at left;
          high = λ j l.
              by_bool (eqb j k) (λ y. let r = eqb-true j k y in rw r ((let z = ltb-false 0 (get_or marks' k 0) gone in let w = v.clean k (omega arith) in omega arith)))
              (λ y. let r = eqb-false j k y in d.past j (omega arith) ∙ get_or-set_other marks k j 1 0 r);
        }

  -- ---- the nodes left over

  module _ (cs marks' : List ℕ) (b : Begun t k marks cs marks') where
    t₁ : Tables
    t₁ = with_clocks t cs

    -- the rows below k are as they were
    old_row : (j a : ℕ) → j < k → a < actor_room t → get_or cs (j * actor_room t + a) 0 ≡ cond (cached t j) (clock (graph t) (j ∷ []) a) 0
    unfolding RowsRight
    old_row j a l h = b.before (j * actor_room t + a) (let z = rows_apart j k (actor_room t) l in omega arith) ∙ v.rows j (omega arith) a h

    old_cached : (j : ℕ) → j < k → cached (with_clocks t cs) j ≡ cached t j
    old_cached j l = cached_with t v.sound cs b.long j (let i = v.inside in omega arith) (cached t j) (λ a h. old_row j a l h)

    pub halfway : Halfway (with_clocks t cs) width k marks'
    halfway = record {
      sound = sound_with t v.sound cs b.long;
      wide = v.wide ∙ sym (same_width t v.sound cs b.long);
      inside = v.inside;
      rows = λ j l. right_with t v.sound cs b.long j (let i = v.inside in omega arith) (cached t j) (λ a h. old_row j a l h);
      room = let r = v.room in let z = b.marks_long in omega arith;
      half = λ a l. ap (λ (w : ℕ). max (get_or cs (k * w + a) 0) (front (graph t) (marked marks') k a)) (same_width t v.sound cs b.long) ∙ b.row a (rw (same_width t v.sound cs b.long) at l);
    }

    module _ (cs' marks'' : List ℕ) (c : LeftCached (with_clocks t cs) k marks' cs' marks'') where
      -- node k and the nodes left over are cached
      pub node_cached : RowsTo t (cached_after (graph t) (cached t) k) (suc k) cs'
      node_cached = record {
        long = c.clocks.long ∙ b.long;
        rows = λ j a l h.
            let w = same_width t v.sound cs b.long in
            ap (λ (x : ℕ). get_or cs' (j * x + a) 0) (sym w) ∙ c.clocks.rows j a l (rw w h)
            ∙ ap (λ (y : Bool). cond y (clock (graph t) (j ∷ []) a) 0) (same j l ∙ sym (cached_by (graph t) (cached t) k j));
        past = λ i l.
            let w = same_width t v.sound cs b.long in
            c.clocks.past i (rw w l) ∙ b.past i (let z = row_end k (actor_room t) in omega arith);
      }
        where
          same : (j : ℕ) → j < suc k → (eqb j k || in_turn (cached_to (graph t) k) (cached (with_clocks t cs)) (pick (marked marks') k) j) ≡ (eqb j k || in_turn (cached_to (graph t) k) (cached t) (left_over (graph t) 32 (cached t) (suc k) 0 (λ i. eqb i k)) j)
          same j l =
              by_bool (eqb j k) (λ y. rw y)
              (λ y.
              let q = eqb-false j k y in
              ap (λ (x : Bool). eqb j k || x)
              (turn_ext (graph t) k k k (omega arith) (omega arith) (cached (with_clocks t cs)) (cached t) old_cached (pick (marked marks') k) (λ i m. (pick_mem (marked marks') k i m).0) j (omega arith)
              ∙ ap (λ (xs : List ℕ). in_turn (cached_to (graph t) k) (cached t) xs j) b.left))

      -- and the marks are as they were
      pub marks_back : marks'' ≡ marks
      marks_back =
          ext_get_or 0 marks'' marks (c.marks_long ∙ b.marks_long)
          (λ j l.
          ⊎_elim (λ low. c.low j low ∙ sym (v.clean j (omega arith))) (λ high. c.high j high ∙ b.high j high) (below_or_not j k))

      pub node_done : NodeCached t k marks cs' marks''
      node_done = record { clocks = node_cached; marks_back = marks_back }

  -- ---- the test before

  pub own_in : (6 * k < length t.nodes) × (k * width + actor_at t.nodes k < length t.clocks)
  own_in = (let z = node_fits t v.sound k v.inside in omega arith, let z = own_room t v.sound k v.inside in let u = v.wide in omega (arith, row_in))

  pub already_done : (r : Bool) → r ≡ ltb 0 (get_or t.clocks (k * width + actor_at t.nodes k) 0) → r ≡ true → NodeCached t k marks t.clocks marks
  already_done r e y = record { clocks = already t width k marks v (ap (λ (x : ℕ). ltb 0 (get_or t.clocks (k * x + actor_at t.nodes k) 0)) (sym v.wide) ∙ sym e ∙ y); marks_back = refl }
