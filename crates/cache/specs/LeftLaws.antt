-- The loop of `cache_left_over`: the marked nodes below i are cached in turn, and what they bring is in row k.
-- Assumes nothing.
use Rattle.std.specs.Prelude.{◌≡◌, refl, Bool, ◌||◌, ℕ, suc, ◌+◌, ◌*◌, ◌≤◌, ◌<◌, max, eqb, ltb, length, set}
use Rattle.std.proofs.Common.{sym, ◌∙◌, subst, ⊎_elim, add-one, arith, length-set, get_or-set_same, get_or-set_other}
use Rattle.std.proofs.Math.Path.{ap}
use Rattle.std.proofs.Math.Bool.{true, false, cond, or-false}
use mathlib.Core.List.{List, [], ◌∷◌, ◌++◌}
use Rattle.std.proofs.Math.ListN.{get_or}
use borrow.Author.Tests.{eqb-true, eqb-false, lt-ltb}
use Rattle.paper.specs.Lists.{mem, pick}
use Rattle.paper.specs.Graph.{clock, ValidGraph as ValidGraph}
use Rattle.paper.specs.ProofWords.{front}
use Rattle.paper.specs.Caching.{in_turn, cached_to, cached_after}
use Rattle.paper.proofs.Bools.{by_bool, to_false, below_or_not, mem_single, mem_here}
use Rattle.paper.proofs.Walk.{front_ext, front_mark}
use Rattle.paper.proofs.Cached.{in_turn_snoc, cached_above, after_here, after_to}
use Rattle.tables.specs.Tables.{Tables, changes, actor_room, graph}
use Rattle.tables.specs.DepsLaws.{valid_graph}
use Rattle.walk.specs.Marks.{marked}
use Rattle.walk.specs.Rows.{cached, RowsRight}
use Rattle.walk.specs.RowLaws.{row_fits}
use Rattle.walk.specs.WalkLaws.{front_none}
use Rattle.cache.specs.Cache.{RowsTo, Cachable, Halfway, LeftCached, RowMerged, with_clocks}
use Rattle.cache.specs.RowLaws.{rows_apart, row_end, same_width, sound_with, cached_with, right_with}

-- the set of the cached nodes once the marked nodes below i are cached in turn
abbrev pub turned : Tables → ℕ → List ℕ → ℕ → ℕ → Bool
turned t k marks i = in_turn (cached_to (graph t) k) (cached t) (pick (marked marks) i)

pub record Caching (t : Tables) (k : ℕ) (marks₀ cs marks : List ℕ) (i : ℕ) : Type 0 where
  pub inside : i ≤ k
  pub long : length cs ≡ length t.clocks
  pub rows : (j a : ℕ) → j < k → a < actor_room t → get_or cs (j * actor_room t + a) 0 ≡ cond (turned t k marks₀ i j) (clock (graph t) (j ∷ []) a) 0
  pub half : (a : ℕ) → a < actor_room t → max (get_or cs (k * actor_room t + a) 0) (front (graph t) (marked marks) k a) ≡ clock (graph t) (k ∷ []) a
  pub past : (x : ℕ) → k * actor_room t + actor_room t ≤ x → get_or cs x 0 ≡ get_or t.clocks x 0
  pub marks_long : length marks ≡ length marks₀
  pub low : (j : ℕ) → j < i → get_or marks j 0 ≡ 0
  pub high : (j : ℕ) → i ≤ j → get_or marks j 0 ≡ get_or marks₀ j 0

module _ (t : Tables) (width k : ℕ) (marks₀ : List ℕ) (h : Halfway t width k marks₀) where
  valid : ValidGraph (graph t)
  valid = valid_graph t h.sound

  pub caching_start : Caching t k marks₀ t.clocks marks₀ 0
  unfolding RowsRight pick in_turn
  caching_start = record {
    inside = omega arith;
    long = refl;
    rows = λ j a l b. h.rows j l a b;
    half = h.half;
    past = λ x l. refl;
    marks_long = refl;
    low = λ j l. absurd (omega arith);
    high = λ j l. refl;
  }

  module _ (cs marks : List ℕ) (i : ℕ) (v : Caching t k marks₀ cs marks i) where
    pub caching_skip : i < k → get_or marks i 0 ≡ 0 → Caching t k marks₀ cs marks (i + 1)
    unfolding pick
    caching_skip l z =
        let off : marked marks₀ i ≡ false = ap (ltb 0) (sym (v.high i (omega arith)) ∙ z) in
        let e : pick (marked marks₀) (i + 1) ≡ pick (marked marks₀) i = ap (pick (marked marks₀)) (add-one i) ∙ rw off in
        record {
          inside = omega arith;
          long = v.long;
          rows = λ j a b c. v.rows j a b c ∙ ap (λ (xs : List ℕ). cond (in_turn (cached_to (graph t) k) (cached t) xs j) (clock (graph t) (j ∷ []) a) 0) (sym e);
          half = v.half;
          past = v.past;
          marks_long = v.marks_long;
          low = λ j b. by_bool (eqb j i) (λ y. ap (λ (x : ℕ). get_or marks x 0) (eqb-true j i y) ∙ z) (λ y. let q = eqb-false j i y in v.low j (omega arith));
          high = λ j b. v.high j (omega arith);
        }

    pub caching_end : k ≤ i → LeftCached t k marks₀ cs marks
    caching_end l =
        let e : i ≡ k = (let z = v.inside in omega arith) in
        record {
          clocks = record {
            long = v.long;
            rows = λ j a b c.
                by_bool (eqb j k)
                (λ y.
                let q = eqb-true j k y in
                let f = front_none (graph t) valid (marked marks) k a (λ x u. ap (ltb 0) (v.low x (omega arith))) in
                let r = v.half a c in
                let m : get_or cs (k * actor_room t + a) 0 ≡ clock (graph t) (k ∷ []) a = omega arith in
                rw (y, q) m)
                (λ y. let q = eqb-false j k y in rw y (v.rows j a (omega arith) c ∙ ap (λ (x : ℕ). cond (turned t k marks₀ x j) (clock (graph t) (j ∷ []) a) 0) e));
            past = λ x b. v.past x (let z = row_end k (actor_room t) in omega arith);
          };
          marks_long = v.marks_long;
          low = λ j b. v.low j (omega arith);
          high = λ j b. v.high j (omega arith);
        }

    module _ (l : i < k) (is-marked : 0 < get_or marks i 0) where
      known : (j : ℕ) → j < k → j < changes t
      known j b = let z = h.inside in omega arith

      now_cached : (j : ℕ) → j < k → cached (with_clocks t cs) j ≡ turned t k marks₀ i j
      now_cached j b = cached_with t h.sound cs v.long j (known j b) (turned t k marks₀ i j) (λ a c. v.rows j a b c)

      -- the marked node i can be cached: nothing up to it is marked once its own mark is gone
      pub next_cachable : Cachable (with_clocks t cs) width i (set marks i 0)
      next_cachable = record {
        sound = sound_with t h.sound cs v.long;
        wide = h.wide ∙ sym (same_width t h.sound cs v.long);
        inside = known i l;
        rows = λ j b. right_with t h.sound cs v.long j (known j (omega arith)) (turned t k marks₀ i j) (λ a c. v.rows j a (omega arith) c);
        room = rw (length-set marks i 0) (let r = h.room in let z = v.marks_long in omega arith);
        clean = λ j b.
            by_bool (eqb j i) (λ y. let q = eqb-true j i y in rw q (get_or-set_same marks i 0 0 (let r = h.room in let z = v.marks_long in omega arith)))
            (λ y. let q = eqb-false j i y in get_or-set_other marks i j 0 0 q ∙ v.low j (omega arith));
      }

      -- it is cached, and its row is merged into row k
      module _ (cs₁ cs₂ : List ℕ) (c : RowsTo (with_clocks t cs) (cached_after (graph t) (cached (with_clocks t cs)) i) (suc i) cs₁) (m : RowMerged (i * width) (k * width) width cs₁ cs₂) where
        w : ℕ
        w = actor_room t

        wide : actor_room (with_clocks t cs) ≡ actor_room t
        wide = same_width t h.sound cs v.long

        apart : i * actor_room t + actor_room t ≤ k * actor_room t
        apart = rows_apart i k (actor_room t) l

        at_row : (j : ℕ) → j * width ≡ j * actor_room t
        at_row j = ap (λ (x : ℕ). j * x) h.wide

        -- rows up to i after the caching, and past them
        row₁ : (j a : ℕ) → j < suc i → a < actor_room t → get_or cs₁ (j * actor_room t + a) 0 ≡ cond (cached_after (graph t) (cached (with_clocks t cs)) i j) (clock (graph t) (j ∷ []) a) 0
        row₁ j a b e = ap (λ (x : ℕ). get_or cs₁ (j * x + a) 0) (sym wide) ∙ c.rows j a b (rw wide e)

        past₁ : (x : ℕ) → i * actor_room t + actor_room t ≤ x → get_or cs₁ x 0 ≡ get_or cs x 0
        past₁ x b = c.past x (rw wide (let z = row_end i (actor_room t) in omega arith))

        set_now : turned t k marks₀ (i + 1) ≡ cached_to (graph t) k (turned t k marks₀ i) i
        unfolding pick
        set_now =
            let on : marked marks₀ i ≡ true = lt-ltb 0 (get_or marks₀ i 0) (let z = v.high i (omega arith) in omega arith) in
            let e : pick (marked marks₀) (i + 1) ≡ pick (marked marks₀) i ++ (i ∷ []) = ap (pick (marked marks₀)) (add-one i) ∙ rw on in
            ap (in_turn (cached_to (graph t) k) (cached t)) e ∙ in_turn_snoc (cached_to (graph t) k) (cached t) (pick (marked marks₀) i) i

        low_set : (j : ℕ) → j < suc i → cached_after (graph t) (cached (with_clocks t cs)) i j ≡ turned t k marks₀ (i + 1) j
        low_set j b = after_to (graph t) k (cached (with_clocks t cs)) (turned t k marks₀ i) i l (λ x y. now_cached x (omega arith)) j b ∙ ap (λ (f : ℕ → Bool). f j) (sym set_now)

        high_set : (j : ℕ) → i < j → turned t k marks₀ i j ≡ turned t k marks₀ (i + 1) j
        high_set j b = sym (cached_above (graph t) k (turned t k marks₀ i) i j b) ∙ ap (λ (f : ℕ → Bool). f j) (sym set_now)

        new_row : (j a : ℕ) → j < k → a < actor_room t → get_or cs₂ (j * actor_room t + a) 0 ≡ cond (turned t k marks₀ (i + 1) j) (clock (graph t) (j ∷ []) a) 0
        new_row j a b e =
            let r = rows_apart j k (actor_room t) b in
            let q = at_row k in
            m.before (j * actor_room t + a) (omega arith)
            ∙ ⊎_elim (λ y. row₁ j a y e ∙ ap (λ (x : Bool). cond x (clock (graph t) (j ∷ []) a) 0) (low_set j y))
            (λ y. past₁ (j * actor_room t + a) (let z = rows_apart i j (actor_room t) y in omega arith) ∙ v.rows j a b e ∙ ap (λ (x : Bool). cond x (clock (graph t) (j ∷ []) a) 0) (high_set j y))
            (below_or_not j (suc i))

        new_half : (a : ℕ) → a < actor_room t → max (get_or cs₂ (k * actor_room t + a) 0) (front (graph t) (marked (set marks i 0)) k a) ≡ clock (graph t) (k ∷ []) a
        new_half a b =
            let in_marks : i < length marks = (let r = h.room in let z = v.marks_long in omega arith) in
            let r : get_or cs₂ (k * actor_room t + a) 0 ≡ max (get_or cs₁ (k * actor_room t + a) 0) (get_or cs₁ (i * actor_room t + a) 0) =
            ap (λ (x : ℕ). get_or cs₂ (x + a) 0) (sym (at_row k)) ∙ m.row a (let z = h.wide in omega arith)
            ∙ ap (λ (x : ℕ). max (get_or cs₁ (x + a) 0) (get_or cs₁ (i * width + a) 0)) (at_row k) ∙ ap (λ (x : ℕ). max (get_or cs₁ (k * actor_room t + a) 0) (get_or cs₁ (x + a) 0)) (at_row i) in
            let p = past₁ (k * actor_room t + a) (omega (arith, apart)) in
            let n : get_or cs₁ (i * actor_room t + a) 0 ≡ clock (graph t) (i ∷ []) a = row₁ i a (omega arith) b ∙ ap (λ (x : Bool). cond x (clock (graph t) (i ∷ []) a) 0) (after_here (graph t) (cached (with_clocks t cs)) i) in
            let f = front_mark (graph t) valid (marked (set marks i 0)) (i ∷ []) k a (let z = h.inside in omega arith) (λ x y. let u = mem_single x i y in omega arith) in
            let g =
            front_ext (graph t) valid (λ j. marked (set marks i 0) j || mem j (i ∷ [])) (marked marks) k a
            (λ j y.
            by_bool (eqb j i)
            (λ z.
            let q = eqb-true j i z in
            rw (q, get_or-set_same marks i 0 0 in_marks) (mem_here i [] ∙ sym (lt-ltb 0 (get_or marks i 0) is-marked)))
            (λ z.
            let q = eqb-false j i z in
            let none : mem j (i ∷ []) ≡ false = to_false _ (λ u. q (mem_single j i u)) in
            rw (get_or-set_other marks i j 0 0 q, none) (or-false (marked marks j)))) in
            let o = v.half a b in
            omega arith

        pub caching_next : Caching t k marks₀ cs₂ (set marks i 0) (i + 1)
        caching_next = record {
          inside = omega arith;
          long = m.long ∙ c.long ∙ v.long;
          rows = new_row;
          half = new_half;
          past = λ x b.
              let q = at_row k in
              let u = h.wide in
              m.past x (omega arith) ∙ past₁ x (omega (arith, apart)) ∙ v.past x b;
          marks_long = length-set marks i 0 ∙ v.marks_long;
          low = λ j b.
              by_bool (eqb j i) (λ y. let q = eqb-true j i y in rw q (get_or-set_same marks i 0 0 (let r = h.room in let z = v.marks_long in omega arith)))
              (λ y. let q = eqb-false j i y in get_or-set_other marks i j 0 0 q ∙ v.low j (omega arith));
          high = λ j b. get_or-set_other marks i j 0 0 (λ y. omega arith) ∙ v.high j (omega arith);
        }

        pub caching_on : (marks' : List ℕ) → marks' ≡ set marks i 0 → Caching t k marks₀ cs₂ marks' (i + 1)
        caching_on marks' e = subst (λ (x : List ℕ). Caching t k marks₀ cs₂ x (i + 1)) (sym e) caching_next

      pub merge_fits : (cs₁ : List ℕ) (s : ℕ → Bool) (m : ℕ) → RowsTo (with_clocks t cs) s m cs₁ → (i * width + width ≤ k * width) × (k * width + width ≤ length cs₁)
      merge_fits cs₁ s m c = (
        rows_apart i k width l,
        let q : k * width ≡ k * actor_room t = ap (λ (x : ℕ). k * x) h.wide in
            let r = row_fits t h.sound k h.inside in
            let u = h.wide in
            let z = c.long ∙ v.long in
            omega arith,
      )
