-- The check of the cached rows, in node order: each row by a walk that uses the rows below.
-- Assumes nothing.
use Rattle.std.specs.Prelude.{◌≡◌, refl, ◌↔◌, Bool, ◌||◌, ℕ, ◌+◌, ◌*◌, ◌≤◌, ◌<◌, set, drop, take, replicate}
use Rattle.std.proofs.Math.Path.{sym, ap}
use Rattle.std.proofs.Common.{◌∙◌, subst, ⊎_elim, mul-le-mul_right, length-set, ext_get_or, length-take-le}
use Rattle.std.proofs.Math.Bool.{true, false, cond}
use mathlib.Core.List.{List, [], ◌∷◌, ◌++◌}
use native.Mathlib.Omega.{arith}
use Rattle.std.proofs.Math.Dec.{ltb}
use Rattle.std.proofs.Math.ListN.{length, get_or, length-append, length-drop, length-replicate, get_or-append}
use Rattle.list_laws.specs.Iff.{same_answer, Below}
use Rattle.paper.specs.Lists.{mem, each_below}
use Rattle.paper.specs.Graph.{clock, ValidGraph as ValidGraph}
use Rattle.paper.proofs.Bools.{to_false, below_or_not}
use Rattle.paper.proofs.Clock.{clock_node}
use Rattle.paper.proofs.Walk.{front_ext, front_mark}
use Rattle.paper.proofs.Each.{to_each, length_each, get_d_each}
use Rattle.tables.specs.Tables.{Tables, changes, actor_room, actor_at, seq_at, first_at, along, graph}
use Rattle.tables.specs.Valid.{Sound, Valid}
use Rattle.tables.specs.DepsLaws.{valid_graph}
use Rattle.walk.specs.Marks.{marked, MarkedBy}
use Rattle.walk.specs.MarkLaws.{marked_by}
use Rattle.walk.specs.Rows.{cached, RowsRight, Walkable}
use Rattle.walk.specs.RowLaws.{row_fits, node_fits, actor_low, rows_right, right_rows}
use Rattle.walk.specs.Walk.{WalkDone}
use Rattle.walk.specs.WalkLaws.{front_none, included, all_clean, all_walked}
use Rattle.walk.specs.Whole.{cleared}
use Rattle.cache.specs.Cache.{forgotten, Checkable, NodeClocked, RowIs, with_clocks}
use Rattle.cache.specs.RowLaws.{rows_apart, sound_with, cached_with, right_with}

module _ (t : Tables) (width n k : ℕ) (marks : List ℕ) (v : Checkable t width n k marks) where
  valid : ValidGraph (graph t)
  valid = valid_graph t v.walkable.sound

  pub check_node : 6 * k + 6 ≤ length t.nodes
  check_node = node_fits t v.walkable.sound k v.known

  pub check_actor : actor_at t.nodes k < n
  check_actor = let a = actor_low t v.walkable.sound k v.known in let b = v.walkable.enough in omega arith

  pub check_row : k * width + n ≤ length t.clocks
  check_row =
      let e : k * width ≡ k * actor_room t = ap (λ (x : ℕ). k * x) v.walkable.wide in
      let r = row_fits t v.walkable.sound k v.known in
      let z = v.walkable.narrow in
      omega arith

  pub check_walkable : (m : ℕ) → m ≡ n → Walkable t width m k
  check_walkable m e = subst (λ (x : ℕ). Walkable t width x k) (sym e) v.walkable

  pub check_own : (6 * k < length t.nodes) × (k * width + actor_at t.nodes k < length t.clocks)
  check_own = (omega (arith, check_node), omega (arith, check_actor, check_row))

  -- node k's own sequence, and a walk from its dependencies
  pub node_clocked : (clock₀ marks₁ clock' marks' : List ℕ) → clock₀ ≡ replicate n 0 → MarkedBy (along t.targets t.nexts (first_at t.nodes k)) marks marks₁ → WalkDone t k k (set clock₀ (actor_at t.nodes k) (seq_at t.nodes k)) marks₁ clock' marks' → NodeClocked t k n marks clock' marks'
  node_clocked clock₀ marks₁ clock' marks' z m w =
      let d = along t.targets t.nexts (first_at t.nodes k) in
      let l₀ : length clock₀ ≡ n = ap length z ∙ length-replicate {A = ℕ} n 0 in
      let l₁ : length (set clock₀ (actor_at t.nodes k) (seq_at t.nodes k)) ≡ n = length-set clock₀ (actor_at t.nodes k) (seq_at t.nodes k) ∙ l₀ in
      let zero₀ : (a : ℕ) → get_or clock₀ a 0 ≡ 0 = λ a. ap (λ (x : List ℕ). get_or x a 0) z ∙ cleared n a in
      record {
        clock_is =
            to_each (clock (graph t) (k ∷ [])) n clock' (w.long ∙ l₁)
            (λ a h.
            let x = all_walked t v.walkable.sound k k (set clock₀ (actor_at t.nodes k) (seq_at t.nodes k)) marks₁ clock' marks' w (omega arith) a (omega arith) in
            let i = included (graph t) k clock₀ (seq_at t.nodes k) (let y = zero₀ (actor_at t.nodes k) in omega arith) (omega (arith, check_actor)) a in
            let y = zero₀ a in
            let f =
            front_ext (graph t) valid (marked marks₁) (λ j. false || mem j ((graph t).deps k)) k a
            (λ j b. marked_by d marks marks₁ m j ∙ ap (λ (u : ℕ). ltb 0 u || mem j d) (v.clean j)) in
            let g = front_mark (graph t) valid (λ j. false) ((graph t).deps k) k a (let c = v.known in omega arith) (λ j e. valid.down k j v.known e) in
            let e = front_none (graph t) valid (λ j. false) k a (λ j b. refl) in
            let c = clock_node (graph t) valid k v.known a in
            omega arith);
        marks_back =
            ext_get_or 0 marks' marks (w.marks_long ∙ m.long)
            (λ j b.
            ⊎_elim (λ low. all_clean t v.walkable.sound k k (set clock₀ (actor_at t.nodes k) (seq_at t.nodes k)) marks₁ clock' marks' w (omega arith) j low ∙ sym (v.clean j))
            (λ high.
            let none : mem j d ≡ false = to_false _ (λ e. let q = valid.down k j v.known e in omega arith) in
            w.past j high ∙ m.each j ∙ ap (λ (u : Bool). cond u 1 (get_or marks j 0)) none)
            (below_or_not j k));
      }

  -- a row that is cached is right exactly if it is the clock
  pub right_cached : (r : Bool) (clock' : List ℕ) → width ≡ n → ltb 0 (get_or t.clocks (k * width + actor_at t.nodes k) 0) ≡ true → clock' ≡ each_below (clock (graph t) (k ∷ [])) n → (r ≡ true) ↔ RowIs t.clocks (k * width) clock' → (r ≡ true) ↔ RowsRight t k
  unfolding RowsRight RowIs
  right_cached r clock' full y e i =
      let on : cached t k ≡ true = ap (λ (x : ℕ). ltb 0 (get_or t.clocks (k * x + actor_at t.nodes k) 0)) (sym v.walkable.wide) ∙ y in
      let l : length clock' ≡ n = ap length e ∙ length_each (clock (graph t) (k ∷ [])) n in
      let w = v.walkable.wide in
      let at : (a : ℕ) → a < actor_room t → get_or clock' a 0 ≡ clock (graph t) (k ∷ []) a = λ a h. ap (λ (x : List ℕ). get_or x a 0) e ∙ get_d_each (clock (graph t) (k ∷ [])) n a (omega arith) in
      same_answer i
      (λ p a h. ap (λ (x : ℕ). get_or t.clocks (k * x + a) 0) (sym w) ∙ p a (omega arith) ∙ at a h ∙ ap (λ (b : Bool). cond b (clock (graph t) (k ∷ []) a) 0) (sym on))
      (λ p a h. ap (λ (x : ℕ). get_or t.clocks (k * x + a) 0) w ∙ p a (omega arith) ∙ ap (λ (b : Bool). cond b (clock (graph t) (k ∷ []) a) 0) on ∙ sym (at a (omega arith)))

  -- one that is not is right exactly if it is all 0
  pub right_bare : (r : Bool) (clock' : List ℕ) → width ≡ n → ltb 0 (get_or t.clocks (k * width + actor_at t.nodes k) 0) ≡ false → clock' ≡ replicate n 0 → (r ≡ true) ↔ RowIs t.clocks (k * width) clock' → (r ≡ true) ↔ RowsRight t k
  unfolding RowsRight RowIs
  right_bare r clock' full y e i =
      let off : cached t k ≡ false = ap (λ (x : ℕ). ltb 0 (get_or t.clocks (k * x + actor_at t.nodes k) 0)) (sym v.walkable.wide) ∙ y in
      let l : length clock' ≡ n = ap length e ∙ length-replicate {A = ℕ} n 0 in
      let w = v.walkable.wide in
      let at : (a : ℕ) → get_or clock' a 0 ≡ 0 = λ a. ap (λ (x : List ℕ). get_or x a 0) e ∙ cleared n a in
      same_answer i
      (λ p a h. ap (λ (x : ℕ). get_or t.clocks (k * x + a) 0) (sym w) ∙ p a (omega arith) ∙ at a ∙ ap (λ (b : Bool). cond b (clock (graph t) (k ∷ []) a) 0) (sym off))
      (λ p a h. ap (λ (x : ℕ). get_or t.clocks (k * x + a) 0) w ∙ p a (omega arith) ∙ ap (λ (b : Bool). cond b (clock (graph t) (k ∷ []) a) 0) off ∙ sym (at a))

-- ---- all rows in turn

-- row k can be checked where the rows below it are right
pub checkable : (t : Tables) (width n k : ℕ) (marks : List ℕ) → Sound t → width ≡ actor_room t → n ≡ width → k < changes t → changes t ≤ length marks → ((j : ℕ) → get_or marks j 0 ≡ 0) → Below (RowsRight t) k → Checkable t width n k marks
checkable t width n k marks s w e l r z b = record {
  walkable = record {
    sound = s;
    wide = w;
    enough = let a = s.counts.actors_fit in omega arith;
    narrow = omega arith;
    inside = omega arith;
    rows = b.all;
  };
  full = sym e;
  known = l;
  room = omega arith;
  clean = z;
}

-- sound tables whose rows are right are valid
pub valid_rows : (t : Tables) (r : Bool) → Sound t → (r ≡ true) ↔ ((k : ℕ) → k < changes t → RowsRight t k) → (r ≡ true) ↔ Valid t
valid_rows t r s i = same_answer i (λ p. record { sound = s; rows = right_rows t s p }) (λ v. rows_right t v)

-- ---- throwing the cached clocks away

pub forgotten_fits : (t : Tables) → Sound t → changes t * actor_room t ≤ length t.clocks
forgotten_fits t s = let m = mul-le-mul_right (actor_room t) s.counts.changes_fit in let z = s.lengths.clocks_whole in omega arith

pub forgotten_is : (t : Tables) (s : Sound t) (front₀ : List ℕ) (e : ℕ) → e ≡ changes t * actor_room t → front₀ ≡ replicate (length (take e t.clocks)) 0 → front₀ ++ drop e t.clocks ≡ forgotten t
unfolding forgotten
forgotten_is t s front₀ e q p =
    let l : length (take e t.clocks) ≡ e = length-take-le e t.clocks (let z = forgotten_fits t s in omega arith) in
    p' l
  where
    p' : length (take e t.clocks) ≡ e → front₀ ++ drop e t.clocks ≡ replicate (changes t * actor_room t) 0 ++ drop (changes t * actor_room t) t.clocks
    p' l = ap (λ (x : List ℕ). x ++ drop e t.clocks) (p ∙ ap (λ (x : ℕ). replicate x 0) l) ∙ ap (λ (x : ℕ). replicate x 0 ++ drop x t.clocks) q

module _ (t : Tables) (s : Sound t) where
  pub forgotten_long : length (forgotten t) ≡ length t.clocks
  unfolding forgotten
  forgotten_long =
      let f = forgotten_fits t s in
      let a = length-append (replicate {A = ℕ} (changes t * actor_room t) 0) (drop (changes t * actor_room t) t.clocks) in
      let b = length-replicate {A = ℕ} (changes t * actor_room t) 0 in
      let c = length-drop (changes t * actor_room t) t.clocks in
      omega arith

  forgotten_row : (k : ℕ) → k < changes t → (a : ℕ) → a < actor_room t → get_or (forgotten t) (k * actor_room t + a) 0 ≡ 0
  unfolding forgotten
  forgotten_row k l a h =
      let r = rows_apart k (changes t) (actor_room t) l in
      get_or-append (replicate (changes t * actor_room t) 0) (drop (changes t * actor_room t) t.clocks) 0 (k * actor_room t + a) (let b = length-replicate {A = ℕ} (changes t * actor_room t) 0 in omega arith)
      ∙ cleared (changes t * actor_room t) (k * actor_room t + a)

  -- sound tables with the cached clocks thrown away are valid
  pub forgotten_valid : Valid (with_clocks t (forgotten t))
  forgotten_valid =
      let u = sound_with t s (forgotten t) forgotten_long in
      record { sound = u; rows = right_rows (with_clocks t (forgotten t)) u (λ k l. right_with t s (forgotten t) forgotten_long k l false (forgotten_row k l)) }

  -- and no node is cached
  pub forgotten_none : (k : ℕ) → k < changes t → cached (with_clocks t (forgotten t)) k ≡ false
  forgotten_none k l = cached_with t s (forgotten t) forgotten_long k l false (forgotten_row k l)
