-- An accepted load, in the paper's words: each of the columns' changes is accepted when its turn comes, so the graph has exactly the
-- changes that the columns list, in order, and the stated heads are its heads.
-- Assumes nothing.
use Rattle.std.specs.Prelude.{◌≡◌, true, false, take, drop}
use Rattle.std.proofs.Math.Path.{refl, ap, ap₂}
use Rattle.std.proofs.Common.{sym, ◌∙◌, length-take, length-drop, take_at, drop_at, drop-drop}
use mathlib.Core.List.{List, [], ◌∷◌, ◌++◌, map}
use Prim.Native.Nat.{ℕ, zero, suc, ◌+◌, ◌*◌, ◌/◌, ◌%◌, ◌≤◌, ◌<◌}
use native.Mathlib.Omega.{arith}
use Rattle.std.proofs.Math.Dec.{eqb}
use Rattle.std.proofs.Math.ListN.{length, get_or, length-map}
use borrow.Author.Tests.{eq-eqb, ne_eqb, lt-ltb, le-ltb, lt-leb}
use Rattle.paper.specs.Lists.{mem, sum_below, same_list, hash_at, hashes_from, hashes_of}
use Rattle.paper.specs.Numbers.{done}
use Rattle.paper.specs.Graph.{Graph, node, nodes}
use Rattle.paper.specs.ProofWords.{Extends}
use Rattle.paper.specs.Adding.{Hub, plain, judged, seq_for_actor, edges_used, first_unknown_place, put, grown}
use Rattle.paper.specs.Loading.{Columns, listed_changes, deps_before, deps_of_columns, column_graph, hashes_at, change_of_columns}
use Rattle.paper.proofs.Bools.{below_suc, or_left, or_right, tally_ext}
use Rattle.paper.proofs.First.{first_none, first_is}
use Rattle.paper.proofs.Scans.{sum_next, sum_more}
use Rattle.paper.proofs.Hashes.{same_refl}
use Rattle.paper.proofs.Loading.{Agreed}
use Rattle.hash.specs.HashLaws.{hash_length}
use Rattle.load.specs.LoadLaws.{at_long}

-- ---- the dependencies' hashes, read again

-- a list of hashes one byte list further on
from_later : (h rest : List ℕ) → length h ≡ 32 → (left i : ℕ) → hashes_from (h ++ rest) left (suc i) ≡ hashes_from rest left i
unfolding hashes_from hash_at
from_later h rest e zero i = refl
from_later h rest e (suc left) i =
    ap₂ (λ (x : List ℕ) (xs : List (List ℕ)). x ∷ xs)
    (let n : 32 * suc i ≡ 32 + 32 * i = omega arith in
    ap (λ (m : ℕ). take 32 (drop m (h ++ rest))) n
    ∙ ap (take 32) (sym (drop-drop (32 * i) 32 (h ++ rest)) ∙ ap (drop (32 * i)) (drop_at h rest 32 e)))
    (from_later h rest e left (suc i))

from_first : (h rest : List ℕ) → length h ≡ 32 → hash_at (h ++ rest) 0 ≡ h
unfolding hash_at
from_first h rest e = take_at h rest 32 e

from_hashes : (bytes js : List ℕ) → ((j : ℕ) → mem j js ≡ true → 32 * j + 32 ≤ length bytes) → hashes_from (hashes_at bytes js) (length js) 0 ≡ map (hash_at bytes) js
unfolding hashes_from hashes_at mem
from_hashes bytes [] h = refl
from_hashes bytes (j ∷ js) h =
    let e = hash_length bytes j (h j (or_left (eqb j j) (mem j js) (eq-eqb j j refl))) in
    ap₂ (λ (x : List ℕ) (xs : List (List ℕ)). x ∷ xs) (from_first (hash_at bytes j) (hashes_at bytes js) e)
    (from_later (hash_at bytes j) (hashes_at bytes js) e (length js) 0 ∙ from_hashes bytes js (λ k m. h k (or_right (eqb k j) (mem k js) m)))

hashes_back : (bytes js : List ℕ) → ((j : ℕ) → mem j js ≡ true → 32 * j + 32 ≤ length bytes) → hashes_of (hashes_at bytes js) ≡ map (hash_at bytes) js
unfolding hashes_of
hashes_back bytes js h =
    let l = at_long bytes js h in
    let e : length (hashes_at bytes js) / 32 ≡ length js = omega arith in
    ap (λ (n : ℕ). hashes_from (hashes_at bytes js) n 0) e ∙ from_hashes bytes js h

-- ---- sums

sum_le : (f g : ℕ → ℕ) (m : ℕ) → ((k : ℕ) → k < m → f k ≤ g k) → sum_below f m ≤ sum_below g m
unfolding sum_below
sum_le f g zero h = omega arith
sum_le f g (suc m) h = let ih = sum_le f g m (λ k l. h k (omega arith)) in let b = h m (omega arith) in omega arith

-- ---- change k of agreeing columns, on a graph that has the changes before it

module _ (c : Columns) (a : Agreed c) (g : Graph) (x : Extends g (column_graph c)) (l : g.size < listed_changes c) where
  inside : (j : ℕ) → mem j (deps_of_columns c g.size) ≡ true → 32 * j + 32 ≤ length c.hashes
  inside j m = let b = a.down g.size j l m in omega arith

  back : hashes_of (hashes_at c.hashes (deps_of_columns c g.size)) ≡ map (hash_at c.hashes) (deps_of_columns c g.size)
  back = hashes_back c.hashes (deps_of_columns c g.size) inside

  -- a hash of the graph is the column's
  hash_is : (j : ℕ) → j < g.size → g.hash j ≡ hash_at c.hashes j
  hash_is j b = sym (x.hashes j b)

  apart : (j k : ℕ) → j < k → k < listed_changes c → j < g.size → same_list (g.hash j) (hash_at c.hashes k) ≡ false
  apart j k b m n = ap (λ (h : List ℕ). same_list h (hash_at c.hashes k)) (hash_is j n) ∙ a.fresh k j m b

  -- it is new, and each of its dependencies is known
  new : node g (hash_at c.hashes g.size) ≡ g.size
  unfolding node
  new = first_none (λ k. same_list (g.hash k) (hash_at c.hashes g.size)) g.size (λ j b. apart j g.size b l b)

  known : (j : ℕ) → j < g.size → node g (hash_at c.hashes j) ≡ j
  unfolding node
  known j b =
      first_is (λ k. same_list (g.hash k) (hash_at c.hashes j)) g.size j b
      (ap (λ (h : List ℕ). same_list h (hash_at c.hashes j)) (hash_is j b) ∙ same_refl (hash_at c.hashes j))
      (λ i h. apart i j h (omega arith) (omega arith))

  all_known : (js : List ℕ) → ((j : ℕ) → mem j js ≡ true → j < g.size) → first_unknown_place g (map (hash_at c.hashes) js) ≡ length (map (hash_at c.hashes) js)
  unfolding first_unknown_place mem
  all_known [] h = refl
  all_known (j ∷ js) h =
      let b = h j (or_left (eqb j j) (mem j js) (eq-eqb j j refl)) in
      rw (known j b, lt-ltb j g.size b) (ap suc (all_known js (λ k m. h k (or_right (eqb k j) (mem k js) m))))

  their_nodes : (js : List ℕ) → ((j : ℕ) → mem j js ≡ true → j < g.size) → map (node g) (map (hash_at c.hashes) js) ≡ js
  unfolding mem
  their_nodes [] h = refl
  their_nodes (j ∷ js) h =
      ap₂ (λ (k : ℕ) (ks : List ℕ). k ∷ ks) (known j (h j (or_left (eqb j j) (mem j js) (eq-eqb j j refl)))) (their_nodes js (λ k m. h k (or_right (eqb k j) (mem k js) m)))

  deps_count : length (hashes_of (hashes_at c.hashes (deps_of_columns c g.size))) ≡ length (deps_of_columns c g.size)
  deps_count = ap length back ∙ length-map (deps_of_columns c g.size) (hash_at c.hashes)

  deps_most : (k : ℕ) → length (deps_of_columns c k) ≤ get_or c.dep_counts k 0
  deps_most k = simp (length-take, length-drop) (omega arith)

  -- its sequence is next
  next : get_or c.seqs g.size 0 ≡ suc (seq_for_actor g (get_or c.actors g.size 0))
  unfolding seq_for_actor
  next =
      a.runs g.size l
      ∙ ap suc (tally_ext (λ j. eqb (get_or c.actors j 0) (get_or c.actors g.size 0)) (λ j. eqb (g.actor j) (get_or c.actors g.size 0)) g.size
      (λ j b. ap (λ (n : ℕ). eqb n (get_or c.actors g.size 0)) (x.actors j b)))

  -- the edges so far, with its own
  edges_fit : edges_used g + length (deps_of_columns c g.size) ≤ deps_before c (listed_changes c)
  unfolding edges_used deps_before
  edges_fit =
      let s = sum_le (λ k. length (g.deps k)) (λ k. get_or c.dep_counts k 0) g.size (λ k b. let e = ap length (x.depss k b) in let m = deps_most k in omega arith) in
      let n = sum_next (λ j. get_or c.dep_counts j 0) g.size in
      let m = sum_more (λ j. get_or c.dep_counts j 0) (g.size + 1) (listed_changes c) (omega arith) in
      let d = deps_most g.size in
      omega arith

-- ---- one change more

-- a column that has the old values below n and v there
column {ℓ} : {A : Type ℓ} (n : ℕ) (v : A) (f f' : ℕ → A) → ((k : ℕ) → k < n → f' k ≡ f k) → f' n ≡ v → (k : ℕ) → k < suc n → f' k ≡ put n v f k
column n v f f' old this k b =
    below_suc (λ (j : ℕ). f' j ≡ put n v f j) n k b (λ h. rw (ne_eqb k n (λ y. omega arith)) (old k h)) (rw (eq-eqb n n refl) this)

module _ (c : Columns) (a : Agreed c) (u : Hub) (x : Extends u.graph (column_graph c)) (l : u.graph.size < listed_changes c) where
  -- it is accepted
  pub accepted : u.actors ≡ c.actor_count → listed_changes c ≤ u.change_room → deps_before c (listed_changes c) ≤ u.edge_room → judged u (change_of_columns c u.graph.size) ≡ plain done
  unfolding judged
  accepted w n e =
      let g = u.graph in
      let js = deps_of_columns c g.size in
      let m = map (hash_at c.hashes) js in
      let long : length m ≡ length js = length-map js (hash_at c.hashes) in
      let bytes = at_long c.hashes js (inside c a g x l) in
      let most = deps_most c a g x l g.size in
      let few = a.few g.size l in
      let low = a.actor_low g.size l in
      let fit = edges_fit c a g x l in
      rw (
        eq-eqb (length (hash_at c.hashes g.size)) 32 (hash_length c.hashes g.size (omega arith)),
        eq-eqb (length (hashes_at c.hashes js) % 32) 0 (omega arith),
        new c a g x l,
        le-ltb g.size g.size (omega arith),
        back c a g x l,
        all_known c a g x l js (λ j b. a.down g.size j l b),
        le-ltb (length m) (length m) (omega arith),
        lt-leb u.actors (get_or c.actors g.size 0) (omega arith),
        eq-eqb (get_or c.seqs g.size 0) (suc (seq_for_actor g (get_or c.actors g.size 0))) (next c a g x l),
        le-ltb 4294967295 (get_or c.max_ops g.size 0) (a.max_op_low g.size l),
        le-ltb (get_or c.max_ops g.size 0) (get_or c.op_counts g.size 0) (a.ops_low g.size l),
        le-ltb 32 (length m) (omega arith),
        lt-leb u.change_room g.size (omega arith),
        le-ltb u.edge_room (edges_used g + length m) (omega arith),
      )

  -- and the graph then has the changes up to it
  pub extended : Extends (grown u.graph (change_of_columns c u.graph.size)) (column_graph c)
  unfolding grown nodes
  extended =
      let g = u.graph in
      record {
        longer = l;
        hashes = column g.size (hash_at c.hashes g.size) g.hash (λ k. hash_at c.hashes k) x.hashes refl;
        max_ops = column g.size (get_or c.max_ops g.size 0) g.max_op (λ k. get_or c.max_ops k 0) x.max_ops refl;
        op_counts = column g.size (get_or c.op_counts g.size 0) g.ops (λ k. get_or c.op_counts k 0) x.op_counts refl;
        actors = column g.size (get_or c.actors g.size 0) g.actor (λ k. get_or c.actors k 0) x.actors refl;
        seqs = column g.size (get_or c.seqs g.size 0) g.seq (λ k. get_or c.seqs k 0) x.seqs refl;
        depss =
            column g.size (map (node g) (hashes_of (hashes_at c.hashes (deps_of_columns c g.size)))) g.deps (λ k. deps_of_columns c k) x.depss
            (sym (ap (map (node g)) (back c a g x l) ∙ their_nodes c a g x l (deps_of_columns c g.size) (λ j b. a.down g.size j l b)));
      }
