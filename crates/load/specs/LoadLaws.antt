-- The steps of filling the tables: the dependencies' hashes one after the other, and the changes added one after the other.
-- Assumes nothing.
use Rattle.std.specs.Prelude.{◌≡◌, refl, true, ℕ, ◌+◌, ◌-◌, ◌*◌, ◌≤◌, ◌<◌, eqb, length, take, drop}
use Rattle.std.proofs.Math.Path.{sym, ap}
use Rattle.std.proofs.Common.{ap₂, subst, ◌∙◌, add-one, length-append, length-take, length-drop, take-append-drop, take-suc, take_at, drop_at, drop-drop, length-take-le, eq-eqb}
use mathlib.Core.List.{List, [], ◌∷◌, ◌++◌, append_assoc, append-nil}
use native.Mathlib.Omega.{arith}
use Rattle.std.proofs.Math.ListN.{get_or}
use Rattle.std.proofs.Math.Seq.{paste, take-length}
use Rattle.paper.specs.Lists.{mem, hash_at, sum_below, each_below}
use Rattle.paper.specs.Adding.{Change}
use Rattle.paper.specs.Loading.{Columns, listed_changes, deps_before, deps_of_columns, hashes_at, change_of_columns, changes_of}
use Rattle.paper.proofs.Bools.{or_left, or_right, mem_get_d, mem_append}
use Rattle.paper.proofs.Scans.{sum_next, sum_more}
use Rattle.hash.specs.HashLaws.{hash_length}
use Rattle.tables.specs.Tables.{Tables}
use Rattle.tables.specs.Valid.{Valid}
use Rattle.graph.specs.Place.{added_tables, adds}
use Rattle.graph.specs.Life.{adds_valid}
use Rattle.load.specs.Load.{Inside, Fillable}

-- ---- the hashes of nodes

pub at_append : (bytes js ks : List ℕ) → hashes_at bytes (js ++ ks) ≡ hashes_at bytes js ++ hashes_at bytes ks
unfolding hashes_at
at_append bytes [] ks = refl
at_append bytes (j ∷ js) ks = ap (λ (l : List ℕ). hash_at bytes j ++ l) (at_append bytes js ks) ∙ sym (append_assoc (hash_at bytes j) (hashes_at bytes js) (hashes_at bytes ks))

pub at_long : (bytes js : List ℕ) → ((j : ℕ) → mem j js ≡ true → 32 * j + 32 ≤ length bytes) → length (hashes_at bytes js) ≡ 32 * length js
unfolding hashes_at mem
at_long bytes [] h = refl
at_long bytes (j ∷ js) h =
    let ih = at_long bytes js (λ k m. h k (or_right (eqb k j) (mem k js) m)) in
    let one = hash_length bytes j (h j (or_left (eqb j j) (mem j js) (eq-eqb j j refl))) in
    simp length-append (omega arith)

-- what is in the first part of a list is in the list
mem_take : (i j : ℕ) (s : List ℕ) → mem j (take i s) ≡ true → mem j s ≡ true
mem_take i j s m = ap (mem j) (sym (take-append-drop i s)) ∙ mem_append j (take i s) (drop i s) ∙ or_left (mem j (take i s)) (mem j (drop i s)) m

at_single : (bytes : List ℕ) (j : ℕ) → hashes_at bytes (j ∷ []) ≡ hash_at bytes j
unfolding hashes_at
at_single bytes j = append-nil (hash_at bytes j)

-- ---- a buffer that the hashes of the first i nodes are written to

pub record Put (ids deps out₀ : List ℕ) (i : ℕ) (out : List ℕ) : Type 0 where
  pub low : i ≤ length deps
  pub same : out ≡ hashes_at ids (take i deps) ++ drop (32 * i) out₀
  pub long : length out ≡ length out₀

pub put_start : (ids deps out : List ℕ) → Put ids deps out 0 out
unfolding hashes_at
put_start ids deps out = record { low = omega arith; same = refl; long = refl }

-- hash i fits
pub dep_inside : {ids deps : List ℕ} → Inside ids deps → (i : ℕ) → i < length deps → 32 * get_or deps i 0 + 32 ≤ length ids
dep_inside {ids} {deps} ins i l = ins.each (get_or deps i 0) (mem_get_d deps i l)

module _ {ids deps out₀ : List ℕ} (ins : Inside ids deps) (room : 32 * length deps ≤ length out₀) where
  pub put_next : {i : ℕ} {out h out' : List ℕ} → Put ids deps out₀ i out → i < length deps → h ≡ hash_at ids (get_or deps i 0) → out' ≡ paste out (32 * i) h (length h) → Put ids deps out₀ (i + 1) out'
  put_next {i} {out} {h} {out'} p l e q =
      let d = get_or deps i 0 in
      let hash = hash_at ids d in
      let done = hashes_at ids (take i deps) in
      let rest = drop (32 * i) out₀ in
      let la : length done ≡ 32 * i = at_long ids (take i deps) (λ j m. ins.each j (mem_take i j deps m)) ∙ ap (λ (n : ℕ). 32 * n) (length-take-le i deps (omega arith)) in
      let lh : length hash ≡ 32 = hash_length ids d (dep_inside ins i l) in
      let front : take (32 * i) out ++ take (length hash) hash ≡ done ++ hash = ap₂ (λ (x y : List ℕ). x ++ y) (ap (take (32 * i)) p.same ∙ take_at done rest (32 * i) la) (take-length hash) in
      let back : drop (32 * i + length hash) out ≡ drop (32 * i + length hash) out₀ =
      ap (drop (32 * i + length hash)) p.same
      ∙ sym (drop-drop (length hash) (32 * i) (done ++ rest))
      ∙ ap (drop (length hash)) (drop_at done rest (32 * i) la)
      ∙ drop-drop (length hash) (32 * i) out₀
      in
      let one : out' ≡ (done ++ hash) ++ drop (32 * i + length hash) out₀ = q ∙ ap (λ (x : List ℕ). paste out (32 * i) x (length x)) e ∙ ap₂ (λ (x y : List ℕ). x ++ y) front back in
      let list : hashes_at ids (take (i + 1) deps) ≡ done ++ hash =
      ap (λ (n : ℕ). hashes_at ids (take n deps)) (add-one i)
      ∙ ap (hashes_at ids) (take-suc deps i 0 l)
      ∙ at_append ids (take i deps) (d ∷ [])
      ∙ ap (λ (x : List ℕ). done ++ x) (at_single ids d)
      in
      let num : 32 * i + length hash ≡ 32 * (i + 1) = omega arith in
      record {
        low = omega arith;
        same = one ∙ ap₂ (λ (x : List ℕ) (n : ℕ). x ++ drop n out₀) (sym list) num;
        long = ap length one ∙ simp (length-append, length-drop) (omega arith);
      }

pub put_end : {ids deps out₀ : List ℕ} {i : ℕ} {out : List ℕ} → Put ids deps out₀ i out → length deps ≤ i → out ≡ hashes_at ids deps ++ drop (32 * length deps) out₀
put_end {ids} {deps} {out₀} {i} p l =
    let e : i ≡ length deps = (let b = p.low in omega arith) in
    p.same ∙ ap₂ (λ (x : List ℕ) (n : ℕ). hashes_at ids x ++ drop (32 * n) out₀) (ap (λ (n : ℕ). take n deps) e ∙ take-length deps) e

-- the part of the buffer that is lent then
pub put_part : (ids deps rest : List ℕ) → Inside ids deps → take (32 * length deps) (hashes_at ids deps ++ rest) ≡ hashes_at ids deps
put_part ids deps rest ins = take_at (hashes_at ids deps) rest (32 * length deps) (at_long ids deps ins.each)

-- ---- tables that the first k changes are added to

pub adds_last : (t : Tables) (xs : List Change) (x : Change) → adds t (xs ++ (x ∷ [])) ≡ added_tables (adds t xs) x
unfolding adds
adds_last t [] x = refl
adds_last t (y ∷ xs) x = adds_last (added_tables t y) xs x

pub record Filled (c : Columns) (t₀ : Tables) (at k : ℕ) (t : Tables) : Type 0 where
  pub low : k ≤ listed_changes c
  pub sum : at ≡ deps_before c k
  pub same : t ≡ adds t₀ (each_below (change_of_columns c) k)

pub filled_start : (c : Columns) (t : Tables) → Filled c t 0 0 t
unfolding each_below adds deps_before sum_below
filled_start c t = record { low = omega arith; sum = refl; same = refl }

pub filled_valid : {c : Columns} {t₀ : Tables} {at k : ℕ} {t : Tables} → Valid t₀ → Filled c t₀ at k t → Valid t
filled_valid {c} {t₀} {at} {k} v f = subst Valid (sym f.same) (adds_valid t₀ (each_below (change_of_columns c) k) v)

module _ (c : Columns) (w : Fillable c) {t₀ : Tables} {at k : ℕ} {t : Tables} (f : Filled c t₀ at k t) (l : k < listed_changes c) where
  -- the part of the values that is lent for change k
  pub lent : take (at + get_or c.dep_counts k 0 - at) (drop at c.dep_values) ≡ deps_of_columns c k
  lent =
      let e : at + get_or c.dep_counts k 0 - at ≡ get_or c.dep_counts k 0 = omega arith in
      ap₂ (λ (m i : ℕ). take m (drop i c.dep_values)) e f.sum

  -- it lies in the values, and its members in the columns
  pub lent_fits : at + get_or c.dep_counts k 0 ≤ length c.dep_values
  unfolding deps_before
  lent_fits =
      let s = f.sum in
      let t = sum_next (λ j. get_or c.dep_counts j 0) k in
      let u = sum_more (λ j. get_or c.dep_counts j 0) (k + 1) (listed_changes c) (omega arith) in
      let e = w.enough in
      omega arith

  pub lent_few : length (take (at + get_or c.dep_counts k 0 - at) (drop at c.dep_values)) ≤ 32
  lent_few = let e = w.few k l in simp (length-take, length-drop) (omega arith)

  pub lent_inside : Inside c.hashes (take (at + get_or c.dep_counts k 0 - at) (drop at c.dep_values))
  lent_inside = record { each = λ j m. let b = w.down k j l (ap (mem j) (sym lent) ∙ m) in omega arith }

  pub filled_next : {t' : Tables} {ds : List ℕ} → ds ≡ take (at + get_or c.dep_counts k 0 - at) (drop at c.dep_values)
      → t' ≡ added_tables t (record { hash = hash_at c.hashes k; actor = get_or c.actors k 0; seq = get_or c.seqs k 0; max_op = get_or c.max_ops k 0; ops = get_or c.op_counts k 0; deps = hashes_at c.hashes ds })
      → Filled c t₀ (at + get_or c.dep_counts k 0) (k + 1) t'
  unfolding deps_before each_below
  filled_next {t'} {ds} p q =
      record {
        low = omega arith;
        sum = (let s = f.sum in let n = sum_next (λ j. get_or c.dep_counts j 0) k in omega arith);
        same =
            q
            ∙ ap (λ (x : List ℕ). added_tables t (record { hash = hash_at c.hashes k; actor = get_or c.actors k 0; seq = get_or c.seqs k 0; max_op = get_or c.max_ops k 0; ops = get_or c.op_counts k 0; deps = hashes_at c.hashes x })) (p ∙ lent)
            ∙ ap (λ (y : Tables). added_tables y (change_of_columns c k)) f.same
            ∙ sym (adds_last t₀ (each_below (change_of_columns c) k) (change_of_columns c k))
            ∙ ap (λ (n : ℕ). adds t₀ (each_below (change_of_columns c) n)) (sym (add-one k));
      }

pub filled_end : {c : Columns} {t₀ : Tables} {at k : ℕ} {t : Tables} → Filled c t₀ at k t → listed_changes c ≤ k → t ≡ adds t₀ (changes_of c)
unfolding changes_of
filled_end {c} {t₀} {at} {k} f l = let e : k ≡ listed_changes c = (let b = f.low in omega arith) in f.same ∙ ap (λ (n : ℕ). adds t₀ (each_below (change_of_columns c) n)) e
