-- Laws on the records and the two plain tables: copying goes on edge by edge, and there and back again nothing is lost.
-- Assumes nothing.
use Rattle.std.specs.Prelude.{◌≡◌, refl, List, [], ◌∷◌, ◌++◌, map, ℕ, zero, suc, ◌+◌, ◌≤◌, ◌<◌, min, length, get_or, set, take, drop}
use Rattle.std.proofs.Common.{sym, ap, ap₂, ◌∙◌, not-suc-le-zero, le_of_suc-le-suc, add-one, arith, take-append-drop, append-nil, drop_of_length-le, take_all}
use Rattle.std.proofs.lemmas.List.{map-append, length-map}
use Rattle.std.proofs.Math.ListN.{get_or-map}
use Rattle.edges.specs.Edges.{edge, no_edge, targets_of, nexts_of, edges_of, common, onto, taken_targets, taken_nexts, packed}
use Rattle.edges.specs.declared.Edge.{Edge}

-- ---- copying

module _ {A : Type 0} where
  onto_suc : (d : A) (i : ℕ) (ss ts : List A) → i < length ss → i < length ts → set (onto i ss ts) i (get_or ss i d) ≡ onto (suc i) ss ts
  onto_suc d i [] ts p r = absurd (not-suc-le-zero p)
  onto_suc d i (s ∷ ss) [] p r = absurd (not-suc-le-zero r)
  onto_suc d zero (s ∷ ss) (t ∷ ts) p r = refl
  onto_suc d (suc i) (s ∷ ss) (t ∷ ts) p r = ap (λ (l : List A). s ∷ l) (onto_suc d i ss ts (le_of_suc-le-suc p) (le_of_suc-le-suc r))

  -- one more is copied
  pub onto_more : (d : A) (i : ℕ) (ss ts : List A) → i < length ss → i < length ts → set (onto i ss ts) i (get_or ss i d) ≡ onto (i + 1) ss ts
  onto_more d i ss ts p r = rw add-one (onto_suc d i ss ts p r)

  pub onto_long : (i : ℕ) (ss ts : List A) → i ≤ length ss → i ≤ length ts → length (onto i ss ts) ≡ length ts
  onto_long zero ss ts p r = refl
  onto_long (suc i) [] ts p r = absurd (not-suc-le-zero p)
  onto_long (suc i) (s ∷ ss) [] p r = absurd (not-suc-le-zero r)
  onto_long (suc i) (s ∷ ss) (t ∷ ts) p r = ap suc (onto_long i ss ts (le_of_suc-le-suc p) (le_of_suc-le-suc r))

  drop_nil : (i : ℕ) → drop {A = A} i [] ≡ []
  drop_nil zero = refl
  drop_nil (suc i) = refl

  -- what was copied is there
  pub take_onto : (i : ℕ) (ss ts : List A) → i ≤ length ss → take i (onto i ss ts) ≡ take i ss
  take_onto zero ss ts p = refl
  take_onto (suc i) [] ts p = absurd (not-suc-le-zero p)
  take_onto (suc i) (s ∷ ss) [] p = ap (λ (l : List A). s ∷ l) (ap (λ (l : List A). take i (take i ss ++ l)) (sym (drop_nil i)) ∙ take_onto i ss [] (le_of_suc-le-suc p))
  take_onto (suc i) (s ∷ ss) (t ∷ ts) p = ap (λ (l : List A). s ∷ l) (take_onto i ss ts (le_of_suc-le-suc p))

  -- only what is copied counts
  pub onto_take : (i : ℕ) (ss us ts : List A) → take i ss ≡ take i us → onto i ss ts ≡ onto i us ts
  onto_take i ss us ts e = ap (λ (l : List A). l ++ drop i ts) e

  -- a table copied onto itself
  pub onto_same : (i : ℕ) (ts : List A) → onto i ts ts ≡ ts
  onto_same i ts = take-append-drop i ts

-- ---- records and tables

pub targets_long : (es : List Edge) → length (targets_of es) ≡ length es
targets_long es = length-map es (λ (e : Edge). e.target)

pub nexts_long : (es : List Edge) → length (nexts_of es) ≡ length es
nexts_long es = length-map es (λ (e : Edge). e.next)

pub target_at : (es : List Edge) (i : ℕ) → (get_or es i no_edge).target ≡ get_or (targets_of es) i 0
target_at es i = sym (get_or-map (λ (e : Edge). e.target) es i no_edge)

pub next_at : (es : List Edge) (i : ℕ) → (get_or es i no_edge).next ≡ get_or (nexts_of es) i 0
next_at es i = sym (get_or-map (λ (e : Edge). e.next) es i no_edge)

pub edge_at : (ts xs : List ℕ) (i : ℕ) → i < length ts → i < length xs → edge (get_or ts i 0) (get_or xs i 0) ≡ get_or (edges_of ts xs) i no_edge
unfolding edges_of
edge_at [] xs i p r = absurd (not-suc-le-zero p)
edge_at (t ∷ ts) [] i p r = absurd (not-suc-le-zero r)
edge_at (t ∷ ts) (x ∷ xs) zero p r = refl
edge_at (t ∷ ts) (x ∷ xs) (suc i) p r = edge_at ts xs i (le_of_suc-le-suc p) (le_of_suc-le-suc r)

pub edges_long : (ts xs : List ℕ) → length (edges_of ts xs) ≡ min (length ts) (length xs)
unfolding edges_of
edges_long [] xs = omega arith
edges_long (t ∷ ts) [] = omega arith
edges_long (t ∷ ts) (x ∷ xs) = omega (arith, edges_long ts xs)

pub targets_back : (ts xs : List ℕ) → length ts ≡ length xs → targets_of (edges_of ts xs) ≡ ts
unfolding edges_of
targets_back [] xs e = refl
targets_back (t ∷ ts) [] e = absurd (omega arith)
targets_back (t ∷ ts) (x ∷ xs) e = ap (λ (l : List ℕ). t ∷ l) (targets_back ts xs (omega arith))

pub nexts_back : (ts xs : List ℕ) → length ts ≡ length xs → nexts_of (edges_of ts xs) ≡ xs
unfolding edges_of
nexts_back [] [] e = refl
nexts_back [] (x ∷ xs) e = absurd (omega arith)
nexts_back (t ∷ ts) [] e = absurd (omega arith)
nexts_back (t ∷ ts) (x ∷ xs) e = ap (λ (l : List ℕ). x ∷ l) (nexts_back ts xs (omega arith))

pub edges_back : (es : List Edge) → edges_of (targets_of es) (nexts_of es) ≡ es
unfolding edges_of
edges_back [] = refl
edges_back (e ∷ es) = ap (λ (l : List Edge). e ∷ l) (edges_back es)

-- the two plain tables say all of the records
pub same_edges : (es fs : List Edge) → targets_of es ≡ targets_of fs → nexts_of es ≡ nexts_of fs → es ≡ fs
same_edges es fs p q = sym (edges_back es) ∙ ap₂ edges_of p q ∙ edges_back fs

-- ---- there and back

module _ {A B : Type 0} (f : A → B) where
  map_take : (i : ℕ) (l : List A) → map f (take i l) ≡ take i (map f l)
  map_take zero l = refl
  map_take (suc i) [] = refl
  map_take (suc i) (x ∷ l) = ap (λ (r : List B). f x ∷ r) (map_take i l)

  map_drop : (i : ℕ) (l : List A) → map f (drop i l) ≡ drop i (map f l)
  map_drop zero l = refl
  map_drop (suc i) [] = refl
  map_drop (suc i) (x ∷ l) = map_drop i l

  map_onto : (i : ℕ) (ss ts : List A) → map f (onto i ss ts) ≡ onto i (map f ss) (map f ts)
  map_onto i ss ts = map-append f (take i ss) (drop i ts) ∙ ap₂ (λ (a b : List B). a ++ b) (map_take i ss) (map_drop i ts)

take_targets : (m : ℕ) (ts xs : List ℕ) → m ≤ length ts → m ≤ length xs → take m (targets_of (edges_of ts xs)) ≡ take m ts
unfolding edges_of
take_targets zero ts xs p r = refl
take_targets (suc m) [] xs p r = absurd (not-suc-le-zero p)
take_targets (suc m) (t ∷ ts) [] p r = absurd (not-suc-le-zero r)
take_targets (suc m) (t ∷ ts) (x ∷ xs) p r = ap (λ (l : List ℕ). t ∷ l) (take_targets m ts xs (le_of_suc-le-suc p) (le_of_suc-le-suc r))

take_nexts : (m : ℕ) (ts xs : List ℕ) → m ≤ length ts → m ≤ length xs → take m (nexts_of (edges_of ts xs)) ≡ take m xs
unfolding edges_of
take_nexts zero ts xs p r = refl
take_nexts (suc m) [] xs p r = absurd (not-suc-le-zero p)
take_nexts (suc m) (t ∷ ts) [] p r = absurd (not-suc-le-zero r)
take_nexts (suc m) (t ∷ ts) (x ∷ xs) p r = ap (λ (l : List ℕ). x ∷ l) (take_nexts m ts xs (le_of_suc-le-suc p) (le_of_suc-le-suc r))

-- packing, said of the plain tables: they are copied into those that the records are
module _ (ts xs : List ℕ) (es : List Edge) where
  pub packed_targets : targets_of (packed ts xs es) ≡ onto (common es ts xs) ts (targets_of es)
  packed_targets =
      map_onto (λ (e : Edge). e.target) (common es ts xs) (edges_of ts xs) es
      ∙ onto_take (common es ts xs) (targets_of (edges_of ts xs)) ts (targets_of es) (take_targets (common es ts xs) ts xs (omega arith) (omega arith))

  pub packed_nexts : nexts_of (packed ts xs es) ≡ onto (common es ts xs) xs (nexts_of es)
  packed_nexts =
      map_onto (λ (e : Edge). e.next) (common es ts xs) (edges_of ts xs) es
      ∙ onto_take (common es ts xs) (nexts_of (edges_of ts xs)) xs (nexts_of es) (take_nexts (common es ts xs) ts xs (omega arith) (omega arith))

  pub packed_long : length (packed ts xs es) ≡ length es
  packed_long = onto_long (common es ts xs) (edges_of ts xs) es (let l = edges_long ts xs in omega arith) (omega arith)

  -- unpacking after packing gives the tables back
  pub unpack_after_pack : (taken_targets (packed ts xs es) ts xs ≡ ts) × (taken_nexts (packed ts xs es) ts xs ≡ xs)
  unpack_after_pack =
      let same : common (packed ts xs es) ts xs ≡ common es ts xs = ap (λ (n : ℕ). min n (min (length ts) (length xs))) packed_long in (
        ap₂ (λ (m : ℕ) (l : List ℕ). onto m l ts) same packed_targets ∙ onto_take (common es ts xs) (onto (common es ts xs) ts (targets_of es)) ts ts (take_onto (common es ts xs) ts (targets_of es) (omega arith)) ∙ onto_same (common es ts xs) ts,
        ap₂ (λ (m : ℕ) (l : List ℕ). onto m l xs) same packed_nexts ∙ onto_take (common es ts xs) (onto (common es ts xs) xs (nexts_of es)) xs xs (take_onto (common es ts xs) xs (nexts_of es) (omega arith)) ∙ onto_same (common es ts xs) xs,
      )

-- packing after unpacking gives the records back
pub pack_after_unpack : (es : List Edge) (ts xs : List ℕ) → packed (taken_targets es ts xs) (taken_nexts es ts xs) es ≡ es
pack_after_unpack es ts xs =
    let a = targets_long es in
    let b = nexts_long es in
    let t : length (taken_targets es ts xs) ≡ length ts = onto_long (common es ts xs) (targets_of es) ts (omega arith) (omega arith) in
    let x : length (taken_nexts es ts xs) ≡ length xs = onto_long (common es ts xs) (nexts_of es) xs (omega arith) (omega arith) in
    let same : common es (taken_targets es ts xs) (taken_nexts es ts xs) ≡ common es ts xs = ap₂ (λ (i j : ℕ). min (length es) (min i j)) t x in
    same_edges (packed (taken_targets es ts xs) (taken_nexts es ts xs) es) es
    (packed_targets (taken_targets es ts xs) (taken_nexts es ts xs) es ∙ ap (λ (n : ℕ). onto n (taken_targets es ts xs) (targets_of es)) same
    ∙ onto_take (common es ts xs) (taken_targets es ts xs) (targets_of es) (targets_of es) (take_onto (common es ts xs) (targets_of es) ts (omega arith)) ∙ onto_same (common es ts xs) (targets_of es))
    (packed_nexts (taken_targets es ts xs) (taken_nexts es ts xs) es ∙ ap (λ (n : ℕ). onto n (taken_nexts es ts xs) (nexts_of es)) same
    ∙ onto_take (common es ts xs) (taken_nexts es ts xs) (nexts_of es) (nexts_of es) (take_onto (common es ts xs) (nexts_of es) xs (omega arith)) ∙ onto_same (common es ts xs) (nexts_of es))

-- ---- the loops

-- where unpacking stands after i edges
pub record Unpacking (es : List Edge) (ts₀ xs₀ : List ℕ) (i : ℕ) (ts xs : List ℕ) : Type 0 where
  pub low : i ≤ common es ts₀ xs₀
  pub targets : ts ≡ onto i (targets_of es) ts₀
  pub nexts : xs ≡ onto i (nexts_of es) xs₀

module _ {es : List Edge} {ts₀ xs₀ : List ℕ} {i : ℕ} {ts xs : List ℕ} (st : Unpacking es ts₀ xs₀ i ts xs) where
  pub unpacking_next : i < common es ts₀ xs₀ → {ts' xs' : List ℕ} → ts' ≡ set ts i (get_or es i no_edge).target → xs' ≡ set xs i (get_or es i no_edge).next → Unpacking es ts₀ xs₀ (i + 1) ts' xs'
  unpacking_next less p q =
      let l = targets_long es in
      let l' = nexts_long es in record {
        low = omega arith;
        targets = p ∙ ap₂ (λ (l : List ℕ) (v : ℕ). set l i v) st.targets (target_at es i) ∙ onto_more 0 i (targets_of es) ts₀ (omega arith) (omega arith);
        nexts = q ∙ ap₂ (λ (l : List ℕ) (v : ℕ). set l i v) st.nexts (next_at es i) ∙ onto_more 0 i (nexts_of es) xs₀ (omega arith) (omega arith);
      }

-- where packing stands after i edges
pub record Packing (ts xs : List ℕ) (es₀ : List Edge) (i : ℕ) (es : List Edge) : Type 0 where
  pub low : i ≤ common es₀ ts xs
  pub records : es ≡ onto i (edges_of ts xs) es₀

module _ {ts xs : List ℕ} {es₀ : List Edge} {i : ℕ} {es : List Edge} (st : Packing ts xs es₀ i es) where
  pub packing_next : i < common es₀ ts xs → {es' : List Edge} → es' ≡ set es i (edge (get_or ts i 0) (get_or xs i 0)) → Packing ts xs es₀ (i + 1) es'
  packing_next less u =
      let l = edges_long ts xs in record {
        low = omega arith;
        records = u ∙ ap₂ (λ (l : List Edge) (v : Edge). set l i v) st.records (edge_at ts xs i (omega arith) (omega arith)) ∙ onto_more no_edge i (edges_of ts xs) es₀ (omega arith) (omega arith);
      }

-- a number above 0 has one before it
pub one_less : (n : ℕ) → 0 < n → (k : ℕ) × (n ≡ suc k)
one_less zero p = absurd (omega arith)
one_less (suc k) p = (k, refl)

-- ---- laws that no proof needs any more

module _ {A : Type 0} where
  -- all of it is copied
  pub onto_all : (i : ℕ) (ss ts : List A) → length ss ≤ i → length ts ≤ i → onto i ss ts ≡ ss
  onto_all i ss ts p r = rw (take_all i ss p, drop_of_length-le ts {i = i} r) (append-nil ss)

pub unpacking_start : (es : List Edge) (ts₀ xs₀ : List ℕ) → Unpacking es ts₀ xs₀ 0 ts₀ xs₀
unpacking_start es ts₀ xs₀ = record { low = omega arith; targets = refl; nexts = refl }

module _ (es : List Edge) (ts₀ xs₀ : List ℕ) (i : ℕ) (ts xs : List ℕ) (st : Unpacking es ts₀ xs₀ i ts xs) where
  pub unpacking_targets : length ts ≡ length ts₀
  unpacking_targets = let s = st.low in let l = targets_long es in ap length st.targets ∙ onto_long i (targets_of es) ts₀ (omega arith) (omega arith)

  pub unpacking_nexts : length xs ≡ length xs₀
  unpacking_nexts = let s = st.low in let l = nexts_long es in ap length st.nexts ∙ onto_long i (nexts_of es) xs₀ (omega arith) (omega arith)

  pub unpacking_end : common es ts₀ xs₀ ≤ i → (ts ≡ onto (common es ts₀ xs₀) (targets_of es) ts₀) × (xs ≡ onto (common es ts₀ xs₀) (nexts_of es) xs₀)
  unpacking_end l =
      let e : i ≡ common es ts₀ xs₀ = omega (arith, st.low) in
      (st.targets ∙ ap (λ (n : ℕ). onto n (targets_of es) ts₀) e, st.nexts ∙ ap (λ (n : ℕ). onto n (nexts_of es) xs₀) e)

pub packing_start : (ts xs : List ℕ) (es₀ : List Edge) → Packing ts xs es₀ 0 es₀
packing_start ts xs es₀ = record { low = omega arith; records = refl }

module _ (ts xs : List ℕ) (es₀ : List Edge) (i : ℕ) (es : List Edge) (st : Packing ts xs es₀ i es) where
  pub packing_long : length es ≡ length es₀
  packing_long = let s = st.low in let l = edges_long ts xs in ap length st.records ∙ onto_long i (edges_of ts xs) es₀ (omega arith) (omega arith)

  pub packing_end : common es₀ ts xs ≤ i → es ≡ onto (common es₀ ts xs) (edges_of ts xs) es₀
  packing_end l = let e : i ≡ common es₀ ts xs = omega (arith, st.low) in st.records ∙ ap (λ (n : ℕ). onto n (edges_of ts xs) es₀) e
