-- Records seen through the tables: which record stands where, after records are written or filled in.
-- Assumes nothing.
use Rattle.std.specs.Prelude.{◌≡◌, refl, ℕ, zero, suc, ◌+◌, ◌-◌, ◌*◌, ◌<◌, ◌≤◌, List, ◌∷◌, length, get_or, take, drop}
use Rattle.std.proofs.Common.{sym, ap, ◌∙◌, add-zero, arith, length-drop, take-add, drop_at, drop-drop, take-take, length-take-le, get_or-take}
use Rattle.paper.specs.Lists.{hashes_from, hash_at, each_below}
use Rattle.paper.specs.Queue.{Waiting}
use Rattle.list_laws.specs.Over.{over, part, part_at, over_length, over_before, over_here}
use Rattle.ready.specs.Tables.{dep_count, record_at}
use Rattle.records.specs.Records.{five_at, dep_bytes}

-- the first n records as the paper's list
unfoldable pub records_of : List ℕ → List ℕ → List ℕ → ℕ → List Waiting
records_of hs ns ds n = each_below (record_at hs ns ds) n

-- ---- parts of what is written over

part_of_take : (d : List ℕ) (a len : ℕ) → a ≤ length d → part d a len ≡ drop a (take (a + len) d)
unfolding part
part_of_take d a len l = sym (ap (drop a) (take-add a len d) ∙ drop_at (take a d) (take len (drop a d)) a (length-take-le a d l))

module _ (d : List ℕ) (at : ℕ) (s : List ℕ) (fits : at + length s ≤ length d) where
  pub part_before : (a len : ℕ) → a + len ≤ at → part (over d at s) a len ≡ part d a len
  part_before a len l =
      part_of_take (over d at s) a len (omega (arith, over_length d at s fits))
      ∙ (ap (drop a) (over_before d at s fits (a + len) l) ∙ sym (part_of_take d a len (omega arith)))

  pub get_d_before : (i : ℕ) → i < at → get_or (over d at s) i 0 ≡ get_or d i 0
  get_d_before i l = sym (get_or-take at (over d at s) i 0 l) ∙ (ap (λ (x : List ℕ). get_or x i 0) (over_before d at s fits at (omega arith)) ∙ get_or-take at d i 0 l)

  pub get_d_here : (j : ℕ) → j < length s → get_or (over d at s) (at + j) 0 ≡ get_or s j 0
  get_d_here j l = sym (part_at (over d at s) at (length s) j l) ∙ ap (λ (x : List ℕ). get_or x j 0) (over_here d at s fits)

-- ---- a list of hashes is told by its bytes

take_inside : (y : List ℕ) (k n m : ℕ) → k + m ≤ n → n ≤ length y → take m (drop k (take n y)) ≡ take m (drop k y)
take_inside y k n m l b =
    let e : n ≡ k + (n - k) = omega arith in
    ap (λ (x : ℕ). take m (drop k (take x y))) e
    ∙ (ap (λ (x : List ℕ). take m (drop k x)) (take-add k (n - k) y)
    ∙ (ap (take m) (drop_at (take k y) (take (n - k) (drop k y)) k (length-take-le k y (omega arith))) ∙ take-take m (n - k) (drop k y) (omega arith)))

hash_part : (x : List ℕ) (a m j : ℕ) → j < m → 32 * (a + m) ≤ length x → hash_at x (a + j) ≡ hash_at (part x (32 * a) (32 * m)) j
unfolding hash_at part
hash_part x a m j l b =
    let e : 32 * (a + j) ≡ 32 * a + 32 * j = omega arith in
    ap (λ (i : ℕ). take 32 (drop i x)) e
    ∙ (ap (take 32) (sym (drop-drop (32 * j) (32 * a) x))
    ∙ sym (take_inside (drop (32 * a) x) (32 * j) (32 * m) 32 (omega arith) (simp length-drop (omega arith))))

from_part : (x : List ℕ) (a m left j : ℕ) → left + j ≤ m → 32 * (a + m) ≤ length x → hashes_from x left (a + j) ≡ hashes_from (part x (32 * a) (32 * m)) left j
unfolding hashes_from
from_part x a m zero j l b = refl
from_part x a m (suc left) j l b =
    let e : suc (a + j) ≡ a + suc j = omega arith in
    rw (hash_part x a m j (omega arith) b, e) (ap (λ (t : List (List ℕ)). hash_at (part x (32 * a) (32 * m)) j ∷ t) (from_part x a m left (suc j) (omega arith) b))

hashes_part : (x : List ℕ) (a m : ℕ) → 32 * (a + m) ≤ length x → hashes_from x m a ≡ hashes_from (part x (32 * a) (32 * m)) m 0
hashes_part x a m b = ap (hashes_from x m) (sym (add-zero a)) ∙ from_part x a m m 0 (omega arith) b

-- ---- a record is told by its hash, its numbers and its dependencies' bytes

pub record_same : (hs ns ds : List ℕ) (i : ℕ) (hs' ns' ds' : List ℕ) (i' : ℕ) → part hs' (32 * i') 32 ≡ part hs (32 * i) 32 → five_at ns' i' ≡ five_at ns i
    → 1024 * i + 32 * dep_count ns i ≤ length ds → 1024 * i' + 32 * dep_count ns i ≤ length ds' → part ds' (1024 * i') (32 * dep_count ns i) ≡ dep_bytes ns ds i
    → record_at hs' ns' ds' i' ≡ record_at hs ns ds i
unfolding hash_at part
record_same hs ns ds i hs' ns' ds' i' h n a b d =
    let m = dep_count ns i in
    let n0 : get_or ns' (5 * i') 0 ≡ get_or ns (5 * i) 0 = cc in
    let n1 : get_or ns' (5 * i' + 1) 0 ≡ get_or ns (5 * i + 1) 0 = cc in
    let n2 : get_or ns' (5 * i' + 2) 0 ≡ get_or ns (5 * i + 2) 0 = cc in
    let n3 : get_or ns' (5 * i' + 3) 0 ≡ get_or ns (5 * i + 3) 0 = cc in
    let n4 : dep_count ns' i' ≡ m = cc in
    let e : 32 * (32 * i) ≡ 1024 * i = omega arith in
    let e' : 32 * (32 * i') ≡ 1024 * i' = omega arith in
    let same : hashes_from ds' (dep_count ns' i') (32 * i') ≡ hashes_from ds m (32 * i) =
    ap (λ (x : ℕ). hashes_from ds' x (32 * i')) n4
    ∙ (hashes_part ds' (32 * i') m (omega arith)
    ∙ (ap (λ (x : ℕ). hashes_from (part ds' x (32 * m)) m 0) e'
    ∙ (ap (λ (x : List ℕ). hashes_from x m 0) d
    ∙ (ap (λ (x : ℕ). hashes_from (part ds x (32 * m)) m 0) (sym e) ∙ sym (hashes_part ds (32 * i) m (omega arith))))))
    in
    rw (h, n0, n1, n2, n3, same)
