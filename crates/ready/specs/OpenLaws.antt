-- Laws of what is unmet, and of counting along a list of hashes.
use Rattle.std.proofs.Math.Path.{◌≡◌, sym, ap}
use Rattle.std.specs.Int.{from_bool}
use Rattle.std.specs.Prelude.{refl, ℕ, zero, suc, ◌+◌, ◌-◌, ◌*◌, ◌<◌, ◌≤◌, Bool, true, false, ◌||◌, eqb, length, take, drop, get_or}
use Rattle.std.proofs.Common.{ap₂, ◌∙◌, add-zero, zero-add, arith, take-suc, take-take, ne_eqb}
use Rattle.std.proofs.Math.Nat.{sub-zero}
use mathlib.Core.List.{List, [], ◌∷◌}
use Rattle.std.proofs.Math.Bool.{not, cond}
use Rattle.paper.specs.Lists.{same_list, count, every}
use Rattle.paper.specs.Queue.{Queue, among, met}
use Rattle.paper.proofs.Bools.{by_bool}
use Rattle.paper.proofs.Hashes.{same→eq}
use Rattle.paper.proofs.Ready.{among_append}
use Rattle.paper.specs.Lists.{hash_at, hashes_from}
use Rattle.hash.specs.Hash.{find_hash, find_from, same_hash}
use Rattle.ready.specs.Tables.{known_in}
use Rattle.ready.specs.Open.{unmet}

-- a bool as a number
pub bit_of : (b : Bool) → from_bool b ≡ cond b 1 0
bit_of true = refl
bit_of false = refl

count_hashes : (p : List ℕ → Bool) (ds : List ℕ) (k f : ℕ) → count p (hashes_from ds (suc k) f) ≡ cond (p (hash_at ds f)) 1 0 + count p (hashes_from ds k (suc f))
unfolding count hashes_from
count_hashes p ds k f = refl

count_none : (p : List ℕ → Bool) (ds : List ℕ) (f : ℕ) → count p (hashes_from ds 0 f) ≡ 0
unfolding count hashes_from
count_none p ds f = refl

-- counting along the m hashes of a table from `first` on, where it stands at j
module _ (p : List ℕ → Bool) (ds : List ℕ) (first m : ℕ) where
  pub along_start : 0 + count p (hashes_from ds (m - 0) (first + 0)) ≡ count p (hashes_from ds m first)
  along_start = rw (sub-zero, add-zero first) (omega arith)

  module _ (j total : ℕ) (inv : total + count p (hashes_from ds (m - j) (first + j)) ≡ count p (hashes_from ds m first)) where
    pub along_next : j < m → (total + cond (p (hash_at ds (first + j))) 1 0) + count p (hashes_from ds (m - (j + 1)) (first + (j + 1))) ≡ count p (hashes_from ds m first)
    along_next l =
        let s : m - j ≡ suc (m - (j + 1)) = omega arith in
        let e : suc (first + j) ≡ first + (j + 1) = omega arith in
        let a : count p (hashes_from ds (m - j) (first + j)) ≡ cond (p (hash_at ds (first + j))) 1 0 + count p (hashes_from ds (m - (j + 1)) (first + (j + 1))) = rw (s, ← e) (count_hashes p ds (m - (j + 1)) (first + j)) in
        omega arith

    pub along_end : m ≤ j → total ≡ count p (hashes_from ds m first)
    along_end l =
        let z : m - j ≡ 0 = omega arith in
        let n : count p (hashes_from ds (m - j) (first + j)) ≡ 0 = rw z (count_none p ds (first + j)) in
        omega arith

-- ---- counting by two tests

count_ext : (p r : List ℕ → Bool) (ds : List (List ℕ)) → ((d : List ℕ) → p d ≡ r d) → count p ds ≡ count r ds
unfolding count
count_ext p r [] h = refl
count_ext p r (d ∷ ds) h = ap₂ (λ (b : Bool) (n : ℕ). cond b 1 0 + n) (h d) (count_ext p r ds h)

count_sum : (p a b : List ℕ → Bool) (ds : List (List ℕ)) → ((d : List ℕ) → ◌≡◌ {A = ℕ} (cond (p d) 1 0) (cond (a d) 1 0 + cond (b d) 1 0))
    → count p ds ≡ count a ds + count b ds
unfolding count
count_sum p a b [] h = refl
count_sum p a b (d ∷ ds) h = omega (arith, h d, count_sum p a b ds h)

-- every one passes exactly if none is counted that does not
every_none : (p : List ℕ → Bool) (ds : List (List ℕ)) → every p ds ≡ eqb (count (λ d. not (p d)) ds) 0
unfolding every count
every_none p [] = refl
every_none p (d ∷ ds) =
    by_bool (p d) (λ t. rw (t, zero-add) (every_none p ds)) (λ f. rw f (sym (ne_eqb (1 + count (λ e. not (p e)) ds) 0 (λ e. omega arith))))

-- those that pass, and those that do not, are all
pub counted_both : (p : List ℕ → Bool) (ds : List ℕ) (m f : ℕ) → count (λ d. not (p d)) (hashes_from ds m f) + count p (hashes_from ds m f) ≡ m
unfolding count hashes_from
counted_both p ds zero f = refl
counted_both p ds (suc m) f =
    by_bool (p (hash_at ds f)) (λ t. rw t (omega (arith, counted_both p ds m (suc f)))) (λ e. rw e (omega (arith, counted_both p ds m (suc f))))

-- ---- a table of one hash

own_hash : (hs : List ℕ) (k : ℕ) → hash_at (hash_at hs k) 0 ≡ hash_at hs k
unfolding hash_at
own_hash hs k = take-take 32 32 (drop (32 * k) hs) (omega arith)

one_known : (hs : List ℕ) (k : ℕ) (d : List ℕ) → known_in (hash_at hs k) 1 d ≡ same_list (hash_at hs k) d
unfolding known_in find_hash find_from same_hash
one_known hs k d = by_bool (same_list (hash_at hs k) d) (λ t. rw (own_hash hs k, t)) (λ f. rw (own_hash hs k, f))

pub count_one : (hs : List ℕ) (k : ℕ) (ds : List (List ℕ)) → count (known_in (hash_at hs k) 1) ds ≡ count (same_list (hash_at hs k)) ds
count_one hs k ds = count_ext (known_in (hash_at hs k) 1) (same_list (hash_at hs k)) ds (one_known hs k)

-- ---- unmet

or_false : (b : Bool) → (b || false) ≡ b
or_false true = refl
or_false false = refl

among_one : (q : Queue) (k : ℕ) (d : List ℕ) → among q (k ∷ []) d ≡ same_list (q.at k).hash d
unfolding among
among_one q k d = or_false (same_list (q.at k).hash d)

module _ (known : List ℕ → Bool) (q : Queue) where
  -- nothing unknown: nothing is unmet
  pub met_unmet : (l : List ℕ) (i : ℕ) → met known q l i ≡ eqb (unmet known q l i) 0
  unfolding met unmet
  met_unmet l i = every_none (λ d. known d || among q l d) (q.at i).deps

  -- before any is listed
  pub unmet_start : (i : ℕ) → unmet known q [] i ≡ count (λ d. not (known d)) (q.at i).deps
  unfolding unmet among
  unmet_start i = count_ext (λ d. not (known d || false)) (λ d. not (known d)) (q.at i).deps (λ d. ap not (or_false (known d)))

  module _ (l : List ℕ) (c : ℕ) (b : c < length l) where
    -- one more is listed
    one_more : (d : List ℕ) → among q (take (suc c) l) d ≡ (among q (take c l) d || same_list (q.at (get_or l c 0)).hash d)
    one_more d = rw (take-suc l c 0 b) (among_append q (take c l) (get_or l c 0 ∷ []) d ∙ ap (λ (x : Bool). among q (take c l) d || x) (among_one q (get_or l c 0) d))

    -- its hash is known already: nobody waited for it
    pub unmet_known : known (q.at (get_or l c 0)).hash ≡ true → (i : ℕ) → unmet known q (take (suc c) l) i ≡ unmet known q (take c l) i
    unfolding unmet
    unmet_known k i = count_ext (λ d. not (known d || among q (take (suc c) l) d)) (λ d. not (known d || among q (take c l) d)) (q.at i).deps same
      where
        same : (d : List ℕ) → not (known d || among q (take (suc c) l) d) ≡ not (known d || among q (take c l) d)
        same d =
            rw (one_more d)
            (by_bool (same_list (q.at (get_or l c 0)).hash d) (λ t. rw (sym (ap known (same→eq (q.at (get_or l c 0)).hash d t)) ∙ k)) (λ f. rw (f, or_false (among q (take c l) d))))

    -- its hash is new: what waited for it waits for so much less
    pub unmet_hit : known (q.at (get_or l c 0)).hash ≡ false → among q (take c l) (q.at (get_or l c 0)).hash ≡ false → (i : ℕ)
        → unmet known q (take c l) i ≡ unmet known q (take (suc c) l) i + count (same_list (q.at (get_or l c 0)).hash) (q.at i).deps
    unfolding unmet
    unmet_hit k a i =
        count_sum (λ d. not (known d || among q (take c l) d)) (λ d. not (known d || among q (take (suc c) l) d)) (same_list (q.at (get_or l c 0)).hash) (q.at i).deps less
      where
        less : (d : List ℕ)
            → ◌≡◌ {A = ℕ} (cond (not (known d || among q (take c l) d)) 1 0)
            (cond (not (known d || among q (take (suc c) l) d)) 1 0 + cond (same_list (q.at (get_or l c 0)).hash d) 1 0)
        less d =
            rw (one_more d)
            (by_bool (same_list (q.at (get_or l c 0)).hash d)
            (λ t.
            let e = same→eq (q.at (get_or l c 0)).hash d t in
            rw (t, sym (ap known e) ∙ k, sym (ap (λ (h : List ℕ). among q (take c l) h) e) ∙ a))
            (λ f. rw (f, or_false (among q (take c l) d)) (omega arith)))
