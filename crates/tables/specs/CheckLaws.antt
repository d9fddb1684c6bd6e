-- The steps of the small checks.
-- Assumes nothing.
use Rattle.std.specs.Prelude.{◌≡◌, refl, Bool, true, false, cond, ◌||◌, List, ℕ, zero, suc, ◌+◌, ◌≤◌, ◌<◌, eqb, length, get_or, set, replicate, Some, None}
use Rattle.std.proofs.Common.{sym, ap, subst, ◌∙◌, add-one, arith, length-set, get_or-set_same, get_or-set_other, eqb-true}
use Rattle.std.proofs.Math.Bool.{or-false, or-true}
use Rattle.std.proofs.lemmas.List.{length-replicate, get_or-replicate}
use Rattle.std.proofs.lemmas.Bool.{eqb-false}
use Rattle.paper.specs.Lists.{hash_at}
use Rattle.hash.specs.Hash.{find_hash}
use Rattle.hash.specs.HashLaws.{FoundIs, find_is}
use Rattle.paper.specs.Lists.{some_below, tally}
use Rattle.paper.proofs.Bools.{by_bool}
use Rattle.tables.specs.Tables.{actor_at, seq_at, head_at}
use Rattle.tables.specs.Valid.{count_of}
use Rattle.tables.specs.Checks.{named, Marked}

-- ---- distinct hashes

-- no hash below j is hash j
abbrev pub Fresh : List ℕ → ℕ → Type 0
Fresh hs j = (i : ℕ) → i < j → hash_at hs i ≡ hash_at hs j → ⊥

pub fresh : (hs : List ℕ) (j : ℕ) → find_hash hs j (hash_at hs j) ≡ None → Fresh hs j
unfolding FoundIs
fresh hs j e = subst (FoundIs hs j (hash_at hs j)) e (find_is hs j (hash_at hs j))

pub stale : (hs : List ℕ) (j k : ℕ) → find_hash hs j (hash_at hs j) ≡ Some k → Fresh hs j → ⊥
unfolding FoundIs
stale hs j k e f = let p : FoundIs hs j (hash_at hs j) (Some k) = subst (FoundIs hs j (hash_at hs j)) e (find_is hs j (hash_at hs j)) in f k p.0 p.1

-- ---- running sequences

-- node k has the sequence that is its actor's next
abbrev pub Next : List ℕ → ℕ → Type 0
Next ns k = seq_at ns k ≡ suc (count_of ns (actor_at ns k) k)

-- seen has how many of the first k nodes each actor has
pub record Counted (ns : List ℕ) (k : ℕ) (seen : List ℕ) : Type 0 where
  pub long : length seen ≡ 64
  pub each : (a : ℕ) → a < 64 → get_or seen a 0 ≡ count_of ns a k

pub counted_start : (ns : List ℕ) → Counted ns 0 (replicate 64 0)
unfolding tally
counted_start ns = record { long = length-replicate {A = ℕ} 64 0; each = λ a l. get_or-replicate {A = ℕ} 64 a 0 0 l }

pub tally_bound : (p : ℕ → Bool) (m : ℕ) → tally p m ≤ m
unfolding tally
tally_bound p zero = omega arith
tally_bound p (suc m) = let r = tally_bound p m in by_bool (p m) (λ t. rw t (omega arith)) (λ f. rw f (omega arith))

pub tally_step : (p : ℕ → Bool) (m : ℕ) → tally p (m + 1) ≡ tally p m + cond (p m) 1 0
unfolding tally
tally_step p m = rw add-one refl

module _ (ns : List ℕ) (k : ℕ) (seen : List ℕ) (v : Counted ns k seen) (l : actor_at ns k < 64) where
  up : (a : ℕ) (b : Bool) → eqb (actor_at ns k) a ≡ b → count_of ns a (k + 1) ≡ count_of ns a k + cond b 1 0
  up a b e = tally_step (λ j. eqb (actor_at ns j) a) k ∙ ap (λ (c : Bool). count_of ns a k + cond c 1 0) e

  pub counted_next : Counted ns (k + 1) (set seen (actor_at ns k) (get_or seen (actor_at ns k) 0 + 1))
  counted_next = record {
    long = length-set seen (actor_at ns k) (get_or seen (actor_at ns k) 0 + 1) ∙ v.long;
    each =
        λ a h.
        by_bool (eqb (actor_at ns k) a)
        (λ t.
        let e = eqb-true (actor_at ns k) a t in
        subst (λ (b : ℕ). get_or (set seen (actor_at ns k) (get_or seen (actor_at ns k) 0 + 1)) b 0 ≡ count_of ns a (k + 1)) e
        (get_or-set_same seen (actor_at ns k) (get_or seen (actor_at ns k) 0 + 1) 0 (rw v.long l)
        ∙ let q = v.each (actor_at ns k) l ∙ ap (λ (b : ℕ). count_of ns b k) e in let r = up a true t in omega arith))
        (λ f.
        let n = eqb-false (actor_at ns k) a f in
        get_or-set_other seen (actor_at ns k) a (get_or seen (actor_at ns k) 0 + 1) 0 (λ q. n (sym q))
        ∙ let q = v.each a h in let r = up a false f in omega arith);
  }

-- ---- head flags

-- the marks of the first i edges' targets
named_step : (ts : List ℕ) (i k : ℕ) → named ts (i + 1) k ≡ (named ts i k || eqb (get_or ts i 0) k)
unfolding named some_below
named_step ts i k = rw add-one refl

pub marked_start : (ts m : List ℕ) → Marked ts 0 m m
unfolding named some_below
marked_start ts m = record { long = refl; each = λ k l. refl }

pub marked_next : (ts m₀ m : List ℕ) (i : ℕ) → Marked ts i m₀ m → get_or ts i 0 < length m₀ → Marked ts (i + 1) m₀ (set m (get_or ts i 0) 1)
marked_next ts m₀ m i v l = record {
  long = length-set m (get_or ts i 0) 1 ∙ v.long;
  each =
      λ k h.
      by_bool (eqb (get_or ts i 0) k)
      (λ t.
      let e = eqb-true (get_or ts i 0) k t in
      rw (named_step ts i k, t, or-true (named ts i k), ← e) (get_or-set_same m (get_or ts i 0) 1 0 (rw v.long l)))
      (λ f.
      let n = eqb-false (get_or ts i 0) k f in
      rw (named_step ts i k, f, or-false (named ts i k), get_or-set_other m (get_or ts i 0) k 1 0 (λ q. n (sym q))) (v.each k h));
}

-- node k's flag is 1 exactly where no mark is
abbrev pub FlagAt : List ℕ → List ℕ → ℕ → Type 0
FlagAt ns m k = head_at ns k ≡ cond (eqb (get_or m k 0) 0) 1 0

-- the marks say what the edges say
pub by_marks : (ts : List ℕ) (e : ℕ) (m : List ℕ) → Marked ts e (replicate 4096 0) m → (k : ℕ) → k < 4096 → ◌≡◌ {A = ℕ} (cond (eqb (get_or m k 0) 0) 1 0) (cond (named ts e k) 0 1)
by_marks ts e m v k l =
    by_bool (named ts e k)
    (λ t. let q : get_or m k 0 ≡ 1 = v.each k (rw (length-replicate {A = ℕ} 4096 0) l) ∙ ap (λ (b : Bool). cond b 1 (get_or (replicate 4096 0) k 0)) t in rw (t, q))
    (λ f.
    let q : get_or m k 0 ≡ 0 = v.each k (rw (length-replicate {A = ℕ} 4096 0) l) ∙ ap (λ (b : Bool). cond b 1 (get_or (replicate 4096 0) k 0)) f ∙ get_or-replicate {A = ℕ} 4096 k 0 0 l in
    rw (f, q))
