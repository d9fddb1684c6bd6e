-- The hashes of a list that pass a test, entered one after the other: how many different ones they are, and that those entered so far are no more than all.
-- Assumes nothing.
use Rattle.std.specs.Prelude.{◌≡◌, Bool, true, false, not, ◌&&◌, ◌||◌, List, [], ◌∷◌, ◌++◌, eqb, drop}
use Rattle.std.proofs.Math.Path.{refl, ap}
use Rattle.std.proofs.Common.{sym, ap₂, ◌∙◌, subst, append-nil}
use Rattle.std.proofs.Math.Bool.{cond}
use Prim.Native.Nat.{ℕ, zero, suc, ◌+◌, ◌*◌, ◌-◌, ◌≤◌, ◌<◌}
use native.Mathlib.Omega.{arith}
use Rattle.std.proofs.Math.ListN.{length}
use Rattle.paper.specs.Lists.{same_list, names, hash_at, hashes_from, keep, ascending, enter, every, tally}
use Rattle.paper.specs.Text.{flat}
use Rattle.paper.proofs.Bools.{by_bool, not-both, and_both, and_fst, and_snd}
use Rattle.paper.proofs.Hashes.{same→eq}
use Rattle.paper.proofs.Ascending.{ascending_long}
use Rattle.paper.proofs.Count.{tally_wider}
use Rattle.hash.specs.HashLaws.{hash_length}
use Rattle.answer_buffer.specs.Answers.{list_answer, filled}
use Rattle.answer_buffer.specs.SlotLaws.{hashes_split}
use Rattle.answer_buffer.specs.Entering.{Wide, wide_cons, wide_ascending, flat_long, Entering, entering_start, entering_room, entering_next, entering_told, entering_whole}
use Rattle.current_heads.specs.Ascents.{NamesSame, ascending_same}
use Rattle.std.specs.Prelude.{Ok}

-- ---- keeping

keep_last : (p : List ℕ → Bool) (l : List (List ℕ)) (h : List ℕ) → keep p (l ++ (h ∷ [])) ≡ keep p l ++ cond (p h) (h ∷ []) []
unfolding keep
keep_last p [] h = refl
keep_last p (x ∷ l) h = by_bool (p x) (λ t. rw t (ap (λ (r : List (List ℕ)). x ∷ r) (keep_last p l h))) (λ f. rw f (keep_last p l h))

-- a hash that passes is named by those kept exactly if it was listed
keep_names : (p : List ℕ → Bool) (h : List ℕ) → p h ≡ true → (l : List (List ℕ)) → names h (keep p l) ≡ names h l
unfolding keep names
keep_names p h t [] = refl
keep_names p h t (x ∷ l) =
    by_bool (p x) (λ y. rw y (ap (λ (b : Bool). same_list x h || b) (keep_names p h t l)))
    (λ n. rw n (by_bool (same_list x h) (λ s. not-both t (ap p (sym (same→eq x h s)) ∙ n)) (λ s. rw s (keep_names p h t l))))

keep_wide : (p : List ℕ → Bool) (l : List (List ℕ)) → Wide l → Wide (keep p l)
unfolding keep every
keep_wide p [] w = refl
keep_wide p (x ∷ l) w =
    let r = keep_wide p l (and_snd (eqb (length x) 32) (every (λ h. eqb (length h) 32) l) w) in
    by_bool (p x) (λ t. rw t (and_both (eqb (length x) 32) (every (λ h. eqb (length h) 32) (keep p l)) (and_fst (eqb (length x) 32) (every (λ h. eqb (length h) 32) l) w) r)) (λ f. rw f r)

pub keep_ext : (p q : List ℕ → Bool) → ((h : List ℕ) → p h ≡ q h) → (l : List (List ℕ)) → keep p l ≡ keep q l
unfolding keep
keep_ext p q e [] = refl
keep_ext p q e (x ∷ l) = ap₂ (λ (b : Bool) (r : List (List ℕ)). cond b (x ∷ r) r) (e x) (keep_ext p q e l)

-- ---- the last hash may as well stand first

or_swap : (a b c : Bool) → (a || (b || c)) ≡ (b || (a || c))
or_swap true true c = refl
or_swap true false c = refl
or_swap false b c = refl

last_first : (l : List (List ℕ)) (h : List ℕ) → NamesSame (l ++ (h ∷ [])) (h ∷ l)
unfolding names
last_first [] h k = refl
last_first (x ∷ l) h k = ap (λ (b : Bool). same_list x k || b) (last_first l h k) ∙ or_swap (same_list x k) (same_list h k) (names k l)

pub ascending_last : (l : List (List ℕ)) (h : List ℕ) → ascending (l ++ (h ∷ [])) ≡ ascending (h ∷ l)
ascending_last l h = ascending_same (l ++ (h ∷ [])) (h ∷ l) (last_first l h)

-- ---- the first i hashes of a list of bytes

module _ (bytes : List ℕ) where
  hashes_next : (i : ℕ) → hashes_from bytes (i + 1) 0 ≡ hashes_from bytes i 0 ++ (hash_at bytes i ∷ [])
  unfolding hashes_from
  hashes_next i = hashes_split bytes i 1 0 ∙ ap (λ (n : ℕ). hashes_from bytes i 0 ++ (hash_at bytes n ∷ [])) zeroed
    where
      zeroed : 0 + i ≡ i
      zeroed = omega arith

  hashes_wide : (left i : ℕ) → 32 * (i + left) ≤ length bytes → Wide (hashes_from bytes left i)
  unfolding hashes_from every
  hashes_wide zero i l = refl
  hashes_wide (suc left) i l = wide_cons (hash_at bytes i) (hashes_from bytes left (suc i)) (hash_length bytes i (omega arith)) (hashes_wide left (suc i) (omega arith))

-- those of them that pass
abbrev pub kept_to : (List ℕ → Bool) → List ℕ → ℕ → List (List ℕ)
kept_to p bytes i = keep p (hashes_from bytes i 0)

-- hash i passes, and is none of those before it
abbrev pub new_at : (List ℕ → Bool) → List ℕ → ℕ → Bool
new_at p bytes i = not (names (hash_at bytes i) (hashes_from bytes i 0)) && p (hash_at bytes i)

module _ (p : List ℕ → Bool) (bytes : List ℕ) where
  module _ (i : ℕ) where
    pub kept_hit : p (hash_at bytes i) ≡ true → ascending (kept_to p bytes (i + 1)) ≡ ascending (hash_at bytes i ∷ kept_to p bytes i)
    kept_hit t =
        ap (λ (l : List (List ℕ)). ascending (keep p l)) (hashes_next bytes i)
        ∙ ap ascending (keep_last p (hashes_from bytes i 0) (hash_at bytes i) ∙ ap (λ (b : Bool). kept_to p bytes i ++ cond b (hash_at bytes i ∷ []) []) t)
        ∙ ascending_last (kept_to p bytes i) (hash_at bytes i)

    pub kept_miss : p (hash_at bytes i) ≡ false → kept_to p bytes (i + 1) ≡ kept_to p bytes i
    kept_miss f =
        ap (keep p) (hashes_next bytes i)
        ∙ keep_last p (hashes_from bytes i 0) (hash_at bytes i)
        ∙ ap (λ (b : Bool). kept_to p bytes i ++ cond b (hash_at bytes i ∷ []) []) f
        ∙ append-nil (kept_to p bytes i)

    -- one more, or as many
    kept_step : length (ascending (kept_to p bytes (i + 1))) ≡ length (ascending (kept_to p bytes i)) + cond (new_at p bytes i) 1 0
    kept_step =
        by_bool (p (hash_at bytes i))
        (λ t.
        ap length (kept_hit t)
        ∙ ascending_long (hash_at bytes i) (kept_to p bytes i)
        ∙ ap (λ (b : Bool). length (ascending (kept_to p bytes i)) + cond b 0 1) (keep_names p (hash_at bytes i) t (hashes_from bytes i 0))
        ∙ rw t (by_bool (names (hash_at bytes i) (hashes_from bytes i 0)) (λ y. rw y) (λ n. rw n)))
        (λ f.
        ap (λ (l : List (List ℕ)). length (ascending l)) (kept_miss f)
        ∙ rw f (by_bool (names (hash_at bytes i) (hashes_from bytes i 0)) (λ y. rw y (omega arith)) (λ n. rw n (omega arith))))

  -- as many different ones as there are first ones
  pub kept_long : (i : ℕ) → length (ascending (kept_to p bytes i)) ≡ tally (new_at p bytes) i
  unfolding tally keep hashes_from ascending
  kept_long zero = refl
  kept_long (suc i) =
      let e : suc i ≡ i + 1 = omega arith in
      ap (λ (n : ℕ). length (ascending (kept_to p bytes n))) e
      ∙ kept_step i
      ∙ ap (λ (n : ℕ). n + cond (new_at p bytes i) 1 0) (kept_long i)

  pub kept_wide : (i : ℕ) → 32 * i ≤ length bytes → Wide (kept_to p bytes i)
  kept_wide i l = keep_wide p (hashes_from bytes i 0) (hashes_wide bytes i 0 (omega arith))

  -- those of a part are no more than those of the whole
  pub kept_fewer : (i m : ℕ) → i ≤ m → length (ascending (kept_to p bytes i)) ≤ length (ascending (kept_to p bytes m))
  kept_fewer i m l =
      let a = kept_long i in
      let b = kept_long m in
      let w = tally_wider (new_at p bytes) i (m - i) in
      let e : i + (m - i) ≡ m = omega arith in
      let q = ap (tally (new_at p bytes)) e in
      omega arith

-- ---- the loop that enters them: i of m are looked at

entering_as : {l m : List (List ℕ)} {out₀ out : List ℕ} {c : ℕ} → Entering l out₀ out c → ascending l ≡ ascending m → Entering m out₀ out c
entering_as {l} {m} {out₀} {out} v e = record {
  same = v.same ∙ ap (λ (s : List (List ℕ)). flat s ++ drop (32 * length s) out₀) e;
  long = v.long ∙ ap length e;
  kept = v.kept;
}

pub kept_start : (p : List ℕ → Bool) (bytes out : List ℕ) → Entering (kept_to p bytes 0) out out 0
unfolding keep hashes_from
kept_start p bytes out = entering_start out

module _ (p : List ℕ → Bool) (bytes : List ℕ) (m : ℕ) (inside : 32 * m ≤ length bytes) {out₀ out : List ℕ} {c i : ℕ} (v : Entering (kept_to p bytes i) out₀ out c) (fits : 32 * tally (new_at p bytes) m ≤ length out₀) where
  -- c is within the room
  pub kept_room : i ≤ m → 32 * c ≤ length out₀
  kept_room l = let n = v.long in let a = kept_fewer p bytes i m l in let b = kept_long p bytes m in omega arith

  module _ (l : i < m) where
    module _ (t : p (hash_at bytes i) ≡ true) where
      enough : 32 * length (ascending (hash_at bytes i ∷ kept_to p bytes i)) ≤ length out₀
      enough = let a = kept_fewer p bytes (i + 1) m (omega arith) in let b = kept_long p bytes m in let e = ap length (kept_hit p bytes i t) in omega arith

      pub enter_room : 32 * length (enter (hash_at bytes i) (hashes_from out c 0)) ≤ length out
      enter_room = entering_room v (kept_wide p bytes i (omega arith)) (hash_at bytes i) enough

      pub enter_next : (out' : List ℕ) (r : ℕ) → r ≡ length (enter (hash_at bytes i) (hashes_from out c 0))
          → out' ≡ flat (enter (hash_at bytes i) (hashes_from out c 0)) ++ drop (32 * length (enter (hash_at bytes i) (hashes_from out c 0))) out → Entering (kept_to p bytes (i + 1)) out₀ out' r
      enter_next out' r n s =
          entering_as (entering_next v (kept_wide p bytes i (omega arith)) (hash_at bytes i) enough (hash_length bytes i (omega arith)) out' r n s) (sym (kept_hit p bytes i t))

    pub enter_skip : p (hash_at bytes i) ≡ false → Entering (kept_to p bytes (i + 1)) out₀ out c
    enter_skip f = entering_as v (ap ascending (sym (kept_miss p bytes i f)))

  -- at the end
  module _ (e : i ≡ m) where
    last : Entering (kept_to p bytes m) out₀ out c
    last = subst (λ (n : ℕ). Entering (kept_to p bytes n) out₀ out c) e v

    all_fit : 32 * length (ascending (kept_to p bytes m)) ≤ length out₀
    all_fit = let a = kept_long p bytes m in omega arith

    pub kept_told : Ok (32 * c) ≡ list_answer (flat (ascending (kept_to p bytes m))) (length out₀)
    kept_told = entering_told last (kept_wide p bytes m inside) all_fit

    pub kept_whole : out ≡ filled (flat (ascending (kept_to p bytes m))) out₀
    kept_whole = entering_whole last (kept_wide p bytes m inside) all_fit

-- how long the answer is
pub bytes_long : (p : List ℕ → Bool) (bytes : List ℕ) (m : ℕ) → 32 * m ≤ length bytes → length (flat (ascending (kept_to p bytes m))) ≡ 32 * tally (new_at p bytes) m
bytes_long p bytes m l = flat_long (ascending (kept_to p bytes m)) (wide_ascending (kept_to p bytes m) (kept_wide p bytes m l)) ∙ ap (λ (n : ℕ). 32 * n) (kept_long p bytes m)
