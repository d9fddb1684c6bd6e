-- Loops over the numbers below n that count those that pass a test, or list them: as numbers, or as the hashes f k.
-- Assumes nothing.
use Rattle.std.specs.Prelude.{◌≡◌, refl, Bool, true, false, cond, List, [], ◌∷◌, ◌++◌, map, ℕ, zero, suc, ◌+◌, ◌*◌, ◌-◌, ◌≤◌, ◌<◌, length, set}
use Rattle.std.specs.Int.{from_bool}
use Rattle.std.proofs.Common.{sym, ap, ◌∙◌, add-one, arith, length-append}
use Rattle.paper.specs.Lists.{pick, tally}
use Rattle.paper.specs.Text.{flat}
use Rattle.paper.proofs.Bools.{tally_up, by_bool}
use Rattle.paper.proofs.Count.{pick_length, pick_more, tally_most}
use Rattle.list_laws.specs.Over.{over, over_one}
use Rattle.answer_buffer.specs.AnswerLaws.{Holds, holds_next, holds_as, flat_append, flat_one}

-- ---- counting

module _ (p : ℕ → Bool) (k c : ℕ) where
  pub tally_hit : p k ≡ true → c ≡ tally p k → c + 1 ≡ tally p (k + 1)
  unfolding tally
  tally_hit t e = rw (add-one k, t) (ap (λ (x : ℕ). x + 1) e)

  pub tally_miss : p k ≡ false → c ≡ tally p k → c ≡ tally p (k + 1)
  unfolding tally
  tally_miss f e = rw (add-one k, f) (e ∙ omega arith)

  -- a yes counts 1, a no 0
  pub tally_by : (b : Bool) → b ≡ p k → c ≡ tally p k → c + from_bool b ≡ tally p (k + 1)
  tally_by true t e = tally_hit (sym t) e
  tally_by false f e = let n = tally_miss (sym f) e in omega arith

  pub tally_fits : c ≡ tally p k → c ≤ k
  tally_fits e = let m = tally_most p k in omega arith

pub at_most_one : (b : Bool) → from_bool b ≤ 1
at_most_one true = omega arith
at_most_one false = omega arith

-- ---- listing

pick_hit : (p : ℕ → Bool) (k : ℕ) → p k ≡ true → pick p (k + 1) ≡ pick p k ++ (k ∷ [])
unfolding pick
pick_hit p k t = rw (add-one k, t)

pick_miss : (p : ℕ → Bool) (k : ℕ) → p k ≡ false → pick p (k + 1) ≡ pick p k
unfolding pick
pick_miss p k f = rw (add-one k, f)

-- numbers
module _ (p : ℕ → Bool) (n : ℕ) {out₀ out : List ℕ} {c k : ℕ} (h : Holds (pick p k) out₀ out c) where
  module _ (fits : tally p n ≤ length out₀) (l : k < n) (t : p k ≡ true) where
    pub pick_room : c < length out
    pick_room = let u = tally_up p n k l t in let a = h.long in let b = h.kept in let d = pick_length p k in omega arith

    pub pick_put : Holds (pick p (k + 1)) out₀ (set out c k) (c + 1)
    pick_put =
        let r = pick_room in
        let b = h.kept in
        rw (over_one out c k r) (holds_as (holds_next h (k ∷ []) 1 refl (omega arith)) (pick p (k + 1)) (sym (pick_hit p k t)))

  pub pick_pass : p k ≡ false → Holds (pick p (k + 1)) out₀ out c
  pick_pass f = holds_as h (pick p (k + 1)) (sym (pick_miss p k f))

map_append : {A B : Type 0} (f : A → B) (a b : List A) → map f (a ++ b) ≡ map f a ++ map f b
map_append f [] b = refl
map_append f (x ∷ a) b = ap (λ (r : List _). f x ∷ r) (map_append f a b)

-- the hashes f k
hash_hit : (f : ℕ → List ℕ) (l : List ℕ) (k : ℕ) → flat (map f (l ++ (k ∷ []))) ≡ flat (map f l) ++ f k
hash_hit f l k = ap flat (map_append f l (k ∷ [])) ∙ flat_append (map f l) (f k ∷ []) ∙ ap (λ (r : List ℕ). flat (map f l) ++ r) (flat_one (f k))

pub hashes_length : (f : ℕ → List ℕ) (p : ℕ → Bool) (k : ℕ) → ((j : ℕ) → j < k → length (f j) ≡ 32) → length (flat (map f (pick p k))) ≡ 32 * tally p k
unfolding pick tally flat
hashes_length f p zero wide = refl
hashes_length f p (suc k) wide =
    let r = hashes_length f p k (λ j l. wide j (omega arith)) in
    let w = wide k (omega arith) in
    by_bool (p k)
    (λ t. rw t (ap length (hash_hit f (pick p k) k) ∙ (let a = length-append (flat (map f (pick p k))) (f k) in omega arith)))
    (λ e. rw e (omega arith))

module _ (f : ℕ → List ℕ) (p : ℕ → Bool) (n : ℕ) (wide : (j : ℕ) → j < n → length (f j) ≡ 32) {out₀ out : List ℕ} {c k : ℕ} (h : Holds (flat (map f (pick p k))) out₀ out c) (l : k < n) where
  module _ (fits : 32 * tally p n ≤ length out₀) (t : p k ≡ true) where
    pub put_room : c + 32 ≤ length out
    put_room =
        let u = tally_up p n k l t in
        let a = h.long in
        let b = h.kept in
        let d = hashes_length f p k (λ j q. wide j (omega arith)) in
        omega arith

    pub put_hit : Holds (flat (map f (pick p (k + 1)))) out₀ (over out c (f k)) (c + 32)
    put_hit =
        let r = put_room in
        let b = h.kept in
        holds_as (holds_next h (f k) 32 (wide k l) (omega arith)) (flat (map f (pick p (k + 1)))) (sym (ap (λ (s : List ℕ). flat (map f s)) (pick_hit p k t) ∙ hash_hit f (pick p k) k))

  pub put_pass : p k ≡ false → Holds (flat (map f (pick p (k + 1)))) out₀ out c
  put_pass e = holds_as h (flat (map f (pick p (k + 1)))) (sym (ap (λ (s : List ℕ). flat (map f s)) (pick_miss p k e)))

-- ---- from the end

-- of the `left` numbers from k on those that pass
unfoldable pub rest_of : (ℕ → Bool) → ℕ → ℕ → List ℕ
rest_of p zero k = []
rest_of p (suc left) k = cond (p k) (k ∷ rest_of p left (suc k)) (rest_of p left (suc k))

rest_last : (p : ℕ → Bool) (n k : ℕ) → rest_of p (suc n) k ≡ rest_of p n k ++ cond (p (k + n)) ((k + n) ∷ []) []
unfolding rest_of
rest_last p zero k = let e : k + 0 ≡ k = omega arith in rw e
rest_last p (suc n) k =
    let e : k + suc n ≡ suc k + n = omega arith in
    let r = rest_last p n (suc k) in
    by_bool (p k) (λ t. rw (t, e) (ap (λ (s : List ℕ). k ∷ s) r)) (λ f. rw (f, e) r)

pub rest_all : (p : ℕ → Bool) (n : ℕ) → pick p n ≡ rest_of p n 0
unfolding pick rest_of
rest_all p zero = refl
rest_all p (suc n) = sym (pick_more p n) ∙ ap (λ (s : List ℕ). s ++ cond (p n) (n ∷ []) []) (rest_all p n) ∙ sym (rest_last p n 0 ∙ ap (λ (i : ℕ). rest_of p n 0 ++ cond (p i) (i ∷ []) []) zeroed)
  where
    zeroed : 0 + n ≡ n
    zeroed = omega arith

-- a scan from the end that goes from suc k to k
module _ (p : ℕ → Bool) (n k : ℕ) (l : k < n) where
  left_one : n - k ≡ suc (n - (k + 1))
  left_one = omega arith

  pub rest_hit : p k ≡ true → rest_of p (n - k) k ≡ k ∷ rest_of p (n - (k + 1)) (k + 1)
  unfolding rest_of
  rest_hit t = rw (left_one, t, add-one)

  pub rest_miss : p k ≡ false → rest_of p (n - k) k ≡ rest_of p (n - (k + 1)) (k + 1)
  unfolding rest_of
  rest_miss f = rw (left_one, f, add-one)
