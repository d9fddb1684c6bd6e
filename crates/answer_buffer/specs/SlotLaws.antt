-- The steps of entering a hash into an ascending list.
-- Assumes nothing.
use Rattle.std.proofs.Math.Path.{◌≡◌, sym, ap, ap₂}
use Rattle.std.specs.Prelude.{refl, Bool, true, false, ℕ, zero, suc, ◌+◌, ◌*◌, ◌-◌, ◌≤◌, ◌<◌, get_or, set, Some, None}
use Rattle.std.specs.Ordering.{nat_cmp, ordering_then}
use Rattle.std.specs.Cmp.Lexicographic.{slice_cmp}
use borrow.Author.Tests.{ltb-true, eqb-true}
use Rattle.std.proofs.Common.{◌∙◌, add-one, ne_eqb, length-append, length-take, length-drop, take-append-drop, take-suc, drop-cons, take-add, drop-drop, get_or-take, lt-ltb, le-ltb}
use Rattle.std.proofs.Math.Bool.{cond}
use mathlib.Core.List.{List, [], ◌∷◌, ◌++◌, append_assoc}
use Rattle.std.proofs.Math.Nat.{sub-zero}
use native.Mathlib.Omega.{arith}
use Rattle.std.proofs.Math.Dec.{eqb, ltb}
use Rattle.std.proofs.Math.ListN.{length, take, drop, get_or-append}
use Rattle.std.proofs.lemmas.List.{set_at}
use Rattle.std.proofs.Math.Seq.{take_at, drop_at, take-append-le, take-take, length-take-le, append_snoc}
use Rattle.paper.specs.Lists.{same_list, less_list, hash_at, hashes_from, enter}
use Rattle.paper.proofs.Bools.{by_bool}
use Rattle.hash.specs.HashLaws.{same_step, same_stop, same_end, hash_length, hash_byte}
use Rattle.hash.specs.Order.{less_step, less_stop}
use Rattle.list_laws.specs.Over.{over}
use Rattle.paper.specs.Text.{flat}
use Rattle.answer_buffer.specs.AnswerLaws.{flat_append}
use Rattle.answer_buffer.specs.Slots.{order_of, slot, shifted}
use Rattle.std.specs.declared.cmp.Ordering.{Ordering}
use Rattle.std.specs.declared.cmp.Ordering.TheVariants.{Less, Equal, Greater}

-- ---- the library's order of slices of bytes

-- the first pair of bytes decides, or else the rest
by_pair : (b c : Bool) → (b ≡ true → c ≡ true → ⊥) → (rest : Ordering) (s t : Bool) → rest ≡ cond s Equal (cond t Less Greater)
    → ordering_then (cond b Less (cond c Equal Greater)) rest ≡ cond (cond c s false) Equal (cond (cond c t b) Less Greater)
by_pair true true n rest s t e = absurd (n refl refl)
by_pair true false n rest s t e = refl
by_pair false true n rest s t e = e
by_pair false false n rest s t e = refl

pair_decides : (x y : ℕ) (rest : Ordering) (s t : Bool) → rest ≡ cond s Equal (cond t Less Greater)
    → ordering_then (nat_cmp x y) rest ≡ cond (cond (eqb x y) s false) Equal (cond (cond (eqb x y) t (ltb x y)) Less Greater)
pair_decides x y = by_pair (ltb x y) (eqb x y) (λ l e. omega (arith, ltb-true x y l, eqb-true x y e))

pub order_is : (xs ys : List ℕ) → slice_cmp nat_cmp xs ys ≡ order_of xs ys
unfolding order_of same_list less_list
order_is [] [] = refl
order_is [] (y ∷ ys) = refl
order_is (x ∷ xs) [] = refl
order_is (x ∷ xs) (y ∷ ys) = pair_decides x y (slice_cmp nat_cmp xs ys) (same_list xs ys) (less_list xs ys) (order_is xs ys)

-- ---- comparing hash k of xs with hash i of ys, at byte j

module _ (xs : List ℕ) (k : ℕ) (ys : List ℕ) (i : ℕ) (fx : 32 * k + 32 ≤ length xs) (fy : 32 * i + 32 ≤ length ys) (j : ℕ) where
  inx : j < 32 → j < length (hash_at xs k)
  inx l = rw (hash_length xs k fx) l

  iny : j < 32 → j < length (hash_at ys i)
  iny l = rw (hash_length ys i fy) l

  bytes : j < 32 → get_or xs (32 * k + j) 0 ≡ get_or ys (32 * i + j) 0 → get_or (hash_at xs k) j 0 ≡ get_or (hash_at ys i) j 0
  bytes l e = hash_byte xs k fx j l ∙ e ∙ sym (hash_byte ys i fy j l)

  differ : j < 32 → (get_or xs (32 * k + j) 0 ≡ get_or ys (32 * i + j) 0 → ⊥) → get_or (hash_at xs k) j 0 ≡ get_or (hash_at ys i) j 0 → ⊥
  differ l n q = n (sym (hash_byte xs k fx j l) ∙ q ∙ hash_byte ys i fy j l)

  pub order_next : j < 32 → get_or xs (32 * k + j) 0 ≡ get_or ys (32 * i + j) 0
      → order_of (drop j (hash_at xs k)) (drop j (hash_at ys i)) ≡ order_of (drop (j + 1) (hash_at xs k)) (drop (j + 1) (hash_at ys i))
  unfolding order_of
  order_next l e =
      ap₂ (λ (a b : Bool). cond a Equal (cond b Less Greater))
      (same_step (hash_at xs k) (hash_at ys i) j (inx l) (iny l) (bytes l e))
      (less_step (hash_at xs k) (hash_at ys i) j (inx l) (iny l) (bytes l e))

  stop : (b : Bool) → j < 32 → (get_or xs (32 * k + j) 0 ≡ get_or ys (32 * i + j) 0 → ⊥) → ltb (get_or xs (32 * k + j) 0) (get_or ys (32 * i + j) 0) ≡ b
      → order_of (drop j (hash_at xs k)) (drop j (hash_at ys i)) ≡ cond b Less Greater
  unfolding order_of
  stop b l n e =
      ap₂ (λ (a b : Bool). cond a Equal (cond b Less Greater))
      (same_stop (hash_at xs k) (hash_at ys i) j (inx l) (iny l) (differ l n))
      (less_stop (hash_at xs k) (hash_at ys i) j (inx l) (iny l) (differ l n)
      ∙ ap₂ ltb (hash_byte xs k fx j l) (hash_byte ys i fy j l) ∙ e)

  pub order_less : j < 32 → get_or xs (32 * k + j) 0 < get_or ys (32 * i + j) 0 → order_of (drop j (hash_at xs k)) (drop j (hash_at ys i)) ≡ Less
  order_less l b = stop true l (λ q. omega arith) (lt-ltb _ _ b)

  pub order_greater : j < 32 → (get_or xs (32 * k + j) 0 ≡ get_or ys (32 * i + j) 0 → ⊥) → get_or ys (32 * i + j) 0 ≤ get_or xs (32 * k + j) 0 → order_of (drop j (hash_at xs k)) (drop j (hash_at ys i)) ≡ Greater
  order_greater l n b = stop false l n (le-ltb _ _ b)

  -- where they part at byte j, that byte decides
  pub order_parts : j < 32 → (get_or xs (32 * k + j) 0 ≡ get_or ys (32 * i + j) 0 → ⊥) → nat_cmp (get_or xs (32 * k + j) 0) (get_or ys (32 * i + j) 0) ≡ order_of (drop j (hash_at xs k)) (drop j (hash_at ys i))
  order_parts l n =
      by_bool (ltb (get_or xs (32 * k + j) 0) (get_or ys (32 * i + j) 0)) (λ t. rw t (sym (stop true l n t)))
      (λ f. rw (f, ne_eqb (get_or xs (32 * k + j) 0) (get_or ys (32 * i + j) 0) n) (sym (stop false l n f)))

  pub order_same : 32 ≤ j → order_of (drop j (hash_at xs k)) (drop j (hash_at ys i)) ≡ Equal
  unfolding order_of
  order_same l = rw (same_end (hash_at xs k) (hash_at ys i) j (rw (hash_length xs k fx) l) (rw (hash_length ys i fy) l))

-- ---- the search for the slot, at place i of c

module _ (h out : List ℕ) (c i : ℕ) where
  left_one : i < c → c - i ≡ suc (c - (i + 1))
  left_one l = omega arith

  pub slot_less : i < c → order_of h (hash_at out i) ≡ Less → slot h (hashes_from out (c - i) i) i ≡ Some i
  unfolding slot hashes_from order_of
  slot_less l e =
      by_bool (same_list h (hash_at out i)) (λ t. let q : Equal ≡ Less = rw t at e in let z : ◌≡◌ {A = ℕ} 0 1 = cc in absurd (omega arith))
      (λ f. by_bool (less_list h (hash_at out i)) (λ t. rw (left_one l, f, t)) (λ g. let q : Greater ≡ Less = rw (f, g) at e in let z : ◌≡◌ {A = ℕ} 0 1 = cc in absurd (omega arith)))

  pub slot_same : i < c → order_of h (hash_at out i) ≡ Equal → slot h (hashes_from out (c - i) i) i ≡ None
  unfolding slot hashes_from order_of
  slot_same l e =
      by_bool (same_list h (hash_at out i)) (λ t. rw (left_one l, t))
      (λ f. by_bool (less_list h (hash_at out i)) (λ t. let q : Less ≡ Equal = rw (f, t) at e in let z : ◌≡◌ {A = ℕ} 0 1 = cc in absurd (omega arith)) (λ g. let q : Greater ≡ Equal = rw (f, g) at e in let z : ◌≡◌ {A = ℕ} 0 1 = cc in absurd (omega arith)))

  pub slot_greater : i < c → order_of h (hash_at out i) ≡ Greater → slot h (hashes_from out (c - i) i) i ≡ slot h (hashes_from out (c - (i + 1)) (i + 1)) (i + 1)
  unfolding slot hashes_from order_of
  slot_greater l e =
      by_bool (same_list h (hash_at out i)) (λ t. let q : Equal ≡ Greater = rw t at e in let z : ◌≡◌ {A = ℕ} 0 1 = cc in absurd (omega arith))
      (λ f. by_bool (less_list h (hash_at out i)) (λ t. let q : Less ≡ Greater = rw (f, t) at e in let z : ◌≡◌ {A = ℕ} 0 1 = cc in absurd (omega arith)) (λ g. rw (left_one l, f, g, add-one)))

  pub slot_end : c ≤ i → slot h (hashes_from out (c - i) i) i ≡ Some i
  unfolding slot hashes_from
  slot_end l = let z : c - i ≡ 0 = omega arith in rw z

pub slot_start : (h out : List ℕ) (c : ℕ) → slot h (hashes_from out (c - 0) 0) 0 ≡ slot h (hashes_from out c 0) 0
slot_start h out c = rw sub-zero

-- what the slot says of entering
pub enter_there : (h : List ℕ) (l : List (List ℕ)) (i : ℕ) → slot h l i ≡ None → enter h l ≡ l
unfolding slot enter
enter_there h [] i e = let z : ◌≡◌ {A = ℕ} 0 1 = cc in absurd (omega arith)
enter_there h (x ∷ xs) i e =
    by_bool (same_list h x) (λ t. rw t)
    (λ f.
    by_bool (less_list h x) (λ t. let q : Some i ≡ None = rw (f, t) at e in let z : ◌≡◌ {A = ℕ} 0 1 = cc in absurd (omega arith))
    (λ g. rw (f, g) (ap (λ (r : List (List ℕ)). x ∷ r) (enter_there h xs (suc i) (rw (f, g) at e)))))

pub record Entered (h : List ℕ) (l : List (List ℕ)) (i : ℕ) : Type 0 where
  pub low : i ≤ length l
  pub parts : enter h l ≡ take i l ++ (h ∷ drop i l)

slot_far : (h : List ℕ) (l : List (List ℕ)) (a j : ℕ) → slot h l a ≡ Some j → a ≤ j
unfolding slot
slot_far h [] a j e = let q : a ≡ j = cc in omega arith
slot_far h (y ∷ ys) a j e =
    by_bool (same_list h y) (λ t. let q : None ≡ Some j = rw t at e in let z : ◌≡◌ {A = ℕ} 0 1 = cc in absurd (omega arith))
    (λ f.
    by_bool (less_list h y) (λ t. let q : Some a ≡ Some j = rw (f, t) at e in let q' : a ≡ j = cc in omega arith)
    (λ g. let r = slot_far h ys (suc a) j (rw (f, g) at e) in omega arith))

pub enter_before : (h : List ℕ) (l : List (List ℕ)) (b i : ℕ) → slot h l b ≡ Some (b + i) → Entered h l i
unfolding slot enter
enter_before h [] b i e = let q : b ≡ b + i = cc in let z : i ≡ 0 = omega arith in record { low = omega arith; parts = rw z }
enter_before h (x ∷ xs) b i e =
    by_bool (same_list h x) (λ t. let q : None ≡ Some (b + i) = rw t at e in let z : ◌≡◌ {A = ℕ} 0 1 = cc in absurd (omega arith))
    (λ f.
    by_bool (less_list h x)
    (λ t. let q : Some b ≡ Some (b + i) = rw (f, t) at e in let q' : b ≡ b + i = cc in let z : i ≡ 0 = omega arith in record { low = omega arith; parts = rw (f, t, z) })
    (λ g. further i (rw (f, g) at e) f g (λ j. enter_before h xs (suc b) j)))
  where
    further : (i : ℕ) → slot h xs (suc b) ≡ Some (b + i) → same_list h x ≡ false → less_list h x ≡ false → ((j : ℕ) → slot h xs (suc b) ≡ Some (suc b + j) → Entered h xs j) → Entered h (x ∷ xs) i
    further zero e f g ih = let r = slot_far h xs (suc b) (b + 0) e in absurd (omega arith)
    further (suc j) e f g ih =
        let n : b + suc j ≡ suc b + j = omega arith in
        let r = ih j (rw n at e) in
        record { low = (let w = r.low in omega arith); parts = rw (f, g) (ap (λ (s : List (List ℕ)). x ∷ s) r.parts) }

-- ---- moving up

pub shift_start : (out : List ℕ) (to : ℕ) → out ≡ shifted out to to
unfolding shifted
shift_start out to = let z : to - to ≡ 0 = omega arith in rw z (sym (take-append-drop (to + 32) out))

-- one byte
pub shift_next : (out₀ out : List ℕ) (b a to : ℕ) → b ≡ a + 1 → b ≤ to → to + 32 ≤ length out₀ → out ≡ shifted out₀ b to → set out (a + 32) (get_or out a 0) ≡ shifted out₀ a to
unfolding shifted
shift_next out₀ out b a to e l fits same =
    let rest = take (to - b) (drop b out₀) ++ drop (to + 32) out₀ in
    let x = get_or out₀ (a + 32) 0 in
    let n : b + 32 ≡ suc (a + 32) = omega arith in
    let low : length (take (a + 32) out₀) ≡ a + 32 = length-take-le (a + 32) out₀ (omega arith) in
    let apart : out ≡ take (a + 32) out₀ ++ x ∷ rest =
    same ∙ ap (λ (i : ℕ). take i out₀ ++ rest) n ∙ ap (λ (s : List ℕ). s ++ rest) (take-suc out₀ (a + 32) 0 (omega arith)) ∙ append_snoc (take (a + 32) out₀) x rest in
    let read : get_or out a 0 ≡ get_or out₀ a 0 =
    ap (λ (s : List ℕ). get_or s a 0) apart ∙ get_or-append (take (a + 32) out₀) (x ∷ rest) 0 a (omega arith) ∙ get_or-take (a + 32) out₀ a 0 (omega arith) in
    let m : to - a ≡ suc (to - b) = omega arith in
    let f : suc a ≡ b = omega arith in
    let cut : take (to - a) (drop a out₀) ≡ get_or out₀ a 0 ∷ take (to - b) (drop b out₀) =
    ap (λ (s : List ℕ). take (to - a) s) (drop-cons out₀ a 0 (omega arith)) ∙ ap (λ (i : ℕ). take i (get_or out₀ a 0 ∷ drop (suc a) out₀)) m ∙ ap (λ (i : ℕ). get_or out₀ a 0 ∷ take (to - b) (drop i out₀)) f in
    ap (λ (s : List ℕ). set s (a + 32) (get_or out a 0)) apart
    ∙ set_at (take (a + 32) out₀) x rest (get_or out a 0) (a + 32) low
    ∙ ap (λ (v : ℕ). take (a + 32) out₀ ++ v ∷ rest) read
    ∙ ap (λ (s : List ℕ). take (a + 32) out₀ ++ (s ++ drop (to + 32) out₀)) (sym cut)

-- ---- the hashes of a buffer

pub hashes_long : (out : List ℕ) (n i : ℕ) → length (hashes_from out n i) ≡ n
unfolding hashes_from
hashes_long out zero i = refl
hashes_long out (suc n) i = ap suc (hashes_long out n (suc i))

pub hashes_split : (out : List ℕ) (a n i : ℕ) → hashes_from out (a + n) i ≡ hashes_from out a i ++ hashes_from out n (i + a)
unfolding hashes_from
hashes_split out zero n i = let z : 0 + n ≡ n = omega arith in let y : i + 0 ≡ i = omega arith in rw (z, y)
hashes_split out (suc a) n i =
    let z : suc a + n ≡ suc (a + n) = omega arith in
    let y : i + suc a ≡ suc i + a = omega arith in
    rw (z, y) (ap (λ (r : List (List ℕ)). hash_at out i ∷ r) (hashes_split out a n (suc i)))

pub flat_hashes : (out : List ℕ) (n i : ℕ) → flat (hashes_from out n i) ≡ take (32 * n) (drop (32 * i) out)
unfolding hashes_from flat hash_at
flat_hashes out zero i = refl
flat_hashes out (suc n) i =
    let z : 32 * suc n ≡ 32 + 32 * n = omega arith in
    let y : 32 * i + 32 ≡ 32 * suc i = omega arith in
    ap (λ (r : List ℕ). take 32 (drop (32 * i) out) ++ r) (flat_hashes out n (suc i) ∙ ap (λ (k : ℕ). take (32 * n) (drop k out)) (sym y) ∙ ap (take (32 * n)) (sym (drop-drop 32 (32 * i) out)))
    ∙ sym (take-add 32 (32 * n) (drop (32 * i) out))
    ∙ ap (λ (k : ℕ). take k (drop (32 * i) out)) (sym z)

-- ---- the whole

module _ (out : List ℕ) (c : ℕ) (h : List ℕ) (i : ℕ) (v : Entered h (hashes_from out c 0) i) where
  place_low : i ≤ c
  place_low = let w = v.low in let n = hashes_long out c 0 in omega arith

  -- one more
  pub entered_long : length (enter h (hashes_from out c 0)) ≡ c + 1
  entered_long =
      let n = hashes_long out c 0 in
      let w = v.low in
      ap length v.parts ∙ simp (length-append, length-take, length-drop) (omega arith)

  halves : hashes_from out c 0 ≡ hashes_from out i 0 ++ hashes_from out (c - i) i
  halves = let l = place_low in let e : c ≡ i + (c - i) = omega arith in ap (λ (n : ℕ). hashes_from out n 0) e ∙ hashes_split out i (c - i) 0 ∙ ap (λ (k : ℕ). hashes_from out i 0 ++ hashes_from out (c - i) k) zeroed
    where
      zeroed : 0 + i ≡ i
      zeroed = omega arith

  bytes_of : flat (enter h (hashes_from out c 0)) ≡ take (32 * i) out ++ (h ++ take (32 * c - 32 * i) (drop (32 * i) out))
  unfolding flat
  bytes_of =
      let l = place_low in
      let first : take i (hashes_from out c 0) ≡ hashes_from out i 0 = ap (take i) halves ∙ take_at (hashes_from out i 0) (hashes_from out (c - i) i) i (hashes_long out i 0) in
      let last : drop i (hashes_from out c 0) ≡ hashes_from out (c - i) i = ap (drop i) halves ∙ drop_at (hashes_from out i 0) (hashes_from out (c - i) i) i (hashes_long out i 0) in
      let m : 32 * (c - i) ≡ 32 * c - 32 * i = omega arith in
      ap flat v.parts
      ∙ flat_append (take i (hashes_from out c 0)) (h ∷ drop i (hashes_from out c 0))
      ∙ ap₂ (λ (a b : List ℕ). a ++ (h ++ b))
      (ap flat first ∙ flat_hashes out i 0)
      (ap flat last ∙ flat_hashes out (c - i) i ∙ ap (λ (n : ℕ). take n (drop (32 * i) out)) m)

  module _ (long : length h ≡ 32) (fits : 32 * c + 32 ≤ length out) where
    pub entered_bytes : over (shifted out (32 * i) (32 * c)) (32 * i) h ≡ flat (enter h (hashes_from out c 0)) ++ drop (32 * length (enter h (hashes_from out c 0))) out
    unfolding over shifted
    entered_bytes =
        let l = place_low in
        let rest = take (32 * c - 32 * i) (drop (32 * i) out) ++ drop (32 * c + 32) out in
        let front : length (take (32 * i + 32) out) ≡ 32 * i + 32 = length-take-le (32 * i + 32) out (omega arith) in
        let a : take (32 * i) (take (32 * i + 32) out ++ rest) ≡ take (32 * i) out = take-append-le (32 * i) (take (32 * i + 32) out) rest (omega arith) ∙ take-take (32 * i) (32 * i + 32) out (omega arith) in
        let n : 32 * i + length h ≡ 32 * i + 32 = omega arith in
        let b : drop (32 * i + length h) (take (32 * i + 32) out ++ rest) ≡ rest = ap (λ (k : ℕ). drop k (take (32 * i + 32) out ++ rest)) n ∙ drop_at (take (32 * i + 32) out) rest (32 * i + 32) front in
        let m : 32 * length (enter h (hashes_from out c 0)) ≡ 32 * c + 32 = (let q = entered_long in omega arith) in
        ap₂ (λ (x y : List ℕ). (x ++ h) ++ y) a b
        ∙ append_assoc (take (32 * i) out) h rest
        ∙ sym (rw (m, bytes_of, append_assoc (take (32 * i) out) (h ++ take (32 * c - 32 * i) (drop (32 * i) out)) (drop (32 * c + 32) out), append_assoc h (take (32 * c - 32 * i) (drop (32 * i) out)) (drop (32 * c + 32) out)))

-- the hash stands there: nothing moves
pub there_bytes : (out : List ℕ) (c : ℕ) (h : List ℕ) → slot h (hashes_from out c 0) 0 ≡ None → out ≡ flat (enter h (hashes_from out c 0)) ++ drop (32 * length (enter h (hashes_from out c 0))) out
there_bytes out c h e = rw (enter_there h (hashes_from out c 0) 0 e, hashes_long out c 0, flat_hashes out c 0) (sym (take-append-drop (32 * c) out))

pub there_long : (out : List ℕ) (c : ℕ) (h : List ℕ) → slot h (hashes_from out c 0) 0 ≡ None → c ≡ length (enter h (hashes_from out c 0))
there_long out c h e = rw (enter_there h (hashes_from out c 0) 0 e) (sym (hashes_long out c 0))

pub before_entered : (out : List ℕ) (c : ℕ) (h : List ℕ) (i : ℕ) → slot h (hashes_from out c 0) 0 ≡ Some i → Entered h (hashes_from out c 0) i
before_entered out c h i e = let z : i ≡ 0 + i = omega arith in enter_before h (hashes_from out c 0) 0 i (e ∙ ap Some z)
