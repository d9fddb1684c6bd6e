-- The steps of marking the known nodes of a list, and that a list's clock is that of its known nodes.
-- Assumes nothing.
use Rattle.std.specs.Prelude.{◌≡◌, refl, Bool, true, false, cond, ◌&&◌, ◌||◌, List, [], ◌∷◌, ◌++◌, map, ℕ, zero, suc, ◌+◌, ◌-◌, ◌/◌, ◌≤◌, ◌<◌, eqb, ltb, length, take, drop, get_or, set, replicate}
use Rattle.std.proofs.Common.{sym, ap, ◌∙◌, subst, add-one, arith, length-set, get_or-set_same, get_or-set_other, take_at, eqb-true, eq-eqb, lt-ltb, ltb-true}
use Rattle.std.proofs.lemmas.List.{length-replicate}
use Rattle.std.proofs.lemmas.Bool.{eqb-false}
use Rattle.paper.specs.Lists.{mem, pick, some_below, hash_at, hashes_from, hashes_of, each_below}
use Rattle.paper.specs.Graph.{Graph, node, nodes, known, hist, clock, ValidGraph}
use Rattle.paper.proofs.Bools.{by_bool, to_false, same_bool, and_both, and_fst, and_snd, mem_append, mem_nil, mem_cons, mem_pick, pick_mem, mem_get_d}
use Rattle.paper.proofs.History.{hist_start}
use Rattle.paper.proofs.Clock.{hist_mono}
use Rattle.paper.proofs.Walk.{clock_mono, clock_nil}
use Rattle.walk.specs.Marks.{marked}
use Rattle.walk.specs.Whole.{cleared}
use Rattle.answer_buffer.specs.SlotLaws.{hashes_split}
use Rattle.paper.proofs.Count.{pick_length, tally_most}
use Rattle.paper.proofs.Each.{each_ext, to_each}
use Rattle.answer_buffer.specs.AnswerLaws.{Holds, over_front}
use Rattle.list_clock.specs.Clocks.{clock_entries}
use Rattle.list_clock.specs.Known.{named_node, KnownMarks}

-- ---- marking

named_next : (g : Graph) (bytes : List ℕ) (i j : ℕ) → named_node g bytes (i + 1) j ≡ (named_node g bytes i j || (ltb j g.size && eqb (node g (hash_at bytes i)) j))
unfolding named_node some_below
named_next g bytes i j = rw add-one refl

pub marks_start : (g : Graph) (bytes m : List ℕ) → KnownMarks g bytes 0 m m
unfolding named_node some_below
marks_start g bytes m = record { long = refl; each = λ j. refl }

or_true : (a b : Bool) → b ≡ true → (a || b) ≡ true
or_true true b e = refl
or_true false b e = e

or_false : (a b : Bool) → b ≡ false → (a || b) ≡ a
or_false true b e = refl
or_false false b e = e

module _ {g : Graph} {bytes m₀ m : List ℕ} {i : ℕ} (v : KnownMarks g bytes i m₀ m) where
  -- the hash is node k's
  pub marks_found : (k : ℕ) → node g (hash_at bytes i) ≡ k → k < g.size → k < length m₀ → KnownMarks g bytes (i + 1) m₀ (set m k 1)
  marks_found k e l r = record {
    long = length-set m k 1 ∙ v.long;
    each =
        λ j.
        by_bool (eqb k j)
        (λ t.
        let q = eqb-true k j t in
        let yes : named_node g bytes (i + 1) j ≡ true =
        named_next g bytes i j ∙ or_true (named_node g bytes i j) (ltb j g.size && eqb (node g (hash_at bytes i)) j) (and_both (ltb j g.size) (eqb (node g (hash_at bytes i)) j) (lt-ltb j g.size (omega arith)) (eq-eqb (node g (hash_at bytes i)) j (e ∙ q))) in
        rw yes (subst (λ (x : ℕ). get_or (set m k 1) x 0 ≡ 1) q (get_or-set_same m k 1 0 (let w = v.long in omega arith))))
        (λ f.
        let n = eqb-false k j f in
        let no : named_node g bytes (i + 1) j ≡ named_node g bytes i j =
        named_next g bytes i j ∙ or_false (named_node g bytes i j) (ltb j g.size && eqb (node g (hash_at bytes i)) j) (to_false (ltb j g.size && eqb (node g (hash_at bytes i)) j) (λ t. n (sym e ∙ eqb-true (node g (hash_at bytes i)) j (and_snd (ltb j g.size) (eqb (node g (hash_at bytes i)) j) t)))) in
        get_or-set_other m k j 1 0 (λ q. n (sym q)) ∙ v.each j ∙ ap (λ (b : Bool). cond b 1 (get_or m₀ j 0)) (sym no));
  }

  -- the hash is unknown
  pub marks_unknown : node g (hash_at bytes i) ≡ g.size → KnownMarks g bytes (i + 1) m₀ m
  marks_unknown e = record {
    long = v.long;
    each =
        λ j.
        let no : named_node g bytes (i + 1) j ≡ named_node g bytes i j =
        named_next g bytes i j
        ∙ or_false (named_node g bytes i j) (ltb j g.size && eqb (node g (hash_at bytes i)) j)
        (to_false (ltb j g.size && eqb (node g (hash_at bytes i)) j)
        (λ t.
        let a = ltb-true j g.size (and_fst (ltb j g.size) (eqb (node g (hash_at bytes i)) j) t) in
        let b = eqb-true (node g (hash_at bytes i)) j (and_snd (ltb j g.size) (eqb (node g (hash_at bytes i)) j) t) in
        omega arith)) in
        v.each j ∙ ap (λ (b : Bool). cond b 1 (get_or m₀ j 0)) (sym no);
  }

-- ---- all of them

eqb_comm : (x y : ℕ) → eqb x y ≡ eqb y x
eqb_comm x y = same_bool (eqb x y) (eqb y x) (λ t. eq-eqb y x (sym (eqb-true x y t))) (λ t. eq-eqb x y (sym (eqb-true y x t)))

map_last : (f : List ℕ → ℕ) (l : List (List ℕ)) (h : List ℕ) → map f (l ++ (h ∷ [])) ≡ map f l ++ (f h ∷ [])
map_last f [] h = refl
map_last f (x ∷ l) h = ap (λ (r : List ℕ). f x ∷ r) (map_last f l h)

mem_last : (j : ℕ) (l : List ℕ) (x : ℕ) → mem j (l ++ (x ∷ [])) ≡ (mem j l || eqb j x)
mem_last j l x = mem_append j l (x ∷ []) ∙ ap (λ (b : Bool). mem j l || b) (mem_cons j x [] ∙ ap (λ (b : Bool). eqb j x || b) (mem_nil j) ∙ or_false (eqb j x) false refl)

and_or : (a b c : Bool) → ((a && b) || (a && c)) ≡ (a && (b || c))
and_or true b c = refl
and_or false b c = refl

and_no : (a : Bool) → (a && false) ≡ false
and_no true = refl
and_no false = refl

named_mem : (g : Graph) (bytes : List ℕ) (m j : ℕ) → named_node g bytes m j ≡ (ltb j g.size && mem j (map (node g) (hashes_from bytes m 0)))
unfolding named_node some_below hashes_from
named_mem g bytes zero j = sym (ap (λ (b : Bool). ltb j g.size && b) (mem_nil j) ∙ and_no (ltb j g.size))
named_mem g bytes (suc m) j =
    let e : suc m ≡ m + 1 = omega arith in
    let cut : hashes_from bytes (suc m) 0 ≡ hashes_from bytes m 0 ++ (hash_at bytes m ∷ []) = ap (λ (n : ℕ). hashes_from bytes n 0) e ∙ hashes_split bytes m 1 0 ∙ ap (λ (n : ℕ). hashes_from bytes m 0 ++ (hash_at bytes n ∷ [])) zeroed in
    ap (λ (b : Bool). b || (ltb j g.size && eqb (node g (hash_at bytes m)) j)) (named_mem g bytes m j)
    ∙ ap (λ (b : Bool). (ltb j g.size && mem j (map (node g) (hashes_from bytes m 0))) || (ltb j g.size && b)) (eqb_comm (node g (hash_at bytes m)) j)
    ∙ and_or (ltb j g.size) (mem j (map (node g) (hashes_from bytes m 0))) (eqb j (node g (hash_at bytes m)))
    ∙ ap (λ (b : Bool). ltb j g.size && b) (sym (ap (λ (l : List (List ℕ)). mem j (map (node g) l)) cut ∙ ap (mem j) (map_last (node g) (hashes_from bytes m 0) (hash_at bytes m)) ∙ mem_last j (map (node g) (hashes_from bytes m 0)) (node g (hash_at bytes m))))
  where
    zeroed : 0 + m ≡ m
    zeroed = omega arith

pub named_known : (g : Graph) (bytes : List ℕ) (j : ℕ) → named_node g bytes (length bytes / 32) j ≡ known g (nodes g (hashes_of bytes)) j
unfolding known nodes hashes_of
named_known g bytes j = named_mem g bytes (length bytes / 32) j

cond_mark : (b : Bool) → ltb 0 (cond b 1 0) ≡ b
cond_mark true = refl
cond_mark false = refl

-- marks that were all 0
pub marked_known : (g : Graph) (bytes : List ℕ) (n : ℕ) (m : List ℕ) → KnownMarks g bytes (length bytes / 32) (replicate n 0) m → (j : ℕ) → marked m j ≡ known g (nodes g (hashes_of bytes)) j
marked_known g bytes n m v j =
    ap (ltb 0) (v.each j ∙ ap (λ (x : ℕ). cond (named_node g bytes (length bytes / 32) j) 1 x) (cleared n j))
    ∙ cond_mark (named_node g bytes (length bytes / 32) j)
    ∙ named_known g bytes j

-- ---- unknown ones count for nothing

module _ (g : Graph) (v : ValidGraph g) (s : List ℕ) where
  abbrev knowns : List ℕ
  knowns = pick (known g s) g.size

  pub hist_knowns : (k : ℕ) → hist g (pick (known g s) g.size) k ≡ hist g s k
  unfolding known
  hist_knowns k =
      same_bool (hist g knowns k) (hist g s k)
      (hist_mono g v knowns s (λ j l m. hist_start g s j l (and_snd (ltb j g.size) (mem j s) (pick_mem (known g s) g.size j m).1)) k)
      (hist_mono g v s knowns (λ j l m. hist_start g knowns j l (mem_pick (known g s) g.size j l (and_both (ltb j g.size) (mem j s) (lt-ltb j g.size l) m))) k)

  pub clock_knowns : (a : ℕ) → clock g (pick (known g s) g.size) a ≡ clock g s a
  clock_knowns a =
      let x = clock_mono g v knowns s a (λ k e. sym (hist_knowns k) ∙ e) in
      let y = clock_mono g v s knowns a (λ k e. hist_knowns k ∙ e) in
      omega arith

-- ---- the starts of a walk: a list that stands in a buffer

module _ {l out₀ out : List ℕ} {c : ℕ} (h : Holds l out₀ out c) where
  pub starts_are : take (c - 0) out ≡ l
  starts_are =
      let n : length l ≡ c - 0 = (let e = h.long in omega arith) in
      ap (take (c - 0)) (h.same ∙ over_front l out₀) ∙ take_at l (drop (length l) out₀) (c - 0) n

module _ (p : ℕ → Bool) (n : ℕ) {out₀ out : List ℕ} {c : ℕ} (h : Holds (pick p n) out₀ out c) where
  pub starts_few : c ≤ n
  starts_few = let e = h.long in let a = pick_length p n in let b = tally_most p n in omega arith

  pub starts_low : (i : ℕ) → i < length (take (c - 0) out) → get_or (take (c - 0) out) i 0 < n
  starts_low i l =
      let e = starts_are h in
      let q : i < length (pick p n) = subst (λ (x : List ℕ). i < length x) e l in
      rw e (pick_mem p n (get_or (pick p n) i 0) (mem_get_d (pick p n) i q)).0

pub starts_clock : (g : Graph) (v : ValidGraph g) (bytes : List ℕ) {out₀ out : List ℕ} {c : ℕ} → Holds (pick (known g (nodes g (hashes_of bytes))) g.size) out₀ out c
    → (w : ℕ) → each_below (clock g (take (c - 0) out)) w ≡ each_below (clock_entries g bytes) w
unfolding clock_entries
starts_clock g v bytes {out₀} {out} {c} h w =
    ap (λ (s : List ℕ). each_below (clock g s) w) (starts_are h)
    ∙ each_ext (clock g (pick (known g (nodes g (hashes_of bytes))) g.size)) (clock g (nodes g (hashes_of bytes))) w (λ a l. clock_knowns g v (nodes g (hashes_of bytes)) a)

-- ---- an empty list: nothing is in its history

empty_nodes : (g : Graph) (bytes : List ℕ) → length bytes ≡ 0 → nodes g (hashes_of bytes) ≡ []
unfolding nodes hashes_of hashes_from
empty_nodes g bytes e = rw e

pub empty_clock : (g : Graph) (v : ValidGraph g) (bytes : List ℕ) → length bytes ≡ 0 → (n : ℕ) → replicate n 0 ≡ each_below (clock_entries g bytes) n
unfolding clock_entries
empty_clock g v bytes e n =
    rw (empty_nodes g bytes e)
    (to_each (clock g []) n (replicate n 0) (length-replicate {A = ℕ} n 0)
    (λ i l. cleared n i ∙ sym (clock_nil g v i)))
