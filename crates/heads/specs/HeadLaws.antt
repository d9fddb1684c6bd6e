-- Heads by their flags, and the list of them as it is entered from the last node down.
-- Assumes nothing.
use Rattle.std.specs.Prelude.{◌≡◌, true, false, not, eqb, set, Some, None}
use Rattle.std.proofs.Math.Path.{refl, sym, ap, ap₂, subst}
use Rattle.std.proofs.Common.{◌∙◌, eq-eqb, ne_eqb}
use Rattle.std.proofs.Math.Logic.{⊎_elim}
use Rattle.std.proofs.Math.Bool.{Bool, cond, or-true}
use mathlib.Core.List.{List, [], ◌∷◌, ◌++◌, map}
use Prim.Native.Nat.{ℕ, zero, suc, ◌+◌, ◌*◌, ◌-◌, ◌≤◌, ◌<◌}
use native.Mathlib.Omega.{arith}
use Rattle.std.proofs.Math.Nat.{sub-zero}
use Rattle.std.proofs.Math.ListN.{length, drop, length-append, length-drop}
use Rattle.paper.specs.Lists.{tally, first_below, same_list, names, ascending, hash_at, hashes_from, enter, every}
use Rattle.paper.specs.Text.{flat}
use Rattle.paper.specs.Graph.{node, nodes, wanted, head_nodes, heads}
use Rattle.paper.proofs.Bools.{by_bool, not-both, to_false, or_cases, tally_ext, below_or_not}
use Rattle.paper.proofs.Count.{pick_length}
use Rattle.paper.proofs.First.{first_says}
use Rattle.paper.proofs.Hashes.{same_refl, same→eq, eq→same}
use Rattle.paper.proofs.Ascending.{Once, ascending_once, ascending_grows, ascending_names}
use Rattle.hash.specs.Hash.{find_hash}
use Rattle.hash.specs.HashLaws.{hash_length}
use Rattle.tables.specs.Tables.{Tables, tables, changes, head_at, graph}
use Rattle.tables.specs.NodeLaws.{node_at, node_low, node_none}
use Rattle.tables.specs.Valid.{Valid, Heads, HashesDistinct}
use Rattle.answer_buffer.specs.Room.{room}
use Rattle.answer_buffer.specs.Picking.{rest_of, rest_all, rest_hit, rest_miss}
use Rattle.answer_buffer.specs.Entering.{Wide, wide_cons, wide_ascending, flat_long, Entering, entering_start, entering_room, entering_next, entering_told, entering_whole, entered_list}
use Rattle.answer_buffer.specs.SlotLaws.{hashes_split}
use Rattle.answer_buffer.specs.AnswerLaws.{Holds, holds_next, holds_as, filled_done}
use Rattle.list_laws.specs.Over.{over_one}
use Rattle.answer_buffer.specs.Answers.{list_answer, filled}
use Rattle.heads.specs.Heads.{head_hashes, head_places, node_in}
use Rattle.std.specs.Prelude.{Ok, Option}
use Rattle.std.specs.Option.{unwrap_or}

abbrev pub is_head : Tables → ℕ → Bool
is_head t k = not (wanted (graph t) k)

-- the hashes of the heads from node k on
abbrev pub from_node : Tables → ℕ → List (List ℕ)
from_node t k = map (graph t).hash (rest_of (is_head t) (changes t - k) k)

map_long : {A B : Type 0} (f : A → B) (l : List A) → length (map f l) ≡ length l
map_long f [] = refl
map_long f (x ∷ l) = ap suc (map_long f l)

module _ (t : Tables) (v : Valid t) where
  -- a flag says what the definition says
  pub flag_says : (k : ℕ) → k < changes t → eqb (head_at t.nodes k) 1 ≡ (is_head t) k
  unfolding Heads
  flag_says k l =
      by_bool (wanted (graph t) k)
      (λ y. let e = v.sound.heads k l ∙ ap (λ (b : Bool). cond b 0 1) y in rw y (ne_eqb (head_at t.nodes k) 1 (λ q. omega arith)))
      (λ n. let e = v.sound.heads k l ∙ ap (λ (b : Bool). cond b 0 1) n in rw n (eq-eqb (head_at t.nodes k) 1 e))

  pub head_flag : (k : ℕ) → k < changes t → head_at t.nodes k ≡ 1 → (is_head t) k ≡ true
  head_flag k l e = sym (flag_says k l) ∙ eq-eqb _ _ e

  pub no_flag : (k : ℕ) → k < changes t → (head_at t.nodes k ≡ 1 → ⊥) → (is_head t) k ≡ false
  no_flag k l e = sym (flag_says k l) ∙ ne_eqb _ _ e

  pub flags_count : tally (λ k. eqb (head_at t.nodes k) 1) (changes t) ≡ tally (is_head t) (changes t)
  flags_count = tally_ext (λ k. eqb (head_at t.nodes k) 1) (is_head t) (changes t) flag_says

  pub from_hit : (k : ℕ) → k < changes t → (is_head t) k ≡ true → (from_node t) k ≡ hash_at t.hashes k ∷ (from_node t) (k + 1)
  from_hit k l e = ap (map (graph t).hash) (rest_hit (is_head t) (changes t) k l e)

  pub from_miss : (k : ℕ) → k < changes t → (is_head t) k ≡ false → (from_node t) k ≡ (from_node t) (k + 1)
  from_miss k l e = ap (map (graph t).hash) (rest_miss (is_head t) (changes t) k l e)

  pub from_end : (k : ℕ) → changes t ≤ k → (from_node t) k ≡ []
  unfolding rest_of
  from_end k l = let z : changes t - k ≡ 0 = omega arith in rw z

  pub from_all : ascending ((from_node t) 0) ≡ heads (graph t)
  unfolding heads head_nodes
  from_all = rw (sub-zero, rest_all (is_head t) (changes t))

  wide_rest : (left k : ℕ) → k + left ≤ changes t → Wide (map (graph t).hash (rest_of (is_head t) left k))
  unfolding rest_of every
  wide_rest zero k l = refl
  wide_rest (suc left) k l =
      let r = wide_rest left (suc k) (omega arith) in
      let h = (room t v).hashes_in in
      by_bool ((is_head t) k) (λ y. rw y (wide_cons (hash_at t.hashes k) (map (graph t).hash (rest_of (is_head t) left (suc k))) (hash_length t.hashes k (omega arith)) r)) (λ n. rw n r)

  pub from_wide : (k : ℕ) → k ≤ changes t → Wide ((from_node t) k)
  from_wide k l = wide_rest (changes t - k) k (omega arith)

  -- a hash that is named is one of theirs
  named_rest : (h : List ℕ) (left k : ℕ) → names h (map (graph t).hash (rest_of (is_head t) left k)) ≡ true → (j : ℕ) × (k ≤ j) × (j < k + left) × (hash_at t.hashes j ≡ h)
  unfolding rest_of names
  named_rest h zero k e = not-both e refl
  named_rest h (suc left) k e =
      by_bool ((is_head t) k)
      (λ y.
      ⊎_elim (λ s. (k, omega arith, omega arith, same→eq (hash_at t.hashes k) h s)) (λ m. further (named_rest h left (suc k) m))
      (or_cases (same_list (hash_at t.hashes k) h) (names h (map (graph t).hash (rest_of (is_head t) left (suc k)))) (rw y at e)))
      (λ n. further (named_rest h left (suc k) (rw n at e)))
    where
      further : (j : ℕ) × (suc k ≤ j) × (j < suc k + left) × (hash_at t.hashes j ≡ h) → (j : ℕ) × (k ≤ j) × (j < k + suc left) × (hash_at t.hashes j ≡ h)
      further r = (r.0, omega (arith, r.1), omega (arith, r.2), r.3)

  -- distinct hashes: none stands twice
  once_rest : (left k : ℕ) → k + left ≤ changes t → Once (map (graph t).hash (rest_of (is_head t) left k))
  unfolding rest_of Once HashesDistinct
  once_rest zero k l = tt
  once_rest (suc left) k l =
      let r = once_rest left (suc k) (omega arith) in
      by_bool ((is_head t) k)
      (λ y. rw y (to_false (names (hash_at t.hashes k) (map (graph t).hash (rest_of (is_head t) left (suc k)))) (λ m. let w = named_rest (hash_at t.hashes k) left (suc k) m in v.sound.distinct w.0 (omega (arith, w.2)) k (omega (arith, w.1)) (sym w.3)), r))
      (λ n. rw n r)

  -- as many heads as head nodes
  pub heads_long : length (heads (graph t)) ≡ tally (is_head t) (changes t)
  heads_long =
      sym (ap length from_all)
      ∙ ascending_once ((from_node t) 0) (once_rest (changes t - 0) 0 (omega arith))
      ∙ map_long (graph t).hash (rest_of (is_head t) (changes t - 0) 0)
      ∙ ap (λ (n : ℕ). length (rest_of (is_head t) n 0)) (sub-zero (changes t))
      ∙ ap length (sym (rest_all (is_head t) (changes t)))
      ∙ pick_length (is_head t) (changes t)

  -- those entered so far are no more than all
  one_fewer : (k : ℕ) → k < changes t → length (ascending ((from_node t) (k + 1))) ≤ length (ascending ((from_node t) k))
  one_fewer k l =
      by_bool ((is_head t) k)
      (λ y. let g = ascending_grows (hash_at t.hashes k) ((from_node t) (k + 1)) in let e = ap (λ (s : List (List ℕ)). length (ascending s)) (from_hit k l y) in omega arith)
      (λ n. let e = ap (λ (s : List (List ℕ)). length (ascending s)) (from_miss k l n) in omega arith)

  pub fewer : (k : ℕ) → k ≤ changes t → length (ascending ((from_node t) k)) ≤ length (heads (graph t))
  fewer zero l = let e = ap length from_all in omega arith
  fewer (suc k) l = let r = fewer k (omega arith) in let s = one_fewer k (omega arith) in let e : k + 1 ≡ suc k = omega arith in let q = ap (λ (i : ℕ). length (ascending ((from_node t) i))) e in omega arith

  -- ---- entering them from the last node down: the scan goes from k to j

  module _ {out₀ out : List ℕ} {c k : ℕ} (i : Entering (from_node t k) out₀ out c) (fits : 32 * length (heads (graph t)) ≤ length out₀) (j : ℕ) (e : k ≡ j + 1) (l : k ≤ changes t) where
    step : Entering (from_node t (j + 1)) out₀ out c
    step = subst (λ (n : ℕ). Entering (from_node t n) out₀ out c) e i

    module _ (y : is_head t j ≡ true) where
      enough : 32 * length (ascending (hash_at t.hashes j ∷ from_node t (j + 1))) ≤ length out₀
      enough = let f = fewer j (omega arith) in let q = ap (λ (s : List (List ℕ)). length (ascending s)) (from_hit j (omega arith) y) in omega arith

      pub heads_room : 32 * length (enter (hash_at t.hashes j) (hashes_from out c 0)) ≤ length out
      heads_room = entering_room step (from_wide (j + 1) (omega arith)) (hash_at t.hashes j) enough

      pub heads_next : (out' : List ℕ) (r : ℕ) → r ≡ length (enter (hash_at t.hashes j) (hashes_from out c 0))
          → out' ≡ flat (enter (hash_at t.hashes j) (hashes_from out c 0)) ++ drop (32 * length (enter (hash_at t.hashes j) (hashes_from out c 0))) out → Entering (from_node t j) out₀ out' r
      heads_next out' r n s =
          let h = (room t v).hashes_in in
          subst (λ (x : List (List ℕ)). Entering x out₀ out' r) (sym (from_hit j (omega arith) y))
          (entering_next step (from_wide (j + 1) (omega arith)) (hash_at t.hashes j) enough (hash_length t.hashes j (omega arith)) out' r n s)

    pub heads_skip : is_head t j ≡ false → Entering (from_node t j) out₀ out c
    heads_skip n = subst (λ (x : List (List ℕ)). Entering x out₀ out c) (sym (from_miss j (omega arith) n)) step

  pub heads_start : (out : List ℕ) → Entering (from_node t (changes t)) out out 0
  heads_start out = subst (λ (x : List (List ℕ)). Entering x out out 0) (sym (from_end (changes t) (omega arith))) (entering_start out)

  module _ {out₀ out : List ℕ} {c k : ℕ} (i : Entering (from_node t k) out₀ out c) (fits : 32 * length (heads (graph t)) ≤ length out₀) (e : k ≡ 0) where
    last : Entering (from_node t 0) out₀ out c
    last = subst (λ (n : ℕ). Entering (from_node t n) out₀ out c) e i

    all_fit : 32 * length (ascending (from_node t 0)) ≤ length out₀
    all_fit = let q = ap length from_all in omega arith

    pub heads_told : Ok (32 * c) ≡ list_answer (head_hashes (graph t)) (length out₀)
    unfolding head_hashes
    heads_told = entering_told last (from_wide 0 (omega arith)) all_fit ∙ ap (λ (x : List (List ℕ)). list_answer (flat x) (length out₀)) from_all

    pub heads_whole : out ≡ filled (head_hashes (graph t)) out₀
    unfolding head_hashes
    heads_whole = entering_whole last (from_wide 0 (omega arith)) all_fit ∙ ap (λ (x : List (List ℕ)). filled (flat x) out₀) from_all

  pub hashes_long : length (head_hashes (graph t)) ≡ 32 * tally (is_head t) (changes t)
  unfolding head_hashes
  hashes_long =
      let w : Wide (heads (graph t)) = subst Wide from_all (wide_ascending (from_node t 0) (from_wide 0 (omega arith))) in
      let f = flat_long (heads (graph t)) w in
      let n = heads_long in
      omega arith

-- ---- the heads' nodes, from the list of their hashes

map_last : (f : List ℕ → ℕ) (l : List (List ℕ)) (h : List ℕ) → map f (l ++ (h ∷ [])) ≡ map f l ++ (f h ∷ [])
map_last f [] h = refl
map_last f (x ∷ l) h = ap (λ (r : List ℕ). f x ∷ r) (map_last f l h)

-- what a search finds, or that it finds none
module _ (hs : List ℕ) (n : ℕ) (h : List ℕ) where
  abbrev t : Tables
  t = tables hs [] [] [] [] (n ∷ [])

  pub number_at : (k : ℕ) → find_hash hs n h ≡ Some k → k ≡ node_in hs n h
  unfolding node_in node
  number_at k e = sym (node_at t h k e)

  pub number_low : (k : ℕ) → find_hash hs n h ≡ Some k → k < n
  number_low k e = node_low t h k e

  pub number_none : find_hash hs n h ≡ None → n ≡ node_in hs n h
  unfolding node_in node
  number_none e = sym (node_none t h e)

  -- the same of what it finds, or n
  told : (o : Option ℕ) → find_hash hs n h ≡ o → unwrap_or o n ≡ node_in hs n h
  told (Some k) e = number_at k e
  told None e = number_none e

  most : (o : Option ℕ) → find_hash hs n h ≡ o → unwrap_or o n ≤ n
  most (Some k) e = let l = number_low k e in omega arith
  most None e = omega arith

  pub number_told : unwrap_or (find_hash hs n h) n ≡ node_in hs n h
  number_told = told (find_hash hs n h) refl

  pub number_most : unwrap_or (find_hash hs n h) n ≤ n
  number_most = most (find_hash hs n h) refl

-- one more of the list
module _ (hs : List ℕ) (n : ℕ) (list : List ℕ) {out₀ out : List ℕ} {i : ℕ} (v : Holds (map (node_in hs n) (hashes_from list i 0)) out₀ out i) where
  pub asked_next : i < length out₀ → Holds (map (node_in hs n) (hashes_from list (i + 1) 0)) out₀ (set out i (node_in hs n (hash_at list i))) (i + 1)
  unfolding hashes_from
  asked_next l =
      let k = v.kept in
      let z : 0 + i ≡ i = omega arith in
      let cut : hashes_from list (i + 1) 0 ≡ hashes_from list i 0 ++ (hash_at list i ∷ []) = hashes_split list i 1 0 ∙ ap (λ (j : ℕ). hashes_from list i 0 ++ (hash_at list j ∷ [])) z in
      rw (over_one out i (node_in hs n (hash_at list i)) (omega arith))
      (holds_as (holds_next v (node_in hs n (hash_at list i) ∷ []) 1 refl (omega arith)) (map (node_in hs n) (hashes_from list (i + 1) 0))
      (sym (ap (map (node_in hs n)) cut ∙ map_last (node_in hs n) (hashes_from list i 0) (hash_at list i))))

module _ (t : Tables) (v : Valid t) where
  pub places_are : (l : List (List ℕ)) → l ≡ heads (graph t) → map (node_in t.hashes (changes t)) l ≡ head_places (graph t)
  unfolding head_places nodes node_in node
  places_are l e = ap (map (node_in t.hashes (changes t))) e

  pub places_long : length (head_places (graph t)) ≡ tally (is_head t) (changes t)
  unfolding head_places nodes
  places_long = map_long (node (graph t)) (heads (graph t)) ∙ heads_long t v

  -- the list that the heads were written to names them
  pub listed_heads : (out₀ out : List ℕ) (c : ℕ) → out ≡ filled (head_hashes (graph t)) out₀ → 32 * tally (is_head t) (changes t) ≤ length out₀ → c ≡ tally (is_head t) (changes t) → hashes_from out c 0 ≡ heads (graph t)
  unfolding head_hashes
  listed_heads out₀ out c s l e =
      let w = from_wide t v 0 (omega arith) in
      let n : length (ascending (from_node t 0)) ≡ tally (is_head t) (changes t) = ap length (from_all t v) ∙ heads_long t v in
      let b = flat_long (ascending (from_node t 0)) (wide_ascending (from_node t 0) w) in
      let q : out ≡ flat (ascending (from_node t 0)) ++ drop (32 * length (ascending (from_node t 0))) out₀ =
      s
      ∙ ap (λ (x : List (List ℕ)). filled (flat x) out₀) (sym (from_all t v))
      ∙ filled_done (flat (ascending (from_node t 0))) out₀ (omega arith)
      ∙ ap (λ (k : ℕ). flat (ascending (from_node t 0)) ++ drop k out₀) b in
      entered_list (record { same = q; long = e ∙ sym n; kept = ap length q ∙ (let a = length-append (flat (ascending (from_node t 0))) (drop (32 * length (ascending (from_node t 0))) out₀) in let d = length-drop (32 * length (ascending (from_node t 0))) out₀ in omega arith) }) w
      ∙ from_all t v

  -- they are the heads' own nodes: their hashes, in this order, are the heads
  known_hash : (h : List ℕ) → (j : ℕ) × (0 ≤ j) × (j < 0 + (changes t - 0)) × (hash_at t.hashes j ≡ h) → hash_at t.hashes (node (graph t) h) ≡ h
  unfolding node
  known_hash h w =
      let p : ℕ → Bool = λ k. same_list (hash_at t.hashes k) h in
      let f = first_says p (changes t) in
      let l : w.0 < changes t = omega (arith, w.2) in
      ⊎_elim
      (λ b. same→eq (hash_at t.hashes (first_below p (changes t))) h (f.passes b))
      (λ b. not-both (eq→same (hash_at t.hashes w.0) h w.3) (f.none_before w.0 (omega arith)))
      (below_or_not (first_below p (changes t)) (changes t))

  hashes_back : (l : List (List ℕ)) → ((h : List ℕ) → names h l ≡ true → hash_at t.hashes (node (graph t) h) ≡ h) → map (graph t).hash (map (node (graph t)) l) ≡ l
  unfolding names
  hashes_back [] f = refl
  hashes_back (h ∷ l) f =
      ap₂ (λ (x : List ℕ) (r : List (List ℕ)). x ∷ r)
      (f h (rw (same_refl h)))
      (hashes_back l (λ d m. f d (rw m (or-true (same_list h d)))))

  pub places_hashes : map (graph t).hash (head_places (graph t)) ≡ heads (graph t)
  unfolding head_places nodes
  places_hashes = hashes_back (heads (graph t)) (λ h m. known_hash h (named_rest t v h (changes t - 0) 0 (sym (ascending_names h (from_node t 0)) ∙ ap (names h) (from_all t v) ∙ m)))
