-- The steps of writing the hashes of listed nodes, and each answer from its condition.
-- Assumes nothing.
use Rattle.std.specs.Prelude.{◌≡◌, refl, true, List, [], ◌∷◌, ◌++◌, map, ℕ, zero, suc, ◌+◌, ◌*◌, ◌≤◌, ◌<◌, ltb, length, get_or, take}
use Rattle.std.proofs.Common.{sym, ap, subst, ◌∙◌, append_assoc, append-nil, not-suc-le-zero, le_of_suc-le-suc, add-one, arith, length-take-le, eq-eqb, ne_eqb, ltb-true}
use Rattle.paper.specs.Lists.{mem, hash_at}
use Rattle.paper.specs.Text.{flat}
use Rattle.paper.specs.Graph.{Graph, node}
use Rattle.paper.proofs.Bools.{by_bool, not-both, mem_nil, mem_get_d}
use Rattle.hash.specs.HashLaws.{hash_length}
use Rattle.tables.specs.Tables.{Tables, changes, graph}
use Rattle.tables.specs.Valid.{Valid}
use Rattle.tables.specs.DepsLaws.{valid_graph}
use Rattle.list_laws.specs.Over.{over}
use Rattle.answer_buffer.specs.Answers.{list_answer, filled}
use Rattle.answer_buffer.specs.AnswerLaws.{Holds, holds_start, holds_next, holds_as}
use Rattle.answer_buffer.specs.Room.{room}
use Rattle.deps.specs.Deps.{hash_deps, deps_told, deps_filled}
use Rattle.deps.specs.Parents.{deps_nodes, DepsListed}
use Rattle.answer_buffer.specs.declared.Refusal.TheVariants.{Malformed}
use Rattle.std.specs.Prelude.{Err}

-- ---- the hashes of listed nodes

take_last : (i : ℕ) (ps : List ℕ) → i < length ps → take (i + 1) ps ≡ take i ps ++ (get_or ps i 0 ∷ [])
take_last i ps l = rw (add-one i) (go i ps l)
  where
    go : (i : ℕ) (ps : List ℕ) → i < length ps → take (suc i) ps ≡ take i ps ++ (get_or ps i 0 ∷ [])
    go i [] l = absurd (not-suc-le-zero l)
    go zero (p ∷ ps) l = refl
    go (suc i) (p ∷ ps) l = ap (λ (r : List ℕ). p ∷ r) (go i ps (le_of_suc-le-suc l))

get_take : (n i : ℕ) (ps : List ℕ) → i < n → get_or (take n ps) i 0 ≡ get_or ps i 0
get_take zero i ps l = absurd (not-suc-le-zero l)
get_take (suc n) i [] l = refl
get_take (suc n) zero (p ∷ ps) l = refl
get_take (suc n) (suc i) (p ∷ ps) l = get_take n i ps (le_of_suc-le-suc l)

flat_last : (f : ℕ → List ℕ) (l : List ℕ) (x : ℕ) → flat (map f (l ++ (x ∷ []))) ≡ flat (map f l) ++ f x
unfolding flat
flat_last f [] x = append-nil (f x)
flat_last f (y ∷ l) x = ap (λ (r : List ℕ). f y ++ r) (flat_last f l x) ∙ sym (append_assoc (f y) (flat (map f l)) (f x))

-- which are nodes
pub nodes_low : (t : Tables) → Valid t → (h : List ℕ) (j : ℕ) → mem j (deps_nodes (graph t) h) ≡ true → j < changes t
unfolding deps_nodes
nodes_low t v h j = by_bool (ltb (node (graph t) h) (changes t))
    (λ y. rw y (λ m. let l = ltb-true (node (graph t) h) (changes t) y in let d = (valid_graph t v.sound).down (node (graph t) h) j l m in omega arith))
    (λ f. rw f (λ m. not-both m (mem_nil j)))

module _ (t : Tables) (v : Valid t) (h ps : List ℕ) (n : ℕ) (d : DepsListed t h ps n) (one : length h ≡ 32) where
  pub target_low : (i : ℕ) → i < n → get_or ps i 0 < changes t
  target_low i l =
      let b = d.long in
      let w : length (take n ps) ≡ n = length-take-le n ps b in
      nodes_low t v h (get_or ps i 0) (subst (λ (q : List ℕ). mem (get_or ps i 0) q ≡ true) (d.listed one) (subst (λ (x : ℕ). mem x (take n ps) ≡ true) (get_take n i ps l) (mem_get_d (take n ps) i (omega arith))))

  pub target_in : (i : ℕ) → i < n → 32 * get_or ps i 0 + 32 ≤ length t.hashes
  target_in i l = let b = target_low i l in let r = (room t v).hashes_in in omega arith

-- ---- writing them: those of the first i stand in the buffer

pub record Telling (t : Tables) (ps out₀ out : List ℕ) (c i : ℕ) : Type 0 where
  pub size : c ≡ 32 * i
  pub holds : Holds (flat (map (graph t).hash (take i ps))) out₀ out c

pub telling_start : (t : Tables) (ps out : List ℕ) → Telling t ps out out 0 0
unfolding flat
telling_start t ps out = record { size = refl; holds = holds_start out }

pub telling_next : (t : Tables) (ps : List ℕ) {out₀ out : List ℕ} {c i : ℕ} → Telling t ps out₀ out c i → i < length ps → 32 * get_or ps i 0 + 32 ≤ length t.hashes → c + 32 ≤ length out₀
    → Telling t ps out₀ (over out c (hash_at t.hashes (get_or ps i 0))) (c + 32) (i + 1)
telling_next t ps {out₀} {out} {c} {i} s l w f =
    let x = get_or ps i 0 in
    record {
      size = (let z = s.size in omega arith);
      holds =
          holds_as (holds_next s.holds (hash_at t.hashes x) 32 (hash_length t.hashes x w) f) (flat (map (graph t).hash (take (i + 1) ps)))
          (sym (ap (λ (q : List ℕ). flat (map (graph t).hash q)) (take_last i ps l) ∙ flat_last (graph t).hash (take i ps) x));
    }

-- ---- each answer

module _ (g : Graph) (h : List ℕ) where
  pub deps_bad : (length h ≡ 32 → ⊥) → (room : ℕ) → deps_told g h room ≡ Err Malformed
  unfolding deps_told
  deps_bad n room = rw (ne_eqb (length h) 32 n)

  pub unfilled_bad : (length h ≡ 32 → ⊥) → (out : List ℕ) → deps_filled g h out ≡ out
  unfolding deps_filled
  unfilled_bad n out = rw (ne_eqb (length h) 32 n)

  module _ (l : length h ≡ 32) where
    pub deps_one : (room : ℕ) → deps_told g h room ≡ list_answer (hash_deps g h) room
    unfolding deps_told
    deps_one room = rw (eq-eqb (length h) 32 l)

    pub filled_one : (out : List ℕ) → deps_filled g h out ≡ filled (hash_deps g h) out
    unfolding deps_filled
    filled_one out = rw (eq-eqb (length h) 32 l)
