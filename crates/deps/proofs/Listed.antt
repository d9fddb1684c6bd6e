-- What is written is the answer: the hashes of the nodes that the hash depends on.
-- Assumes nothing.
use Rattle.std.specs.Prelude.{◌≡◌, refl, true, List, [], ◌∷◌, map, ℕ, ◌*◌, eqb, ltb, length, take}
use Rattle.std.proofs.Common.{ap, subst, ◌∙◌, arith, length-append, length-take-le}
use Rattle.std.proofs.Math.Bool.{or-true}
use Rattle.paper.specs.Lists.{mem}
use Rattle.paper.specs.Text.{flat}
use Rattle.paper.specs.Graph.{Graph, node}
use Rattle.paper.proofs.Bools.{by_bool, mem_cons, mem_here}
use Rattle.hash.specs.HashLaws.{hash_length}
use Rattle.tables.specs.Tables.{Tables, graph}
use Rattle.tables.specs.Valid.{Valid}
use Rattle.answer_buffer.specs.AnswerLaws.{Holds, holds_as}
use Rattle.answer_buffer.specs.Room.{room}
use Rattle.deps.specs.Deps.{node_deps, hash_deps}
use Rattle.deps.specs.Parents.{deps_nodes, DepsListed}
use Rattle.deps.specs.DepsLaws.{nodes_low, Telling}

flat_wide : (f : ℕ → List ℕ) (l : List ℕ) → ((j : ℕ) → mem j l ≡ true → length (f j) ≡ 32) → length (flat (map f l)) ≡ 32 * length l
unfolding flat
flat_wide f [] w = refl
flat_wide f (x ∷ l) w =
    let a = length-append (f x) (flat (map f l)) in
    let b = w x (mem_here x l) in
    let r = flat_wide f l (λ j m. w j (mem_cons j x l ∙ rw m (or-true (eqb j x)))) in
    omega arith

-- the answer is the hashes of the nodes that the hash depends on
hashes_of : (g : Graph) (h : List ℕ) → flat (map g.hash (deps_nodes g h)) ≡ hash_deps g h
unfolding deps_nodes hash_deps node_deps flat
hashes_of g h = by_bool (ltb (node g h) g.size) (λ t. rw t) (λ f. rw f)

module _ (t : Tables) (v : Valid t) (h ps : List ℕ) (n : ℕ) (d : DepsListed t h ps n) (one : length h ≡ 32) where
  listed_hashes : flat (map (graph t).hash (take n ps)) ≡ hash_deps (graph t) h
  listed_hashes = ap (λ (q : List ℕ). flat (map (graph t).hash q)) (d.listed one) ∙ hashes_of (graph t) h

  pub deps_long : length (hash_deps (graph t) h) ≡ 32 * n
  deps_long =
      let b = d.long in
      let w : length (take n ps) ≡ n = length-take-le n ps b in
      let r = (room t v).hashes_in in
      let f = flat_wide (graph t).hash (take n ps) (λ j m. hash_length t.hashes j (let l = nodes_low t v h j (subst (λ (q : List ℕ). mem j q ≡ true) (d.listed one) m) in omega arith)) in
      let e = ap length listed_hashes in
      omega arith

pub telling_end : (t : Tables) (v : Valid t) (h ps : List ℕ) (n : ℕ) (d : DepsListed t h ps n) (one : length h ≡ 32) {out₀ out : List ℕ} {c i : ℕ} → Telling t ps out₀ out c i → i ≡ n → Holds (hash_deps (graph t) h) out₀ out c
telling_end t v h ps n d one {out₀} {out} {c} {i} s e =
    holds_as s.holds (hash_deps (graph t) h) (ap (λ (k : ℕ). flat (map (graph t).hash (take k ps))) e ∙ listed_hashes t v h ps n d one)
