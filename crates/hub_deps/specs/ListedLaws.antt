-- On valid tables a walk along next from a hash's first edge puts the nodes down that the hash depends on.
-- Assumes nothing.
use Rattle.std.specs.Prelude.{◌≡◌, refl, List, [], ◌∷◌, ◌++◌, ℕ, ◌≤◌, ◌<◌, length, get_or, take, drop, Some, None, Option}
use Rattle.std.proofs.Common.{sym, ap, subst, ◌∙◌, arith, length-append, take_all, length-take-le}
use borrow.Author.Tests.{lt-ltb, le-ltb, le-leb}
use Rattle.paper.specs.Graph.{node}
use Rattle.hash.specs.Hash.{find_hash}
use Rattle.tables.specs.Tables.{Tables, tables, changes, first_at, along, graph}
use Rattle.tables.specs.Valid.{Valid}
use Rattle.tables.specs.NodeLaws.{node_at, node_low, node_none}
use Rattle.tables.specs.DepsLaws.{links_end, deps_few}
use Rattle.edges.specs.Edges.{lent, local_room, taken_targets, taken_nexts, parents, parents_in, targets_of, nexts_of}
use Rattle.edges.specs.EdgesLaws.{targets_long}
use Rattle.edges.specs.WalkLaws.{insides, parents_are_deps}
use Rattle.edges.specs.Told.{cut, valid_bounding}
use Rattle.edges.proofs.Told.{asked_lent}
use Rattle.edges.specs.declared.Edge.{Edge}
use Rattle.answer_buffer.specs.Room.{room}
use Rattle.deps.specs.Parents.{edge_of_hash, deps_nodes, DepsListed}
use Rattle.deps.specs.ParentsLaws.{edge_unknown, edge_found}
use Rattle.hub_deps.specs.Listed.{no_parents, ListedOfFirst, PutDown}

take_left : (l k : List ℕ) → take (length l) (l ++ k) ≡ l
take_left [] k = refl
take_left (x ∷ l) k = ap (λ (r : List ℕ). x ∷ r) (take_left l k)

-- on valid tables the walk from a hash's first edge meets what the hash depends on, at most 32 nodes
module _ (hs ns : List ℕ) (es : List Edge) (cs us h : List ℕ) (v : Valid (lent hs ns es cs us)) (one : length h ≡ 32) where
  abbrev met : Tables
  met = lent hs ns es cs us

  abbrev Meets : ℕ → Type 0
  Meets first = (parents es first ≡ deps_nodes (graph met) h) × (length (parents es first) ≤ 32)

  none_met : parents es 0 ≡ []
  none_met = ap (λ (a : ℕ). along (targets_of es) (insides es) a) (simp (le-leb 0 (length es) (omega arith))) ∙ links_end (targets_of es) (insides es) (length (targets_of es))

  known : (k : ℕ) → node (graph met) h ≡ k → k < changes met → deps_nodes (graph met) h ≡ (graph met).deps k
  unfolding deps_nodes
  known k e l = rw (e, lt-ltb k (changes met) l)

  unknown : node (graph met) h ≡ changes met → deps_nodes (graph met) h ≡ []
  unfolding deps_nodes
  unknown e = rw (e, le-ltb (changes met) (changes met) (omega arith))

  meets : (f : Option ℕ) → find_hash hs (changes met) h ≡ f → Meets (edge_of_hash hs ns us h)
  meets (Some k) e =
      let l = node_low met h k e in
      let b : edge_of_hash hs ns us h ≡ first_at ns k = edge_found hs ns us h one (room met v).hashes_in k e in
      let p : parents es (edge_of_hash hs ns us h) ≡ (graph met).deps k = ap (parents es) b ∙ parents_are_deps hs ns es cs us v.sound k l in
      (p ∙ sym (known k (node_at met h k e) l), subst (λ (r : List ℕ). length r ≤ 32) (sym p) (deps_few ns (targets_of es) (nexts_of es) v.sound.laid v.sound.counts.edges_fit k l))
  meets None e =
      let b : edge_of_hash hs ns us h ≡ 0 = edge_unknown hs ns us h one (room met v).hashes_in e in
      let p : parents es (edge_of_hash hs ns us h) ≡ [] = ap (parents es) b ∙ none_met in
      (p ∙ sym (unknown (node_none met h e)), subst (λ (r : List ℕ). length r ≤ 32) (sym p) (omega arith))

-- so what it puts down in a table of 32 is that
pub walk_lists : (hs ns : List ℕ) (es : List Edge) (cs us h : List ℕ) (first n : ℕ) (ps : List ℕ) → first ≡ edge_of_hash hs ns us h → PutDown es first n ps → Valid (lent hs ns es cs us) → DepsListed (lent hs ns es cs us) h ps n
walk_lists hs ns es cs us h first n ps f p v = record {
  long = (let a = p.0 in let b = ap length p.1 in let c = length-append (parents_in es first no_parents) (drop n no_parents) in omega arith);
  listed = λ one.
      let m : Meets hs ns es cs us h v one first = subst (Meets hs ns es cs us h v one) (sym f) (meets hs ns es cs us h v one (find_hash hs (get_or us 0 0) h) refl) in
      let w : parents_in es first no_parents ≡ parents es first = take_all (length no_parents) (parents es first) m.1 in
      ap (take n) p.1 ∙ ap (λ (i : ℕ). take i (parents_in es first no_parents ++ drop n no_parents)) p.0 ∙ take_left (parents_in es first no_parents) (drop n no_parents) ∙ w ∙ m.0;
}

-- and the two tables that the records are unpacked into have them as their first edges
pub listed_of_first : (b : List ℕ) → length b ≡ local_room → (hs ns : List ℕ) (es : List Edge) (cs us h : List ℕ) (first n : ℕ) (ps ts xs : List ℕ) → first ≡ edge_of_hash hs ns us h → PutDown es first n ps
    → ts ≡ taken_targets es b b → xs ≡ taken_nexts es b b → ListedOfFirst (length es) (tables hs ns ts xs cs us) h ps n
listed_of_first b long hs ns es cs us h first n ps ts xs f p et ex = λ l l' v.
    let same : cut (length es) (tables hs ns ts xs cs us) ≡ cut (length es) (tables hs ns (taken_targets es b b) (taken_nexts es b b) cs us) = rw (et, ex) in
    let w : length (take (length es) ts) ≡ length es = length-take-le (length es) ts l in
    let few : length es ≤ 16384 = (let g = valid_bounding (cut (length es) (tables hs ns ts xs cs us)) v in omega arith) in
    let q : cut (length es) (tables hs ns ts xs cs us) ≡ lent hs ns es cs us = same ∙ firsts few in
    subst (λ (t : Tables). DepsListed t h ps n) (sym q) (walk_lists hs ns es cs us h first n ps f p (subst Valid q v))
  where
    firsts : length es ≤ 16384 → cut (length es) (tables hs ns (taken_targets es b b) (taken_nexts es b b) cs us) ≡ lent hs ns es cs us
    firsts =
        asked_lent local_room b long es (λ (t : Tables). length es ≤ 16384 → cut (length es) (tables hs ns (taken_targets es b b) (taken_nexts es b b) cs us) ≡ t) (Unit {0}) hs ns cs us
        (λ l _ few. absurd (let g = targets_long es in omega arith)) (record { within = λ _ _ _. refl; beyond = λ _. tt })
