-- The scan along an edge list, and that looking at a change's own dependencies alone is the definition.
-- Assumes nothing.
use Rattle.std.specs.Prelude.{◌≡◌, ◌↔◌, Bool, false, ◌&&◌, ◌||◌, ℕ, suc, ◌+◌, ◌-◌, ◌≤◌, ◌<◌, length, get_or}
use Rattle.std.proofs.Math.Path.{refl, sym}
use Rattle.std.proofs.Common.{ap, ◌∙◌, add-one, arith}
use Rattle.std.proofs.Math.Logic.{⊎_elim}
use Rattle.std.proofs.Math.Bool.{true}
use mathlib.Core.List.{List, [], ◌∷◌}
use Rattle.std.proofs.Math.Dec.{eqb, leb}
use borrow.Author.Tests.{eqb-true, eq-eqb, ne_eqb, le-leb, lt-leb}
use Rattle.paper.specs.Lists.{mem, some_below, all_below}
use Rattle.paper.specs.Graph.{ChainedOld, chained_old_test}
use Rattle.paper.proofs.Bools.{not-both, same_bool, or_cases, or_left, or_right, and_both, and_fst, and_snd, some_of, of_some, mem_nil, mem_cons}
use Rattle.paper.proofs.Scans.{all_ext}
use Rattle.paper.proofs.Tests.{chained_old_iff}
use Rattle.tables.specs.Tables.{Tables, changes, actor_at, seq_at, first_at, along, graph}
use Rattle.tables.specs.Valid.{Valid}
use Rattle.tables.specs.DepsLaws.{links_end, valid_graph}
use Rattle.walk.specs.Marks.{Chain}
use Rattle.walk.specs.MarkLaws.{chain_rest, chain_next}
use Rattle.chained.specs.Chained.{some_in, precedes, linked, chained}

-- ---- some member of a list

module _ (p : ℕ → Bool) where
  pub some_in_of : (s : List ℕ) (j : ℕ) → mem j s ≡ true → p j ≡ true → some_in p s ≡ true
  unfolding some_in
  some_in_of [] j m t = not-both m (mem_nil j)
  some_in_of (x ∷ s) j m t =
      ⊎_elim (λ e. or_left (p x) (some_in p s) (ap p (sym (eqb-true j x e)) ∙ t)) (λ r. or_right (p x) (some_in p s) (some_in_of s j r t))
      (or_cases (eqb j x) (mem j s) (sym (mem_cons j x s) ∙ m))

  pub of_some_in : (s : List ℕ) → some_in p s ≡ true → (j : ℕ) × (mem j s ≡ true) × (p j ≡ true)
  unfolding some_in mem
  of_some_in [] t = not-both t refl
  of_some_in (x ∷ s) t =
      ⊎_elim (λ y. (x, or_left (eqb x x) (mem x s) (eqb_same x), y)) (λ r. let q = of_some_in s r in (q.0, or_right (eqb q.0 x) (mem q.0 s) q.1, q.2))
      (or_cases (p x) (some_in p s) t)
    where
      eqb_same : (x : ℕ) → eqb x x ≡ true
      eqb_same x = eq-eqb x x refl

-- ---- along an edge list: none so far passed, so the rest decides

pub record Seeking (p : ℕ → Bool) (ts xs : List ℕ) (b first e : ℕ) : Type 0 where
  pub chain : Chain ts xs b e
  pub same : some_in p (along ts xs e) ≡ some_in p (along ts xs first)

pub seeking_start : (p : ℕ → Bool) (ts xs : List ℕ) (b first : ℕ) → Chain ts xs b first → Seeking p ts xs b first first
seeking_start p ts xs b first v = record { chain = v; same = refl }

module _ {p : ℕ → Bool} {ts xs : List ℕ} {b first e : ℕ} (v : Seeking p ts xs b first e) where
  pub seeking_end : e ≡ 0 → false ≡ some_in p (along ts xs first)
  unfolding some_in
  seeking_end z = sym (ap (some_in p) (ap (along ts xs) z ∙ links_end ts xs (length ts))) ∙ v.same

  module _ (l : 0 < e) where
    parts : (p (get_or ts (e - 1) 0) || some_in p (along ts xs (get_or xs (e - 1) 0))) ≡ some_in p (along ts xs first)
    unfolding some_in
    parts = sym (ap (some_in p) (chain_rest ts xs b e v.chain l)) ∙ v.same

    pub seeking_next : p (get_or ts (e - 1) 0) ≡ false → Seeking p ts xs b first (get_or xs (e - 1) 0)
    seeking_next f = record { chain = chain_next ts xs b e v.chain l; same = rw f at parts }

    pub seeking_found : p (get_or ts (e - 1) 0) ≡ true → true ≡ some_in p (along ts xs first)
    seeking_found t = rw t at parts

    pub seeking_less : length (along ts xs (get_or xs (e - 1) 0)) < length (along ts xs e)
    seeking_less = rw (chain_rest ts xs b e v.chain l) (omega arith)

-- ---- a change's own dependencies are below it, so to look at them is to look at all nodes below

module _ (t : Tables) (v : Valid t) where
  linked_is : (k : ℕ) → k < changes t
      → linked t.nodes t.targets t.nexts k
      ≡ (leb (seq_at t.nodes k) 1 || some_below (λ j. eqb (actor_at t.nodes j) (actor_at t.nodes k) && (eqb (seq_at t.nodes k) (suc (seq_at t.nodes j)) && mem j ((graph t).deps k))) k)
  linked_is k l =
      ap (λ (b : Bool). leb (seq_at t.nodes k) 1 || b)
      (same_bool (some_in (precedes t.nodes k) ((graph t).deps k)) (some_below own k)
      (λ y.
      let r = of_some_in (precedes t.nodes k) ((graph t).deps k) y in
      some_of own k r.0 ((valid_graph t v.sound).down k r.0 l r.1)
      (and_both (a r.0) (b r.0 && mem r.0 ((graph t).deps k)) (and_fst (a r.0) (b r.0) r.2) (and_both (b r.0) (mem r.0 ((graph t).deps k)) (and_snd (a r.0) (b r.0) r.2) r.1)))
      (λ y.
      let r = of_some own k y in
      let q = and_snd (a r.0) (b r.0 && mem r.0 ((graph t).deps k)) r.2 in
      some_in_of (precedes t.nodes k) ((graph t).deps k) r.0 (and_snd (b r.0) (mem r.0 ((graph t).deps k)) q)
      (and_both (a r.0) (b r.0) (and_fst (a r.0) (b r.0 && mem r.0 ((graph t).deps k)) r.2) (and_fst (b r.0) (mem r.0 ((graph t).deps k)) q))))
    where
      a : ℕ → Bool
      a j = eqb (actor_at t.nodes j) (actor_at t.nodes k)

      b : ℕ → Bool
      b j = eqb (seq_at t.nodes k) (suc (seq_at t.nodes j))

      own : ℕ → Bool
      own j = a j && (b j && mem j ((graph t).deps k))

  pub all_linked : all_below (linked t.nodes t.targets t.nexts) (changes t) ≡ chained (graph t)
  unfolding chained_old_test
  all_linked =
      all_ext (linked t.nodes t.targets t.nexts)
      (λ k. leb (seq_at t.nodes k) 1 || some_below (λ j. eqb (actor_at t.nodes j) (actor_at t.nodes k) && (eqb (seq_at t.nodes k) (suc (seq_at t.nodes j)) && mem j ((graph t).deps k))) k) (changes t)
      linked_is

  -- yes exactly if every change with sequence 2 or more names its actor's preceding change
  pub chained_says : (chained (graph t) ≡ true) ↔ ChainedOld (graph t)
  chained_says = chained_old_iff (graph t) (valid_graph t v.sound)

-- ---- the tests of one node, from their conditions

module _ (ns : List ℕ) (k : ℕ) where
  pub other_actor : (j : ℕ) → (actor_at ns j ≡ actor_at ns k → ⊥) → false ≡ precedes ns k j
  other_actor j n = rw (ne_eqb (actor_at ns j) (actor_at ns k) n)

  pub same_actor : (j : ℕ) → actor_at ns j ≡ actor_at ns k → eqb (seq_at ns k) (seq_at ns j + 1) ≡ precedes ns k j
  same_actor j e = rw (eq-eqb (actor_at ns j) (actor_at ns k) e, add-one (seq_at ns j))

  module _ (ts xs : List ℕ) where
    pub first_linked : seq_at ns k ≤ 1 → true ≡ linked ns ts xs k
    first_linked l = rw (le-leb (seq_at ns k) 1 l)

    pub later_linked : 1 < seq_at ns k → some_in (precedes ns k) (along ts xs (first_at ns k)) ≡ linked ns ts xs k
    later_linked l = rw (lt-leb (seq_at ns k) 1 l)
