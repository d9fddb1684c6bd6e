-- Each answer from its condition, and an actor's last change.
-- Assumes nothing.
use Rattle.std.specs.Prelude.{◌≡◌, Bool, ◌&&◌, List, ℕ, suc, ◌+◌, ◌≤◌, ◌<◌, max, ltb, length, true, false, ◌*◌, Ok, Err, Some}
use Rattle.std.proofs.Math.Path.{refl, sym, ap}
use Rattle.std.proofs.Common.{◌∙◌, add-one}
use Rattle.std.proofs.Math.Bool.{cond}
use native.Mathlib.Omega.{arith}
use Rattle.std.proofs.Math.Dec.{eqb}
use borrow.Author.Tests.{eq-eqb, ne_eqb, eqb-true, lt-ltb, le-ltb, ltb-true, ltb-false}
use Rattle.std.specs.Option.{ok_or, is_some}
use Rattle.tables.specs.Valid.{Valid}
use Rattle.tables.specs.Node.{found_as}
use Rattle.tables.specs.NodeLaws.{at_node, at_low}
use Rattle.answer_buffer.specs.Room.{room}
use Rattle.paper.specs.Lists.{pick, tally, first_below}
use Rattle.paper.proofs.Count.{pick_length}
use Rattle.tables.specs.Tables.{Tables, changes, graph, actors}
use Rattle.lookups.specs.declared.Which.{Which}
use Rattle.paper.specs.Graph.{Graph, node, change_at, max_op_of, ValidGraph}
use Rattle.paper.specs.Adding.{seq_for_actor}
use Rattle.paper.proofs.Bools.{by_bool, and_both, and_fst, and_snd, to_false}
use Rattle.paper.proofs.First.{first_none, first_is, first_says}
use Rattle.paper.proofs.Chain.{same_node, node_at}
use Rattle.answer_buffer.specs.declared.Refusal.TheVariants.{Malformed, NotFound}
use Rattle.lookups.specs.Lookups.{looked_up, has, largest, actor_listed, actor_list}

-- ---- a hash

module _ (g : Graph) (h : List ℕ) where
  pub look_bad : (length h ≡ 32 → ⊥) → looked_up g h ≡ Err Malformed
  unfolding looked_up
  look_bad n = rw (ne_eqb (length h) 32 n)

  pub has_bad : (length h ≡ 32 → ⊥) → has g h ≡ Err Malformed
  unfolding has
  has_bad n = rw (ne_eqb (length h) 32 n)

  module _ (l : length h ≡ 32) where
    pub look_none : node g h ≡ g.size → looked_up g h ≡ Err NotFound
    unfolding looked_up
    look_none e = rw (eq-eqb (length h) 32 l, le-ltb (node g h) g.size (omega arith))

    pub look_at : (k : ℕ) → node g h ≡ k → k < g.size → looked_up g h ≡ Ok k
    unfolding looked_up
    look_at k e b = rw (eq-eqb (length h) 32 l, lt-ltb (node g h) g.size (omega arith)) (ap Ok e)

    pub has_not : node g h ≡ g.size → has g h ≡ Ok false
    unfolding has
    has_not e = rw (eq-eqb (length h) 32 l, le-ltb (node g h) g.size (omega arith))

    pub has_it : (k : ℕ) → node g h ≡ k → k < g.size → has g h ≡ Ok true
    unfolding has
    has_it k e b = rw (eq-eqb (length h) 32 l, lt-ltb (node g h) g.size (omega arith))

-- what the search finds, as an answer
module _ (g : Graph) (h : List ℕ) (l : length h ≡ 32) where
  pub look_found : ok_or (found_as g.size (node g h)) NotFound ≡ looked_up g h
  unfolding found_as looked_up
  look_found = rw (eq-eqb (length h) 32 l) (by_bool (ltb (node g h) g.size) (λ t. rw t) (λ f. rw f))

  pub has_found : is_some (found_as g.size (node g h)) ≡ ltb (node g h) g.size
  unfolding found_as
  has_found = by_bool (ltb (node g h) g.size) (λ t. rw t) (λ f. rw f)

  pub has_told : Ok (ltb (node g h) g.size) ≡ has g h
  unfolding has
  has_told = rw (eq-eqb (length h) 32 l)

-- ---- an actor's last change: a scan from the end that stands at k has passed none of its changes

module _ (g : Graph) (v : ValidGraph g) (a : ℕ) where
  abbrev mine : ℕ → Bool
  mine k = eqb (g.actor k) a

  -- none before the scan started
  pub last_start : tally mine g.size ≡ seq_for_actor g a
  unfolding seq_for_actor
  last_start = refl

  pub last_skip : (k : ℕ) → (g.actor k ≡ a → ⊥) → tally mine (suc k) ≡ seq_for_actor g a → tally mine k ≡ seq_for_actor g a
  unfolding tally
  last_skip k n e = let z : tally mine k + cond (eqb (g.actor k) a) 1 0 ≡ seq_for_actor g a = e in let w : tally mine k + 0 ≡ seq_for_actor g a = (rw (ne_eqb (g.actor k) a n) at z) in omega arith

  -- the change at which it stops has the sequence that is the count
  pub last_seq : (k : ℕ) → k < g.size → g.actor k ≡ a → tally mine (suc k) ≡ seq_for_actor g a → g.seq k ≡ seq_for_actor g a
  unfolding tally
  last_seq k l m e =
      let z : tally mine k + cond (eqb (g.actor k) a) 1 0 ≡ seq_for_actor g a = e in
      let w : tally mine k + 1 ≡ seq_for_actor g a = (rw (eq-eqb (g.actor k) a m) at z) in
      let r = v.runs k l in
      let s : tally (λ j. eqb (g.actor j) (g.actor k)) k ≡ tally mine k = ap (λ (b : ℕ). tally (λ j. eqb (g.actor j) b) k) m in
      omega arith

  -- a change is the first with its actor and sequence, since no two have the same
  pub change_is : (k : ℕ) → k < g.size → g.actor k ≡ a → (q : ℕ) → g.seq k ≡ q → change_at g a q ≡ k
  unfolding change_at
  change_is k l m q e =
      first_is (λ j. eqb (g.actor j) a && eqb (g.seq j) q) g.size k l (and_both (eqb (g.actor k) a) (eqb (g.seq k) q) (eq-eqb _ _ m) (eq-eqb _ _ e))
      (λ j b.
      to_false (eqb (g.actor j) a && eqb (g.seq j) q)
      (λ t.
      let x = eqb-true (g.actor j) a (and_fst (eqb (g.actor j) a) (eqb (g.seq j) q) t) in
      let y = eqb-true (g.seq j) q (and_snd (eqb (g.actor j) a) (eqb (g.seq j) q) t) in
      let z = same_node g v j k (omega arith) l (x ∙ sym m) (y ∙ sym e) in
      omega arith))

  -- sequence 0 is no change's
  pub change_zero : change_at g a 0 ≡ g.size
  unfolding change_at
  change_zero =
      first_none (λ j. eqb (g.actor j) a && eqb (g.seq j) 0) g.size
      (λ j b.
      to_false (eqb (g.actor j) a && eqb (g.seq j) 0)
      (λ t. let y = eqb-true (g.seq j) 0 (and_snd (eqb (g.actor j) a) (eqb (g.seq j) 0) t) in let r = v.runs j b in omega arith))

  pub last_none : tally mine 0 ≡ seq_for_actor g a → change_at g a (seq_for_actor g a) ≡ g.size
  unfolding tally
  last_none e = let z : 0 ≡ seq_for_actor g a = e in rw (← z) change_zero

  -- an actor that has no node has no change at any sequence, and the count 0
  pub change_unknown : ((k : ℕ) → k < g.size → g.actor k ≡ a → ⊥) → (q : ℕ) → change_at g a q ≡ g.size
  unfolding change_at
  change_unknown n q =
      first_none (λ j. eqb (g.actor j) a && eqb (g.seq j) q) g.size
      (λ j b. to_false (eqb (g.actor j) a && eqb (g.seq j) q) (λ t. n j b (eqb-true (g.actor j) a (and_fst (eqb (g.actor j) a) (eqb (g.seq j) q) t))))

-- a change that was found: which it is, and that its record and its hash lie in the tables
pub record FoundIs (t : Tables) (c k : ℕ) : Type 0 where
  pub is : c ≡ k
  pub low : c < changes t
  pub node_in : 6 * k + 6 ≤ length t.nodes
  pub hash_in : 32 * k + 32 ≤ length t.hashes

pub found_is : (t : Tables) → Valid t → (c k : ℕ) → found_as (changes t) c ≡ Some k → FoundIs t c k
found_is t v c k e =
    let i = at_node (changes t) c k e in
    let l = at_low (changes t) c k e in
    let r = room t v in
    record { is = i; low = l; node_in = omega (arith, r.nodes_in); hash_in = omega (arith, r.hashes_in) }

-- ---- the largest

pub largest_next : (f : ℕ → ℕ) (k : ℕ) → largest f (k + 1) ≡ max (largest f k) (f k)
unfolding largest
largest_next f k = rw add-one

-- ---- the change with a sequence

pub change_says : (g : Graph) (a q : ℕ) → change_at g a q < g.size → (g.actor (change_at g a q) ≡ a) × (g.seq (change_at g a q) ≡ q)
unfolding change_at
change_says g a q l =
    let p : ℕ → Bool = λ j. eqb (g.actor j) a && eqb (g.seq j) q in
    let t = (first_says p g.size).passes l in
    let k = first_below p g.size in
    (eqb-true (g.actor k) a (and_fst (eqb (g.actor k) a) (eqb (g.seq k) q) t), eqb-true (g.seq k) q (and_snd (eqb (g.actor k) a) (eqb (g.seq k) q) t))

-- an actor without a last change has no changes
pub no_last : (g : Graph) → ValidGraph g → (a : ℕ) → g.size ≤ change_at g a (seq_for_actor g a) → seq_for_actor g a ≡ 0
unfolding seq_for_actor
no_last g v a l =
    by_bool (ltb 0 (tally (λ k. eqb (g.actor k) a) g.size))
    (λ t.
    let r = node_at g v a (tally (λ k. eqb (g.actor k) a) g.size) (ltb-true 0 (tally (λ k. eqb (g.actor k) a) g.size) t) (omega arith) in
    let e = change_is g v a r.node r.low r.whose _ r.value in
    let b = r.low in
    absurd (omega arith))
    (λ f. let b = ltb-false 0 (tally (λ k. eqb (g.actor k) a) g.size) f in omega arith)

pub max_op_known : (g : Graph) (k : ℕ) → k < g.size → max_op_of g k ≡ g.max_op k
unfolding max_op_of
max_op_known g k l = rw (lt-ltb k g.size l)

pub max_op_none : (g : Graph) (k : ℕ) → g.size ≤ k → max_op_of g k ≡ 0
unfolding max_op_of
max_op_none g k l = rw (le-ltb k g.size l)

-- ---- the list of actors

pub actors_long : (t : Tables) (w : Which) → length (actor_list t w) ≡ tally (actor_listed (graph t) w) (actors t)
unfolding actor_list
actors_long t w = pick_length (actor_listed (graph t) w) (actors t)

pub actors_all : (t : Tables) (w : Which) (m : ℕ) → m ≡ actors t → pick (actor_listed (graph t) w) m ≡ actor_list t w
unfolding actor_list
actors_all t w m e = ap (pick (actor_listed (graph t) w)) e
