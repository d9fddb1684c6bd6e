-- Whole walks: the clock of a list, and its history by marks.
-- Assumes nothing.
use Rattle.std.specs.Prelude.{◌≡◌, refl, Bool, cond, ◌&&◌, ◌||◌, List, ℕ, suc, ◌+◌, ◌≤◌, ◌<◌, ltb, length, get_or, set, replicate}
use Rattle.std.proofs.Common.{sym, ◌∙◌, arith, ltb-true, ltb-false, lt-ltb}
use Rattle.std.proofs.Math.Path.{ap}
use Rattle.std.proofs.Math.Bool.{or-false, and-false}
use Rattle.std.proofs.lemmas.List.{length-replicate, get_or-replicate}
use Rattle.std.proofs.Math.ListN.{get_or-eq_default}
use Rattle.list_laws.specs.Blend.{blend, blend_start, blend_length, blend_set, blend_end}
use Rattle.paper.specs.Lists.{mem, each_below}
use Rattle.paper.specs.Graph.{Graph, clock, look, pass, known, hist}
use Rattle.paper.proofs.Bools.{by_bool, mem_place}
use Rattle.paper.proofs.History.{look_at}
use Rattle.paper.proofs.Walk.{front_start}
use Rattle.paper.proofs.Each.{to_each}
use Rattle.tables.specs.Tables.{Tables, changes, first_at, along, graph}
use Rattle.tables.specs.Valid.{Sound}
use Rattle.tables.specs.DepsLaws.{valid_graph}
use Rattle.walk.specs.Marks.{marked, MarkedBy, Bits, Known, marks_of}
use Rattle.walk.specs.MarkLaws.{marked_by}
use Rattle.walk.specs.Walk.{WalkDone, Spread}
use Rattle.walk.specs.WalkLaws.{all_walked}

-- ---- clearing: the first i entries are 0

pub record Clearing (l₀ l : List ℕ) (i : ℕ) : Type 0 where
  pub inside : i ≤ length l₀
  pub same : l ≡ blend i (replicate (length l₀) 0) l₀
  pub long : length l ≡ length l₀

pub clearing_start : (l : List ℕ) → Clearing l l 0
clearing_start l = record { inside = omega arith; same = sym (blend_start (replicate (length l) 0) l); long = refl }

pub clearing_next : {l₀ l : List ℕ} {i : ℕ} → Clearing l₀ l i → i < length l₀ → Clearing l₀ (set l i 0) (i + 1)
clearing_next {l₀} {l} {i} v h =
    let e : set l i 0 ≡ blend (i + 1) (replicate (length l₀) 0) l₀ =
    ap (λ (x : List ℕ). set x i 0) v.same ∙ ap (set (blend i (replicate (length l₀) 0) l₀) i) (sym (get_or-replicate {A = ℕ} (length l₀) i 0 0 h)) ∙ blend_set i (replicate (length l₀) 0) l₀ (rw (length-replicate {A = ℕ} (length l₀) 0) h) h in
    record { inside = omega arith; same = e; long = ap length e ∙ blend_length (i + 1) (replicate (length l₀) 0) l₀ (length-replicate {A = ℕ} (length l₀) 0) (omega arith) }

pub clearing_end : {l₀ l : List ℕ} {i : ℕ} → Clearing l₀ l i → length l ≤ i → l ≡ replicate (length l₀) 0
clearing_end {l₀} {l} {i} v h = v.same ∙ blend_end i (replicate (length l₀) 0) l₀ (length-replicate {A = ℕ} (length l₀) 0) (let e = v.long in omega arith)

-- ---- the clock of a list

-- what stands in a cleared list
pub cleared : (n j : ℕ) → ◌≡◌ {A = ℕ} (get_or (replicate n 0) j 0) 0
cleared n j = by_bool (ltb j n) (λ t. get_or-replicate {A = ℕ} n j 0 0 (ltb-true j n t)) (λ f. get_or-eq_default (replicate n 0) 0 (rw (length-replicate {A = ℕ} n 0) (ltb-false j n f)))

-- only the listed nodes are marked
pub starts_marked : (starts : List ℕ) (n : ℕ) (m : List ℕ) → MarkedBy starts (replicate n 0) m → (j : ℕ) → marked m j ≡ mem j starts
starts_marked starts n m v j = marked_by starts (replicate n 0) m v j ∙ ap (λ (x : ℕ). ltb 0 x || mem j starts) (cleared n j)

pub clock_walked : (t : Tables) (s : Sound t) (starts clock₀ marks clock' marks' : List ℕ) (n r : ℕ) → clock₀ ≡ replicate n 0 → MarkedBy starts (replicate r 0) marks → WalkDone t (changes t) (changes t) clock₀ marks clock' marks' → clock' ≡ each_below (clock (graph t) starts) n
clock_walked t s starts clock₀ marks clock' marks' n r e m w =
    let l : length clock₀ ≡ n = ap length e ∙ length-replicate {A = ℕ} n 0 in
    to_each (clock (graph t) starts) n clock' (w.long ∙ l)
    (λ a h.
    let x = all_walked t s (changes t) (changes t) clock₀ marks clock' marks' w (omega arith) a (omega arith) in
    let z : get_or clock₀ a 0 ≡ 0 = ap (λ (y : List ℕ). get_or y a 0) e ∙ cleared n a in
    let f = front_start (graph t) (valid_graph t s) starts (marked marks) a (λ k b. starts_marked starts r marks m k) in
    omega arith)

-- ---- the history

-- the walk has come down to i: what the marks still come to is what they came to at the start, and each is 0 or 1
pub record Spreading (t : Tables) (m₀ m : List ℕ) (i : ℕ) : Type 0 where
  pub inside : i ≤ changes t
  pub long : length m ≡ length m₀
  pub bits : (j : ℕ) → get_or m j 0 ≡ cond (marked m j) 1 0
  pub same : (j : ℕ) → pass (graph t) i (marked m) j ≡ pass (graph t) (changes t) (marked m₀) j

pub spreading_start : (t : Tables) (m : List ℕ) → Bits m → Spreading t m m (changes t)
spreading_start t m b = record { inside = omega arith; long = refl; bits = b; same = λ j. refl }

-- marking keeps marks at 0 and 1
pub bits_marked : (d m m' : List ℕ) → MarkedBy d m m' → Bits m → Bits m'
bits_marked d m m' v b j = rw (v.each j) (by_bool (mem j d) (λ t. rw t) (λ f. rw f (b j)))

-- marks that agree come to the same
pass_ext : (g : Graph) (i : ℕ) (w z : ℕ → Bool) → ((j : ℕ) → w j ≡ z j) → (j : ℕ) → pass g i w j ≡ pass g i z j
pass_ext g i w z e j = ap (λ (x : ℕ → Bool). pass g i x j) (λ r k. e k r)

module _ (t : Tables) (m₀ m : List ℕ) (i k : ℕ) (q : k ≡ suc i) (v : Spreading t m₀ m k) where
  g : Graph
  g = graph t

  unfolding_pass : (j : ℕ) → pass (graph t) i (look (graph t) i (marked m)) j ≡ pass (graph t) (changes t) (marked m₀) j
  unfolding pass
  unfolding_pass j = ap (λ (x : ℕ). pass (graph t) x (marked m) j) (sym q) ∙ v.same j

  pub spreading_skip : get_or m i 0 ≡ 0 → Spreading t m₀ m i
  spreading_skip z = record {
    inside = let b = v.inside in omega arith;
    long = v.long;
    bits = v.bits;
    same = λ j.
        pass_ext (graph t) i (marked m) (look (graph t) i (marked m))
        (λ x. sym (look_at (graph t) i (marked m) x ∙ ap (λ (b : Bool). marked m x || (b && mem x ((graph t).deps i))) (ap (ltb 0) z) ∙ or-false (marked m x))) j
        ∙ unfolding_pass j;
  }

  pub spreading_next : 0 < get_or m i 0 → (m' : List ℕ) → MarkedBy (along t.targets t.nexts (first_at t.nodes i)) m m' → Spreading t m₀ m' i
  spreading_next h m' x = record {
    inside = let b = v.inside in omega arith;
    long = x.long ∙ v.long;
    bits = bits_marked (along t.targets t.nexts (first_at t.nodes i)) m m' x v.bits;
    same = λ j.
        pass_ext (graph t) i (marked m') (look (graph t) i (marked m))
        (λ y. marked_by (along t.targets t.nexts (first_at t.nodes i)) m m' x y ∙ sym (look_at (graph t) i (marked m) y ∙ ap (λ (b : Bool). marked m y || (b && mem y ((graph t).deps i))) (lt-ltb 0 (get_or m i 0) h))) j
        ∙ unfolding_pass j;
  }

pub spreading_end : (t : Tables) (m₀ m : List ℕ) (i : ℕ) → i ≡ 0 → Spreading t m₀ m i → Spread t m₀ m
unfolding pass
spreading_end t m₀ m i z v = record {
  long = v.long;
  each = λ j. v.bits j ∙ ap (λ (b : Bool). cond b 1 0) (ap (λ (x : ℕ). pass (graph t) x (marked m) j) (sym z) ∙ v.same j);
}

-- before the walk the listed nodes alone have a 1
pub starts_bits : (starts : List ℕ) (n : ℕ) (m : List ℕ) → MarkedBy starts (replicate n 0) m → Bits m
starts_bits starts n m v = bits_marked starts (replicate n 0) m v (λ j. cleared n j ∙ ap (λ (x : ℕ). cond (ltb 0 x) 1 0) (sym (cleared n j)))

-- from the listed nodes, all known, it is their history
pub history_marked : (t : Tables) (s : Sound t) (starts m₀ m : List ℕ) (n : ℕ) → Known t.counts starts → MarkedBy starts (replicate n 0) m₀ → length m ≡ n → Spread t m₀ m → m ≡ marks_of (hist (graph t) starts) n
unfolding marks_of hist known
history_marked t s starts m₀ m n low v l e =
    to_each (λ j. cond (hist (graph t) starts j) 1 0) n m l
    (λ j h. e.each j ∙ ap (λ (b : Bool). cond b 1 0) (pass_ext (graph t) (changes t) (marked m₀) (known (graph t) starts) (λ k. starts_marked starts n m₀ v k ∙ known_mem k) j))
  where
    known_mem : (k : ℕ) → mem k starts ≡ known (graph t) starts k
    known_mem k =
        by_bool (mem k starts)
        (λ y.
        let p = mem_place k starts y in
        let b : k < changes t = (let u = low p.0 p.1 in let x : get_or starts p.0 0 ≡ k = p.2 in omega arith) in
        rw (y, lt-ltb k (changes t) b))
        (λ y. rw y (sym (and-false (ltb k (changes t)))))
