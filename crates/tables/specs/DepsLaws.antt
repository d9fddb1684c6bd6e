-- What laid edges say of the graph: a node's dependencies are a part of the target table.
-- Assumes nothing.
use Prim.Native.Nat.{ℕ, zero, suc, ◌+◌, ◌-◌, ◌≤◌, ◌<◌}
use Rattle.std.specs.Prelude.{◌≡◌, Bool, true, length, take}
use Rattle.std.proofs.Math.Path.{refl, sym, ap, ap₂, subst}
use Rattle.std.proofs.Common.{◌∙◌, ⊎_elim, get_or-drop, get_or-take, add-one}
use Rattle.std.proofs.Math.Bool.{cond}
use mathlib.Core.List.{List, [], ◌∷◌}
use Rattle.std.proofs.Math.Dec.{eqb}
use Rattle.std.proofs.Math.ListN.{get_or}
use Rattle.std.proofs.Math.Seq.{slice, slice_empty, slice-cons, length-slice}
use borrow.Author.Tests.{eqb-true, eq-eqb}
use native.Mathlib.Omega.{arith}
use Rattle.std.proofs.Math.Decide.{dec_lt}
use Rattle.paper.specs.Lists.{mem, some_below}
use Rattle.paper.specs.Graph.{wanted, ValidGraph as ValidGraph}
use Rattle.paper.proofs.Bools.{same_bool, mem_place, mem_get_d, some_of, of_some}
use Rattle.tables.specs.Tables.{Tables, changes, edges, first_at, links, along, graph}
use Rattle.tables.specs.Valid.{Run, Laid, Running, Sound, Heads}
use Rattle.tables.specs.Valid.Run.{last, more}
use Rattle.tables.specs.Valid.Laid.{none, bare, some}
use Rattle.tables.specs.Checks.{named, Flags}
use Rattle.tables.specs.LaidLaws.{NodeLaid, laid_next, run_grows, node_grows, laid_at}
use Rattle.tables.specs.LaidLaws.NodeLaid.{no_list, a_list}

pub links_end : (ts xs : List ℕ) (f : ℕ) → links ts xs f 0 ≡ []
unfolding links
links_end ts xs zero = refl
links_end ts xs (suc f) = refl

module _ (ts xs : List ℕ) (k : ℕ) where
  -- along a run stand its edges' targets, in order
  pub run_links : {c d : ℕ} → Run ts xs k c d → (f : ℕ) → d ≤ c + f → d ≤ length ts → links ts xs f (suc c) ≡ slice c d ts
  unfolding links
  run_links {c} r zero b l = let z = run_grows ts xs k r in absurd (omega arith)
  run_links {c} {d} (last h e q) (suc f) b l =
      let n : suc c ≡ d = omega arith in
      ap (λ (x : ℕ). get_or ts c 0 ∷ links ts xs f x) e ∙ ap (λ (r : List ℕ). get_or ts c 0 ∷ r) (links_end ts xs f ∙ sym (slice_empty d ts) ∙ ap (λ (x : ℕ). slice x d ts) (sym n)) ∙ sym (slice-cons c d ts 0 (omega arith) l)
  run_links {c} {d} (more h e r) (suc f) b l =
      let z = run_grows ts xs k r in
      let n : suc (c + 1) ≡ c + 2 = omega arith in
      ap (λ (x : ℕ). get_or ts c 0 ∷ links ts xs f x) (e ∙ sym n)
      ∙ ap (λ (s : List ℕ). get_or ts c 0 ∷ s) (run_links {c = c + 1} r f (omega arith) l ∙ ap (λ (x : ℕ). slice x d ts) (add-one c))
      ∙ sym (slice-cons c d ts 0 (omega arith) l)

  pub run_target : {c d : ℕ} → Run ts xs k c d → (i : ℕ) → c ≤ i → i < d → get_or ts i 0 < k
  run_target {c} (last h e q) i b l = let n : i ≡ c = omega arith in rw n h
  run_target {c} (more h e r) i b l = elim (dec_lt c i) [
    | yes x ↦ run_target {c = c + 1} r i (omega arith) l
    | no x ↦ (let n : i ≡ c = omega arith in rw n h)
  ]

pub get_d_slice : (c d : ℕ) (l : List ℕ) (i : ℕ) → c + i < d → get_or (slice c d l) i 0 ≡ get_or l (c + i) 0
get_d_slice c d l i h = get_or-drop c (take d l) i 0 ∙ get_or-take d l (c + i) 0 h

module _ (ns ts xs : List ℕ) where
  -- node k's dependencies
  pub node_along : {k c d : ℕ} → NodeLaid ns ts xs k c d → d ≤ length ts → along ts xs (first_at ns k) ≡ slice c d ts
  node_along {k} {c} {d} (no_list f e) l = ap (along ts xs) f ∙ links_end ts xs (length ts) ∙ sym (slice_empty c ts) ∙ ap (λ (x : ℕ). slice c x ts) (sym e)
  node_along {k} {c} {d} (a_list f r b) l = ap (along ts xs) (f ∙ add-one c) ∙ run_links ts xs k r (length ts) (omega arith) l

  node_target : {k c d : ℕ} → NodeLaid ns ts xs k c d → (i : ℕ) → c ≤ i → i < d → get_or ts i 0 < k
  node_target (no_list f e) i b l = absurd (omega arith)
  node_target (a_list f r m) i b l = run_target ts xs _ r i b l

  node_short : {k c d : ℕ} → NodeLaid ns ts xs k c d → d ≤ c + 32
  node_short (no_list f e) = omega arith
  node_short (a_list f r m) = m

  -- the node whose list has edge i
  pub record Holder (n e i : ℕ) : Type 0 where
    pub node : ℕ
    pub from : ℕ
    pub to : ℕ
    pub low : node < n
    pub lower : from ≤ i
    pub upper : i < to
    pub within : to ≤ e
    pub says : NodeLaid ns ts xs node from to

  pub holder : {n e : ℕ} → Laid ns ts xs n e → (i : ℕ) → i < e → Holder n e i
  holder (none p q) i l = absurd (omega arith)
  holder (bare h p f) i l =
      let r = holder h i l in
      record { node = r.node; from = r.from; to = r.to; low = omega arith; lower = r.lower; upper = r.upper; within = r.within; says = r.says }
  holder {n} {e} (some {n = m} {c = c} {d = d} h p f r b) i l = elim (dec_lt i c) [
    | yes x ↦ (
        let w = holder h i x in
        let g = run_grows ts xs m r in
        record { node = w.node; from = w.from; to = w.to; low = omega arith; lower = w.lower; upper = w.upper; within = omega arith; says = w.says }
        )
    | no x ↦ record { node = m; from = c; to = d; low = omega arith; lower = omega arith; upper = l; within = omega arith; says = a_list f r b }
  ]

  module _ {n e : ℕ} (laid : Laid ns ts xs n e) (fits : e ≤ length ts) where
    pub targets_low : (i : ℕ) → i < e → get_or ts i 0 < n
    targets_low i l = let w = holder laid i l in let t = node_target w.says i w.lower w.upper in omega arith

    -- node k's dependencies, as a part of the targets
    pub record DepsAt (k : ℕ) : Type 0 where
      pub from : ℕ
      pub to : ℕ
      pub grows : from ≤ to
      pub within : to ≤ e
      pub says : NodeLaid ns ts xs k from to
      pub part : along ts xs (first_at ns k) ≡ slice from to ts

    pub deps_at_lem : (k : ℕ) → k < n → DepsAt k
    deps_at_lem k l =
        let u = laid_at ns ts xs (n - (k + 1)) laid k (omega arith) in
        record { from = u.0; to = u.1; grows = node_grows ns ts xs u.3; within = u.4; says = u.3; part = node_along u.3 (let z = u.4 in omega arith) }

    pub deps_down : (k j : ℕ) → k < n → mem j (along ts xs (first_at ns k)) ≡ true → j < k
    deps_down k j l m =
        let a = deps_at_lem k l in
        let p = mem_place j (slice a.from a.to ts) (rw a.part at m) in
        let b : p.0 < a.to - a.from = (let q = p.1 in let s = length-slice a.from a.to ts (let w = a.within in omega arith) in omega arith) in
        let g = get_d_slice a.from a.to ts p.0 (omega arith) in
        let t = node_target a.says (a.from + p.0) (omega arith) (omega arith) in
        let e' : get_or (slice a.from a.to ts) p.0 0 ≡ j = p.2 in
        omega arith

    -- rule 8 is kept
    pub deps_few : (k : ℕ) → k < n → length (along ts xs (first_at ns k)) ≤ 32
    deps_few k l =
        let a = deps_at_lem k l in
        let s = length-slice a.from a.to ts (let w = a.within in omega arith) in
        let b = node_short a.says in
        rw a.part (omega arith)

    -- some node depends on k exactly if some edge in use has the target k
    pub wanted_named : (k : ℕ) → some_below (λ m. mem k (along ts xs (first_at ns m))) n ≡ named ts e k
    unfolding named
    wanted_named k =
        same_bool (some_below (λ m. mem k (along ts xs (first_at ns m))) n) (some_below (λ i. eqb (get_or ts i 0) k) e)
        (λ t.
        let w = of_some (λ m. mem k (along ts xs (first_at ns m))) n t in
        let a = deps_at_lem w.0 w.1 in
        let p = mem_place k (slice a.from a.to ts) (rw a.part at w.2) in
        let b : p.0 < a.to - a.from = (let q = p.1 in let s = length-slice a.from a.to ts (let w = a.within in omega arith) in omega arith) in
        let g = get_d_slice a.from a.to ts p.0 (omega arith) in
        some_of (λ i. eqb (get_or ts i 0) k) e (a.from + p.0) (let z = a.within in omega arith) (eq-eqb _ _ (sym g ∙ p.2)))
        (λ t.
        let w = of_some (λ i. eqb (get_or ts i 0) k) e t in
        let h = holder laid w.0 w.1 in
        let s = length-slice h.from h.to ts (let z = h.within in omega arith) in
        let x : h.from + (w.0 - h.from) ≡ w.0 = (let y = h.lower in omega arith) in
        let g : get_or (slice h.from h.to ts) (w.0 - h.from) 0 ≡ k =
        get_d_slice h.from h.to ts (w.0 - h.from) (let y = h.upper in omega arith) ∙ ap (λ (i : ℕ). get_or ts i 0) x ∙ eqb-true _ _ w.2 in
        some_of (λ m. mem k (along ts xs (first_at ns m))) n h.node h.low
        (ap (mem k) (node_along h.says (let z = h.within in omega arith))
        ∙ subst (λ (j : ℕ). mem j (slice h.from h.to ts) ≡ true) g (mem_get_d (slice h.from h.to ts) (w.0 - h.from) (let y = h.upper in let z = h.lower in omega arith))))

-- ---- whole tables

module _ (t : Tables) (laid : Laid t.nodes t.targets t.nexts (changes t) (edges t)) (fits : edges t ≤ length t.targets) where
  -- the check by edges is the check by nodes
  pub wanted_edges : (k : ℕ) → wanted (graph t) k ≡ named t.targets (edges t) k
  unfolding wanted
  wanted_edges k = wanted_named t.nodes t.targets t.nexts laid fits k

  pub heads_of_flags : Flags t.nodes t.targets (changes t) (edges t) → Heads t
  unfolding Heads Flags
  heads_of_flags f k l = f k l ∙ ap (λ (b : Bool). cond b 0 1) (sym (wanted_edges k))

  pub flags_of_heads : Heads t → Flags t.nodes t.targets (changes t) (edges t)
  unfolding Heads Flags
  flags_of_heads f k l = f k l ∙ ap (λ (b : Bool). cond b 0 1) (wanted_edges k)

-- sound tables hold a valid graph
pub valid_graph : (t : Tables) → Sound t → ValidGraph (graph t)
unfolding Running
valid_graph t s =
    record {
      down = λ k j l m. deps_down t.nodes t.targets t.nexts s.laid s.counts.edges_fit k j l m;
      runs = s.running;
    }

-- ---- tables that agree on the edges in use

module _ (ts xs ts' xs' : List ℕ) (u : ℕ) (inside : (i : ℕ) → i < u → get_or xs i 0 ≤ u) (same-t : (i : ℕ) → i < u → get_or ts' i 0 ≡ get_or ts i 0) (same-x : (i : ℕ) → i < u → get_or xs' i 0 ≡ get_or xs i 0) where
  links_same : (f e : ℕ) → e ≤ u → links ts' xs' f e ≡ links ts xs f e
  unfolding links
  links_same zero e l = refl
  links_same (suc f) zero l = refl
  links_same (suc f) (suc i) l =
      ap₂ (λ (h : ℕ) (r : List ℕ). h ∷ r) (same-t i (omega arith)) (ap (links ts' xs' f) (same-x i (omega arith)) ∙ links_same f (get_or xs i 0) (inside i (omega arith)))

  pub along_same : length ts' ≡ length ts → (e : ℕ) → e ≤ u → along ts' xs' e ≡ along ts xs e
  along_same long e l = ap (λ (k : ℕ). links ts' xs' k e) long ∙ links_same (length ts) e l

-- an edge in use has its next among them
pub next_inside : (ns ts xs : List ℕ) {n e : ℕ} → Laid ns ts xs n e → (i : ℕ) → i < e → get_or xs i 0 ≤ e
next_inside ns ts xs l i h = ⊎_elim (λ z. omega arith) (λ t. let x = t.0 in let y = t.1 in omega arith) (laid_next ns ts xs l i h)
