-- The steps of marking, along an edge list and along a list of nodes.
-- Assumes nothing.
use Rattle.std.specs.Prelude.{◌≡◌, refl, Bool, cond, ◌||◌, List, ◌∷◌, ℕ, suc, ◌+◌, ◌-◌, ◌≤◌, ◌<◌, eqb, length, get_or, set, drop}
use Rattle.std.proofs.Common.{sym, ap, ◌∙◌, subst, add-one, arith, length-set, drop_of_length-le, get_or-set_same, get_or-set_other, eqb-true}
use Rattle.std.proofs.Math.Bool.{or-true, or-false}
use Rattle.std.proofs.Math.Seq.{slice, slice_empty, slice-cons}
use Rattle.std.proofs.lemmas.Bool.{eqb-false}
use Rattle.paper.specs.Lists.{mem}
use Rattle.paper.proofs.Bools.{by_bool, mem_nil, mem_cons}
use Rattle.list_laws.specs.Rest.{drop_more}
use Rattle.tables.specs.Tables.{Tables, changes, first_at, along}
use Rattle.tables.specs.Valid.{Run, Sound}
use Rattle.tables.specs.Valid.Run.{last, more}
use Rattle.tables.specs.LaidLaws.{NodeLaid, run_grows}
use Rattle.tables.specs.LaidLaws.NodeLaid.{no_list, a_list}
use Rattle.tables.specs.DepsLaws.{links_end, run_links, run_target, deps_at_lem}
use Rattle.walk.specs.Marks.{marked, MarkedBy, Chain}

-- ---- one mark

-- t is marked, so it need not stand in the list of what is to be marked
pub mark_step : (m rest : List ℕ) (t j : ℕ) → t < length m → cond (mem j rest) 1 (get_or (set m t 1) j 0) ≡ cond (mem j (t ∷ rest)) 1 (get_or m j 0)
mark_step m rest t j l =
    rw (mem_cons j t rest)
    (by_bool (eqb j t)
    (λ e. rw (e, eqb-true j t e, get_or-set_same m t 1 0 l) (by_bool (mem t rest) (λ p. rw p) (λ p. rw p)))
    (λ f. rw (f, get_or-set_other m t j 1 0 (eqb-false j t f))))

-- a mark after marking
pub marked_by : (d m m' : List ℕ) → MarkedBy d m m' → (j : ℕ) → marked m' j ≡ (marked m j || mem j d)
marked_by d m m' v j =
    rw (v.each j)
    (by_bool (mem j d) (λ t. rw t (sym (or-true (marked m j)))) (λ f. rw f (sym (or-false (marked m j)))))

-- ---- along an edge list

module _ (ts xs : List ℕ) (b : ℕ) where
  run_step : {c d : ℕ} → Run ts xs b c d → d ≤ length ts → along ts xs (suc c) ≡ get_or ts c 0 ∷ along ts xs (get_or xs c 0)
  run_step {c} {d} (last h e q) l =
      let n : suc c ≡ d = omega arith in
      run_links ts xs b (last {c = c} {d = d} h e q) (length ts) (omega arith) l
      ∙ slice-cons c d ts 0 (omega arith) l
      ∙ ap (λ (r : List ℕ). get_or ts c 0 ∷ r) (ap (λ (x : ℕ). slice x d ts) n ∙ slice_empty d ts ∙ sym (links_end ts xs (length ts)) ∙ ap (along ts xs) (sym e))
  run_step {c} {d} (more h e r) l =
      let g = run_grows ts xs b r in
      let n : suc (c + 1) ≡ c + 2 = omega arith in
      run_links ts xs b (more {c = c} {d = d} h e r) (length ts) (omega arith) l
      ∙ slice-cons c d ts 0 (omega arith) l
      ∙ ap (λ (s : List ℕ). get_or ts c 0 ∷ s) (ap (λ (x : ℕ). slice x d ts) (sym (add-one c)) ∙ sym (run_links ts xs b r (length ts) (omega arith) l) ∙ ap (along ts xs) (n ∙ sym e))

  next_run : {c d : ℕ} → Run ts xs b c d → 0 < get_or xs c 0 → Run ts xs b (get_or xs c 0 - 1) d
  next_run (last h e q) p = absurd (omega arith)
  next_run {c} {d} (more h e r) p = let n : c + 1 ≡ get_or xs c 0 - 1 = omega arith in subst (λ (i : ℕ). Run ts xs b i d) n r

  run_up : {k c d : ℕ} → k ≤ b → Run ts xs k c d → Run ts xs b c d
  run_up {k} {c} {d} l (last h e q) = last {c = c} (omega arith) e q
  run_up {k} {c} {d} l (more h e r) = more {c = c} (omega arith) e (run_up l r)

  module _ (e : ℕ) (v : Chain ts xs b e) (pos : 0 < e) where
    pub chain_in : e - 1 < length ts
    chain_in = let z = run_grows ts xs b (v.run pos) in let y = v.within in omega arith

    pub chain_target : get_or ts (e - 1) 0 < b
    chain_target = let z = run_grows ts xs b (v.run pos) in run_target ts xs b (v.run pos) (e - 1) (omega arith) z

    pub chain_rest : along ts xs e ≡ get_or ts (e - 1) 0 ∷ along ts xs (get_or xs (e - 1) 0)
    chain_rest = let q : e ≡ suc (e - 1) = omega arith in ap (along ts xs) q ∙ run_step (v.run pos) v.within

    pub chain_next : Chain ts xs b (get_or xs (e - 1) 0)
    chain_next = record { to = v.to; within = v.within; run = next_run (v.run pos) }

pub chain_up : {ts xs : List ℕ} {k b e : ℕ} → k ≤ b → Chain ts xs k e → Chain ts xs b e
chain_up {ts} {xs} {k} {b} l v = record { to = v.to; within = v.within; run = λ p. run_up ts xs b l (v.run p) }

-- a node's edge list
pub node_chain : (t : Tables) → Sound t → (k : ℕ) → k < changes t → Chain t.targets t.nexts k (first_at t.nodes k)
node_chain t s k l =
    let a = deps_at_lem t.nodes t.targets t.nexts s.laid s.counts.edges_fit k l in
    go a.from a.to (let w = a.within in let f = s.counts.edges_fit in omega arith) a.says
  where
    go : (c d : ℕ) → d ≤ length t.targets → NodeLaid t.nodes t.targets t.nexts k c d → Chain t.targets t.nexts k (first_at t.nodes k)
    go c d i (no_list f e) = record { to = d; within = i; run = λ p. absurd (omega arith) }
    go c d i (a_list f r b) = record { to = d; within = i; run = λ p. let q : c ≡ first_at t.nodes k - 1 = omega arith in subst (λ (x : ℕ). Run t.targets t.nexts k x d) q r }

-- the loop of `mark_links`: what is to be marked from link e on, with what is marked, is what was to be marked
pub record Marking (ts xs m₀ : List ℕ) (first : ℕ) (m : List ℕ) (e : ℕ) : Type 0 where
  pub chain : Chain ts xs (length m₀) e
  pub long : length m ≡ length m₀
  pub each : (j : ℕ) → cond (mem j (along ts xs e)) 1 (get_or m j 0) ≡ cond (mem j (along ts xs first)) 1 (get_or m₀ j 0)

pub marking_start : (ts xs m : List ℕ) (first : ℕ) → Chain ts xs (length m) first → Marking ts xs m first m first
marking_start ts xs m first v = record { chain = v; long = refl; each = λ j. refl }

module _ {ts xs m₀ : List ℕ} {first : ℕ} {m : List ℕ} {e : ℕ} (v : Marking ts xs m₀ first m e) where
  pub marking_next : 0 < e → Marking ts xs m₀ first (set m (get_or ts (e - 1) 0) 1) (get_or xs (e - 1) 0)
  marking_next p = record {
    chain = chain_next ts xs (length m₀) e v.chain p;
    long = length-set m (get_or ts (e - 1) 0) 1 ∙ v.long;
    each = λ j.
        mark_step m (along ts xs (get_or xs (e - 1) 0)) (get_or ts (e - 1) 0) j (let t = chain_target ts xs (length m₀) e v.chain p in let q = v.long in omega arith)
        ∙ ap (λ (l : List ℕ). cond (mem j l) 1 (get_or m j 0)) (sym (chain_rest ts xs (length m₀) e v.chain p))
        ∙ v.each j;
  }

  pub marking_less : 0 < e → length (along ts xs (get_or xs (e - 1) 0)) < length (along ts xs e)
  marking_less p = rw (chain_rest ts xs (length m₀) e v.chain p) (omega arith)

  pub marking_end : e ≡ 0 → MarkedBy (along ts xs first) m₀ m
  marking_end z = record {
    long = v.long;
    each = λ j. sym (ap (λ (l : List ℕ). cond (mem j l) 1 (get_or m j 0)) (ap (along ts xs) z ∙ links_end ts xs (length ts)) ∙ ap (λ (q : Bool). cond q 1 (get_or m j 0)) (mem_nil j)) ∙ v.each j;
  }

-- ---- along a list of nodes

pub record Listing (d m₀ : List ℕ) (m : List ℕ) (i : ℕ) : Type 0 where
  pub inside : i ≤ length d
  pub long : length m ≡ length m₀
  pub each : (j : ℕ) → cond (mem j (drop i d)) 1 (get_or m j 0) ≡ cond (mem j d) 1 (get_or m₀ j 0)

pub listing_start : (d m : List ℕ) → Listing d m m 0
listing_start d m = record { inside = omega arith; long = refl; each = λ j. refl }

module _ {d m₀ m : List ℕ} {i : ℕ} (v : Listing d m₀ m i) where
  pub listing_next : i < length d → get_or d i 0 < length m₀ → Listing d m₀ (set m (get_or d i 0) 1) (i + 1)
  listing_next l h = record {
    inside = omega arith;
    long = length-set m (get_or d i 0) 1 ∙ v.long;
    each = λ j.
        mark_step m (drop (i + 1) d) (get_or d i 0) j (let q = v.long in omega arith)
        ∙ ap (λ (r : List ℕ). cond (mem j r) 1 (get_or m j 0)) (sym (drop_more d i l))
        ∙ v.each j;
  }

  pub listing_end : length d ≤ i → MarkedBy d m₀ m
  listing_end l = record {
    long = v.long;
    each = λ j. sym (ap (λ (r : List ℕ). cond (mem j r) 1 (get_or m j 0)) (drop_of_length-le d {i = i} l) ∙ ap (λ (q : Bool). cond q 1 (get_or m j 0)) (mem_nil j)) ∙ v.each j;
  }
