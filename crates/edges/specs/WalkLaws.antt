-- The walk along next: what is put down so far, and what is left. On valid tables it gives a node's dependencies.
-- Assumes nothing.
use Rattle.std.specs.Prelude.{◌≡◌, refl, Bool, true, ◌&&◌, not, List, [], ◌∷◌, ◌++◌, map, ℕ, zero, suc, ◌+◌, ◌-◌, ◌<◌, ◌≤◌, ◌^◌, min, T, ltb, leb, eqb, length, get_or, set, take, drop}
use Rattle.std.proofs.Common.{sym, ◌∙◌, ap, subst, append_assoc, append-nil, add-one, arith, leb→le, ltb→lt, length-set, length-append, take-append-drop, length-drop, take-suc-set, drop-set-lt, ne_eqb, le-leb, lt-ltb}
use Rattle.std.proofs.Math.Decide.{dec_lt}
use Rattle.std.proofs.Math.ListN.{get_or-map}
use Rattle.std.proofs.Math.Facts.{and_yes}
use Rattle.std.proofs.lemmas.Bool.{lt-leb}
use Rattle.tables.specs.Tables.{changes, first_at, links, along, graph}
use Rattle.tables.specs.Valid.{Run, Sound}
use Rattle.tables.specs.Valid.Run.{last, more}
use Rattle.tables.specs.LaidLaws.{NodeLaid, run_grows}
use Rattle.tables.specs.LaidLaws.NodeLaid.{no_list, a_list}
use Rattle.tables.specs.DepsLaws.{links_end, deps_at_lem}
use Rattle.edges.specs.Edges.{no_edge, targets_of, nexts_of, lent, inside, parents, parents_in, goes_on}
use Rattle.edges.specs.EdgesLaws.{targets_long, target_at, next_at, one_less}
use Rattle.edges.specs.declared.Edge.{Edge}

-- what a test that holds says
pub goes_yes : (at n e l : ℕ) → T (goes_on at n e l) → (0 < at) × (at ≤ e) × (n < e) × (n < l)
goes_yes at n e l t =
    let a : T (not (eqb at 0)) × T (leb at e && (ltb n e && ltb n l)) = and_yes (not (eqb at 0)) (leb at e && (ltb n e && ltb n l)) t in
    let c : T (leb at e) × T (ltb n e && ltb n l) = and_yes (leb at e) (ltb n e && ltb n l) a.1 in
    let d : T (ltb n e) × T (ltb n l) = and_yes (ltb n e) (ltb n l) c.1 in
    (positive at a.0, leb→le at e c.0, ltb→lt n e d.0, ltb→lt n l d.1)
  where
    positive : (k : ℕ) → T (not (eqb k 0)) → 0 < k
    positive zero z = absurd z
    positive (suc k) z = omega arith

-- at most k steps of a walk are the first k targets of it
links_take : (ts xs : List ℕ) (k f e : ℕ) → take k (links ts xs f e) ≡ links ts xs (min k f) e
unfolding links
links_take ts xs zero f e = let m : 0 ≡ min 0 f = omega arith in ap (λ (n : ℕ). links ts xs n e) m
links_take ts xs (suc k) zero e = let m : 0 ≡ min (suc k) 0 = omega arith in ap (λ (n : ℕ). links ts xs n e) m
links_take ts xs (suc k) (suc f) zero = sym (links_end ts xs (min (suc k) (suc f)))
links_take ts xs (suc k) (suc f) (suc i) =
    let m : suc (min k f) ≡ min (suc k) (suc f) = omega arith in
    ap (λ (l : List ℕ). get_or ts i 0 ∷ l) (links_take ts xs k f (get_or xs i 0)) ∙ ap (λ (n : ℕ). links ts xs n (suc i)) m

-- ---- the records

-- the nexts, where an edge that is not in the table is none
abbrev pub insides : List Edge → List ℕ
insides es = map (inside (length es)) (nexts_of es)

-- the next k targets from `at` on
abbrev pub left : List Edge → ℕ → ℕ → List ℕ
left es at k = links (targets_of es) (insides es) k (inside (length es) at)

inside_in : (n e : ℕ) → e ≤ n → inside n e ≡ e
inside_in n e l = simp (le-leb e n l)

inside_out : (n e : ℕ) → n < e → inside n e ≡ 0
inside_out n e l = simp (lt-leb e n l)

inside_at : (es : List Edge) (i : ℕ) → get_or (insides es) i 0 ≡ inside (length es) (get_or es i no_edge).next
inside_at es i =
    ap (λ (d : ℕ). get_or (insides es) i d) (sym (inside_in (length es) 0 (omega arith)))
    ∙ get_or-map (inside (length es)) (nexts_of es) i 0 ∙ ap (inside (length es)) (sym (next_at es i))

-- the walk takes one step
left_more : (es : List Edge) (at k : ℕ) → 0 < at → at ≤ length es → left es at (suc k) ≡ (get_or es (at - 1) no_edge).target ∷ left es (get_or es (at - 1) no_edge).next k
unfolding links
left_more es zero k p w = absurd (omega arith)
left_more es (suc i) k p w =
    let e : i ≡ suc i - 1 = omega arith in
    ap (λ (a : ℕ). links (targets_of es) (insides es) (suc k) a) (inside_in (length es) (suc i) w)
    ∙ ap (λ (t : ℕ). t ∷ links (targets_of es) (insides es) k (get_or (insides es) i 0)) (sym (target_at es i))
    ∙ ap (λ (a : ℕ). (get_or es i no_edge).target ∷ links (targets_of es) (insides es) k a) (inside_at es i)
    ∙ ap (λ (a : ℕ). (get_or es a no_edge).target ∷ left es (get_or es a no_edge).next k) e

-- the walk is at its end
left_stop : (es : List Edge) (at n l k : ℕ) → T (not (goes_on at n (length es) l)) → n + k ≡ min (length es) l → left es at k ≡ []
unfolding links
left_stop es at n l zero t e = refl
left_stop es zero n l (suc k) t e = ap (λ (a : ℕ). links (targets_of es) (insides es) (suc k) a) (inside_in (length es) 0 (omega arith))
left_stop es (suc i) n l (suc k) t e = elim (dec_lt (length es) (suc i)) [
  | yes p ↦ ap (λ (a : ℕ). links (targets_of es) (insides es) (suc k) a) (inside_out (length es) (suc i) p)
  | no p ↦ (
      let g : goes_on (suc i) n (length es) l ≡ true = simp (ne_eqb (suc i) 0 (λ z. omega arith), le-leb (suc i) (length es) (omega arith), lt-ltb n (length es) (omega arith), lt-ltb n l (omega arith)) in
      absurd (subst (λ (b : Bool). T (not b)) g t)
      )
]

-- where the walk stands: n targets are put down in ws, k more may be, and the next edge is `at` - 1. ws₀ is the table at entry
pub record Walking (es : List Edge) (first : ℕ) (ws₀ : List ℕ) (at n k : ℕ) (ws : List ℕ) : Type 0 where
  pub fits : at < 2 ^ 32
  pub sum : n + k ≡ min (length es) (length ws₀)
  pub long : length ws ≡ length ws₀
  pub rest : drop n ws ≡ drop n ws₀
  pub walked : parents_in es first ws₀ ≡ take n ws ++ left es at k

pub walking_start : (es : List Edge) (first : ℕ) (ws₀ : List ℕ) → first < 2 ^ 32 → Walking es first ws₀ first 0 (min (length es) (length ws₀)) ws₀
walking_start es first ws₀ l =
    let m : min (length ws₀) (length (targets_of es)) ≡ min (length es) (length ws₀) = omega (arith, targets_long es) in record {
      fits = l;
      sum = omega arith;
      long = refl;
      rest = refl;
      walked = links_take (targets_of es) (insides es) (length ws₀) (length (targets_of es)) (inside (length es) first) ∙ ap (λ (k : ℕ). left es first k) m;
    }

module _ (es : List Edge) (first : ℕ) (ws₀ : List ℕ) (at n k : ℕ) (ws : List ℕ) (st : Walking es first ws₀ at n k ws) where
  abbrev e : Edge
  e = get_or es (at - 1) no_edge

  pub walking_next : T (goes_on at n (length es) (length ws)) → e.next < 2 ^ 32 → (j : ℕ) → k ≡ suc j → Walking es first ws₀ e.next (n + 1) j (set ws n e.target)
  walking_next t small j ek =
      let y : (0 < at) × (at ≤ length es) × (n < length es) × (n < length ws) = goes_yes at n (length es) (length ws) t in record {
        fits = small;
        sum = omega (arith, st.sum);
        long = length-set ws n e.target ∙ st.long;
        rest = drop-set-lt (n + 1) ws n e.target (omega arith) ∙ drop_more st.rest;
        walked = st.walked ∙ ap (λ (m : ℕ). take n ws ++ left es at m) ek ∙ ap (λ (r : List ℕ). take n ws ++ r) (left_more es at j y.0 y.1)
            ∙ sym (append_assoc (take n ws) (e.target ∷ []) (left es e.next j)) ∙ ap (λ (r : List ℕ). r ++ left es e.next j) (sym (take-suc-set ws n e.target y.3))
            ∙ ap (λ (m : ℕ). take m (set ws n e.target) ++ left es e.next j) (sym (add-one n));
      }
    where
      drop_drop : (i : ℕ) (l : List ℕ) → drop (suc i) l ≡ drop 1 (drop i l)
      drop_drop zero l = refl
      drop_drop (suc i) [] = refl
      drop_drop (suc i) (x ∷ xs) = drop_drop i xs

      drop_more : drop n ws ≡ drop n ws₀ → drop (n + 1) ws ≡ drop (n + 1) ws₀
      drop_more q = rw add-one (drop_drop n ws ∙ ap (λ (r : List ℕ). drop 1 r) q ∙ sym (drop_drop n ws₀))

  -- k is not 0 where the walk goes on
  pub walking_more : T (goes_on at n (length es) (length ws)) → (j : ℕ) × (k ≡ suc j)
  walking_more t = let y = goes_yes at n (length es) (length ws) t in one_less k (omega (arith, st.sum, st.long, y.2, y.3))

  -- the walk has ended: what is put down is all of it
  pub walking_end : T (not (goes_on at n (length es) (length ws))) → (n ≡ length (parents_in es first ws₀)) × (ws ≡ parents_in es first ws₀ ++ drop n ws₀)
  walking_end t =
      let a : parents_in es first ws₀ ≡ take n ws = st.walked ∙ ap (λ (r : List ℕ). take n ws ++ r) (left_stop es at n (length ws) k t (st.sum ∙ ap (λ (m : ℕ). min (length es) m) (sym st.long))) ∙ append-nil (take n ws) in
      (sym (ap length a ∙ short), sym (take-append-drop n ws) ∙ ap (λ (r : List ℕ). r ++ drop n ws) (sym a) ∙ ap (λ (r : List ℕ). parents_in es first ws₀ ++ r) st.rest)
    where
      short : length (take n ws) ≡ n
      short = omega (arith, st.sum, st.long, length-drop n ws, length-append (take n ws) (drop n ws), ap length (take-append-drop n ws))

-- ---- valid tables

-- along a run of edges in the table nothing leaves it
run_left : (es : List Edge) (k : ℕ) {c d : ℕ} → Run (targets_of es) (nexts_of es) k c d → d ≤ length es → (f : ℕ) → links (targets_of es) (insides es) f (suc c) ≡ links (targets_of es) (nexts_of es) f (suc c)
unfolding links
run_left es k r l zero = refl
run_left es k {c} {d} (last h e q) l (suc f) =
    let a : get_or (insides es) c 0 ≡ 0 = inside_at es c ∙ ap (inside (length es)) (next_at es c ∙ e) ∙ inside_in (length es) 0 (omega arith) in
    ap (λ (x : ℕ). get_or (targets_of es) c 0 ∷ links (targets_of es) (insides es) f x) a
    ∙ ap (λ (r : List ℕ). get_or (targets_of es) c 0 ∷ r) (links_end (targets_of es) (insides es) f ∙ sym (links_end (targets_of es) (nexts_of es) f))
    ∙ ap (λ (x : ℕ). get_or (targets_of es) c 0 ∷ links (targets_of es) (nexts_of es) f x) (sym e)
run_left es k {c} {d} (more h e r) l (suc f) =
    let g = run_grows (targets_of es) (nexts_of es) k r in
    let n : c + 2 ≡ suc (c + 1) = omega arith in
    let a : get_or (insides es) c 0 ≡ suc (c + 1) = inside_at es c ∙ ap (inside (length es)) (next_at es c ∙ e ∙ n) ∙ inside_in (length es) (suc (c + 1)) (omega arith) in
    ap (λ (x : ℕ). get_or (targets_of es) c 0 ∷ links (targets_of es) (insides es) f x) a
    ∙ ap (λ (s : List ℕ). get_or (targets_of es) c 0 ∷ s) (run_left es k {c = c + 1} r l f)
    ∙ ap (λ (x : ℕ). get_or (targets_of es) c 0 ∷ links (targets_of es) (nexts_of es) f x) (sym (e ∙ n))

-- on valid tables the walk from a node's first edge gives that node's dependencies
pub parents_are_deps : (hs ns : List ℕ) (es : List Edge) (cs us : List ℕ) → Sound (lent hs ns es cs us) → (k : ℕ) → k < changes (lent hs ns es cs us) → parents es (first_at ns k) ≡ (graph (lent hs ns es cs us)).deps k
parents_are_deps hs ns es cs us s k l =
    let b = s.counts.edges_fit in
    let d = deps_at_lem ns (targets_of es) (nexts_of es) s.laid b k l in
    along_in ns es k d.says (let w = d.within in let t = targets_long es in omega arith)
  where
    along_in : (ns : List ℕ) (es : List Edge) (k : ℕ) {c d : ℕ} → NodeLaid ns (targets_of es) (nexts_of es) k c d → d ≤ length es → parents es (first_at ns k) ≡ along (targets_of es) (nexts_of es) (first_at ns k)
    along_in ns es k (no_list f e) l =
        ap (λ (a : ℕ). along (targets_of es) (insides es) (inside (length es) a)) f
        ∙ ap (λ (a : ℕ). along (targets_of es) (insides es) a) (inside_in (length es) 0 (omega arith))
        ∙ links_end (targets_of es) (insides es) (length (targets_of es)) ∙ sym (links_end (targets_of es) (nexts_of es) (length (targets_of es)))
        ∙ ap (λ (a : ℕ). along (targets_of es) (nexts_of es) a) (sym f)
    along_in ns es k {c} {d} (a_list f r b) l =
        let g = run_grows (targets_of es) (nexts_of es) k r in
        let n : first_at ns k ≡ suc c = f ∙ add-one c in
        ap (λ (a : ℕ). along (targets_of es) (insides es) (inside (length es) a)) n
        ∙ ap (λ (a : ℕ). along (targets_of es) (insides es) a) (inside_in (length es) (suc c) (omega arith))
        ∙ run_left es k r l (length (targets_of es))
        ∙ ap (λ (a : ℕ). along (targets_of es) (nexts_of es) a) (sym n)
