-- The judgement over the tables is the paper's judgement over the graph that they hold.
-- Assumes nothing.
use Rattle.std.specs.Prelude.{◌≡◌, refl, cond, ◌||◌, List, ℕ, zero, suc, ◌+◌, ◌-◌, ◌/◌, ◌≤◌, eqb, ltb, leb, length, Some, None, Option}
use Rattle.std.proofs.Common.{sym, ap, ◌∙◌, arith, add-one, lt-ltb, le-ltb, ltb-true, ltb-false}
use Rattle.std.proofs.Math.Seq.{length-slice}
use Rattle.paper.specs.Lists.{sum_below, hash_at, hashes_from, hashes_of}
use Rattle.paper.specs.Graph.{node}
use Rattle.paper.specs.Adding.{Change, unknown, seq_for_actor, edges_used, first_unknown_place, judged as paper-judged}
use Rattle.paper.proofs.Bools.{by_bool}
use Rattle.hash.specs.Hash.{unknown_from, first_unknown}
use Rattle.tables.specs.Tables.{Tables, changes, edges, actors, change_room_of, edge_room_of, first_at, along, graph}
use Rattle.tables.specs.Valid.{Laid, Sound, count_of}
use Rattle.tables.specs.Valid.Laid.{none, bare, some}
use Rattle.tables.specs.LaidLaws.{run_grows}
use Rattle.tables.specs.LaidLaws.NodeLaid.{a_list}
use Rattle.tables.specs.DepsLaws.{node_along, links_end}
use Rattle.tables.specs.Node.{found_as}
use Rattle.tables.specs.NodeLaws.{find_node}
use Rattle.judge.specs.Judge.{deps_given, misshapen, tables_judged, verdict}
use Rattle.judge.specs.Hub.{hub}

-- ---- the first unknown one of a list

pub hashes_long : (ds : List ℕ) (left i : ℕ) → length (hashes_from ds left i) ≡ left
unfolding hashes_from
hashes_long ds zero i = refl
hashes_long ds (suc left) i = ap suc (hashes_long ds left (suc i))

-- how many hashes a list of bytes has
pub hashes_count : (ds : List ℕ) → length (hashes_of ds) ≡ length ds / 32
unfolding hashes_of
hashes_count ds = hashes_long ds (length ds / 32) 0

-- the first at place k of m, i before it, or none where k is not below m
abbrev pub missing_below : ℕ → ℕ → ℕ → Option ℕ
missing_below i k m = cond (ltb k m) (Some (i + k)) None

unknown_from_lem : (t : Tables) (ds : List ℕ) (left i : ℕ) → unknown_from t.hashes (changes t) ds left i ≡ missing_below i (first_unknown_place (graph t) (hashes_from ds left i)) left
unfolding unknown_from first_unknown_place hashes_from found_as
unknown_from_lem t ds zero i = refl
unknown_from_lem t ds (suc left) i =
    let ih = unknown_from_lem t ds left (suc i) in
    rw (find_node t (hash_at ds i))
    (by_bool (ltb (node (graph t) (hash_at ds i)) (changes t))
    (λ y. rw y (ih ∙ later (first_unknown_place (graph t) (hashes_from ds left (suc i)))))
    (λ n. let e : i ≡ i + 0 = omega arith in rw (n, lt-ltb 0 (suc left) (omega arith)) (ap Some e)))
  where
    later : (k : ℕ) → missing_below (suc i) k left ≡ missing_below i (suc k) (suc left)
    later k =
        let e : suc i + k ≡ i + suc k = omega arith in
        by_bool (ltb k left)
        (λ y. let l = ltb-true k left y in rw (y, lt-ltb (suc k) (suc left) (omega arith)) (ap Some e))
        (λ n. let l = ltb-false k left n in rw (n, le-ltb (suc k) (suc left) (omega arith)))

-- the scan gives the paper's place
pub unknown_first : (t : Tables) (ds : List ℕ) → first_unknown t.hashes (changes t) ds ≡ missing_below 0 (first_unknown_place (graph t) (hashes_of ds)) (length ds / 32)
unfolding first_unknown hashes_of
unknown_first t ds = unknown_from_lem t ds (length ds / 32) 0

-- ---- edges in use

laid_sum : (ns ts xs : List ℕ) {n c : ℕ} → Laid ns ts xs n c → c ≤ length ts → sum_below (λ k. length (along ts xs (first_at ns k))) n ≡ c
unfolding sum_below
laid_sum ns ts xs (none p q) l = rw p (sym q)
laid_sum ns ts xs (bare {n = n} h p f) l =
    let ih = laid_sum ns ts xs h l in
    let z : length (along ts xs (first_at ns n)) ≡ 0 = ap length (ap (along ts xs) f ∙ links_end ts xs (length ts)) in
    rw (p, add-one n) (omega arith)
laid_sum ns ts xs (some {n = n} {c = c} {d = d} h p f r b) l =
    let g = run_grows ts xs n r in
    let ih = laid_sum ns ts xs h (omega arith) in
    let z : length (along ts xs (first_at ns n)) ≡ d - c = ap length (node_along ns ts xs (a_list f r b) l) ∙ length-slice c d ts l in
    rw (p, add-one n) (omega arith)

-- one for each dependency listed
pub edges_sum : (t : Tables) → Sound t → edges_used (graph t) ≡ edges t
unfolding edges_used
edges_sum t s = laid_sum t.nodes t.targets t.nexts s.laid s.counts.edges_fit

-- ---- the judgement

pub judged_agrees : (t : Tables) (x : Change) → Sound t → verdict (tables_judged t x) ≡ paper-judged (hub t) x
unfolding tables_judged paper-judged seq_for_actor found_as
judged_agrees t x s =
    rw (find_node t x.hash, unknown_first t x.deps, hashes_count x.deps, edges_sum t s)
    (by_bool (misshapen x) (λ y. rw y)
    (λ n.
    rw n
    (by_bool (ltb (node (graph t) x.hash) (changes t)) (λ y. rw y)
    (λ n.
    rw n
    (by_bool (ltb (first_unknown_place (graph t) (hashes_of x.deps)) (length x.deps / 32)) (λ y. rw y (ap unknown (omega arith)))
    (λ n.
    rw n
    (by_bool (leb (actors t) x.actor) (λ y. rw y)
    (λ n.
    rw n
    (by_bool (eqb x.seq (suc (count_of t.nodes x.actor (changes t))))
    (λ y.
    rw y
    (by_bool (ltb 4294967295 x.max_op || ltb x.max_op x.ops) (λ y. rw y)
    (λ n.
    rw n
    (by_bool (ltb 32 (deps_given x)) (λ y. rw y)
    (λ n.
    rw n
    (by_bool (leb (change_room_of t) (changes t)) (λ y. rw y)
    (λ n. rw n (by_bool (ltb (edge_room_of t) (edges t + deps_given x)) (λ y. rw y) (λ n. rw n)))))))))
    (λ n. rw n))))))))))
