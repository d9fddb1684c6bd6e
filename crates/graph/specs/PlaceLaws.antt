-- The steps of placing: what the new edges are, and how head flags are taken away.
-- Assumes nothing.
use Rattle.std.specs.Prelude.{◌≡◌, refl, cond, List, [], ◌∷◌, ℕ, zero, suc, ◌+◌, ◌*◌, ◌-◌, ◌/◌, ◌%◌, ◌≤◌, ◌<◌, eqb, length, get_or, set, Some, None, Option, Ok, Err}
use Rattle.std.proofs.Common.{sym, ap, subst, ◌∙◌, add-one, arith, length-set, get_or-set_same, get_or-set_other, eqb-true, eq-eqb, ne_eqb, mul-le-mul, mul-le-mul_right, suc-mul}
use Rattle.std.proofs.Math.Seq.{slice, slice_empty, slice-cons}
use Rattle.std.proofs.lemmas.Bool.{eqb-false}
use Rattle.paper.specs.Lists.{mem}
use Rattle.paper.proofs.Bools.{by_bool, mem_cons, mem_nil}
use Rattle.paper.specs.Lists.{hash_at}
use Rattle.hash.specs.Hash.{find_hash, first_unknown}
use Rattle.hash.specs.HashLaws.{FoundIs, find_is}
use Rattle.hash.specs.Unknown.{Known, MissingIs, unknown_is}
use Rattle.list_laws.specs.Paste.{paste_long, paste_in, paste_part}
use Rattle.tables.specs.Tables.{Tables, tables, changes, edges, change_room_of, actor_room, actor_at}
use Rattle.tables.specs.Valid.{Valid}
use Rattle.tables.specs.CheckLaws.{tally_bound}
use Rattle.paper.specs.Adding.{Change}
use Rattle.judge.specs.Judge.{deps_given, tables_judged, judged_number}
use Rattle.judge.specs.JudgeLaws.{Accepted}
use Rattle.paper.specs.Caching.{cache_due}
use Rattle.cache.specs.Cache.{after_caching}
use Rattle.graph.specs.Place.{node_of, nodes_from, nexts_from, unheaded, deps_of, stored, due_clocks, placed, if_added, added_tables}
use Rattle.judge.specs.Judged.{Judged}
use Rattle.judge.specs.declared.AddRefusal.TheVariants.{Malformed, Known as AlreadyKnown, Unknown, NoActor, WrongSequence, BadOps, TooManyDeps, NoNodeRoom, NoEdgeRoom}

-- ---- dependencies as nodes

pub found_low : (hs : List ℕ) (n : ℕ) (h : List ℕ) (k : ℕ) → find_hash hs n h ≡ Some k → k < n
unfolding FoundIs
found_low hs n h k e = let p : FoundIs hs n h (Some k) = subst (FoundIs hs n h) e (find_is hs n h) in p.0

-- where none is unknown each is found
pub none_missing : (hs : List ℕ) (n : ℕ) (ds : List ℕ) → first_unknown hs n ds ≡ None → (i : ℕ) → i < length ds / 32 → find_hash hs n (hash_at ds i) ≡ None → ⊥
unfolding FoundIs MissingIs Known
none_missing hs n ds e i l q =
    let k : MissingIs hs n ds (length ds / 32) None = subst (MissingIs hs n ds (length ds / 32)) e (unknown_is hs n ds) in
    let p : FoundIs hs n (hash_at ds i) None = subst (FoundIs hs n (hash_at ds i)) q (find_is hs n (hash_at ds i)) in
    p (k i l).0 (k i l).1 (k i l).2

pub nodes_long : (hs : List ℕ) (n : ℕ) (ds : List ℕ) (left i : ℕ) → length (nodes_from hs n ds left i) ≡ left
unfolding nodes_from
nodes_long hs n ds zero i = refl
nodes_long hs n ds (suc left) i = ap suc (nodes_long hs n ds left (suc i))

pub nodes_at : (hs : List ℕ) (n : ℕ) (ds : List ℕ) (left i j : ℕ) → j < left → get_or (nodes_from hs n ds left i) j 0 ≡ node_of (find_hash hs n (hash_at ds (i + j)))
unfolding nodes_from
nodes_at hs n ds zero i j l = absurd (omega arith)
nodes_at hs n ds (suc left) i zero l = let e : i ≡ i + 0 = omega arith in ap (λ (k : ℕ). node_of (find_hash hs n (hash_at ds k))) e
nodes_at hs n ds (suc left) i (suc j) l =
    let e : suc i + j ≡ i + suc j = omega arith in nodes_at hs n ds left (suc i) j (omega arith) ∙ ap (λ (k : ℕ). node_of (find_hash hs n (hash_at ds k))) e

-- node j of the list, where its hash was found at k
pub nodes_found : (hs : List ℕ) (n : ℕ) (ds : List ℕ) (j k : ℕ) → j < length ds / 32 → find_hash hs n (hash_at ds j) ≡ Some k → k ≡ get_or (nodes_from hs n ds (length ds / 32) 0) j 0
nodes_found hs n ds j k l e =
    let z : 0 + j ≡ j = omega arith in
    sym (nodes_at hs n ds (length ds / 32) 0 j l ∙ ap (λ (i : ℕ). node_of (find_hash hs n (hash_at ds i))) z ∙ ap node_of e)

-- each of them is below n, where none is unknown
pub nodes_low : (hs : List ℕ) (n : ℕ) (ds : List ℕ) → first_unknown hs n ds ≡ None → (j : ℕ) → j < length ds / 32 → get_or (nodes_from hs n ds (length ds / 32) 0) j 0 < n
nodes_low hs n ds e j l = go (find_hash hs n (hash_at ds j)) refl
  where
    go : (f : Option ℕ) → find_hash hs n (hash_at ds j) ≡ f → get_or (nodes_from hs n ds (length ds / 32) 0) j 0 < n
    go (Some k) q = let b = found_low hs n (hash_at ds j) k q in rw (← nodes_found hs n ds j k l q) b
    go None q = absurd (none_missing hs n ds e j l q)

-- ---- nexts

pub nexts_long : (left e : ℕ) → length (nexts_from left e) ≡ left
unfolding nexts_from
nexts_long zero e = refl
nexts_long (suc left) e = ap suc (nexts_long left (suc e))

pub nexts_more : (left e j : ℕ) → j + 1 < left → get_or (nexts_from left e) j 0 ≡ e + j + 2
unfolding nexts_from
nexts_more zero e j l = absurd (omega arith)
nexts_more (suc left) e zero l = rw (ne_eqb left 0 (λ q. omega arith)) (omega arith)
nexts_more (suc left) e (suc j) l = nexts_more left (suc e) j (omega arith) ∙ omega arith

pub nexts_last : (left e j : ℕ) → j + 1 ≡ left → get_or (nexts_from left e) j 0 ≡ 0
unfolding nexts_from
nexts_last zero e j l = absurd (omega arith)
nexts_last (suc left) e zero l = rw (eq-eqb left 0 (omega arith))
nexts_last (suc left) e (suc j) l = nexts_last left (suc e) j (omega arith)

-- ---- head flags

pub unheaded_step : (ts ns : List ℕ) (i f : ℕ) → i < f → f ≤ length ts → unheaded (slice i f ts) ns ≡ unheaded (slice (i + 1) f ts) (set ns (6 * get_or ts i 0 + 5) 0)
unfolding unheaded
unheaded_step ts ns i f l b = ap (λ (s : List ℕ). unheaded s ns) (slice-cons i f ts 0 l b) ∙ ap (λ (k : ℕ). unheaded (slice k f ts) (set ns (6 * get_or ts i 0 + 5) 0)) (sym (add-one i))

pub unheaded_end : (ts ns : List ℕ) (i f : ℕ) → i ≡ f → unheaded (slice i f ts) ns ≡ ns
unfolding unheaded
unheaded_end ts ns i f e = ap (λ (k : ℕ). unheaded (slice k f ts) ns) e ∙ ap (λ (s : List ℕ). unheaded s ns) (slice_empty f ts)

pub unheaded_long : (ks ns : List ℕ) → length (unheaded ks ns) ≡ length ns
unfolding unheaded
unheaded_long [] ns = refl
unheaded_long (k ∷ ks) ns = unheaded_long ks (set ns (6 * k + 5) 0) ∙ length-set ns (6 * k + 5) 0

-- only head flags change
pub unheaded_other : (ks ns : List ℕ) (i : ℕ) → ((k : ℕ) → i ≡ 6 * k + 5 → ⊥) → get_or (unheaded ks ns) i 0 ≡ get_or ns i 0
unfolding unheaded
unheaded_other [] ns i n = refl
unheaded_other (k ∷ ks) ns i n = unheaded_other ks (set ns (6 * k + 5) 0) i n ∙ get_or-set_other ns (6 * k + 5) i 0 0 (n k)

-- a node's flag is 0 where it is listed, and else what it was
pub unheaded_at : (ks ns : List ℕ) (k : ℕ) → 6 * k + 5 < length ns → get_or (unheaded ks ns) (6 * k + 5) 0 ≡ cond (mem k ks) 0 (get_or ns (6 * k + 5) 0)
unfolding unheaded
unheaded_at [] ns k l = rw (mem_nil k)
unheaded_at (x ∷ ks) ns k l =
    let r = unheaded_at ks (set ns (6 * x + 5) 0) k (rw (length-set ns (6 * x + 5) 0) l) in
    by_bool (eqb k x)
    (λ t.
    let e = eqb-true k x t in
    let q : get_or (set ns (6 * x + 5) 0) (6 * k + 5) 0 ≡ 0 = ap (λ (y : ℕ). get_or (set ns (6 * x + 5) 0) (6 * y + 5) 0) e ∙ get_or-set_same ns (6 * x + 5) 0 0 (rw (← e) l) in
    r ∙ rw (q, mem_cons k x ks, t) (by_bool (mem k ks) (λ u. rw u) (λ u. rw u)))
    (λ f.
    let n = eqb-false k x f in
    r ∙ rw (get_or-set_other ns (6 * x + 5) (6 * k + 5) 0 0 (λ q. n (omega arith)), mem_cons k x ks, f))

-- ---- room for an accepted change

pub record Fits (t : Tables) (x : Change) : Type 0 where
  pub hash_fits : 32 * changes t + 32 ≤ length t.hashes
  pub node_fits : 6 * changes t + 6 ≤ length t.nodes
  pub changes_low : changes t < 4096
  pub targets_fit : edges t + deps_given x ≤ length t.targets
  pub nexts_fit : edges t + deps_given x ≤ length t.nexts
  pub nexts_short : length t.nexts ≤ 16384
  pub counts_three : length t.counts ≡ 3
  pub row_fits : changes t * actor_room t + actor_room t ≤ length t.clocks
  pub row_small : changes t * actor_room t ≤ 262144
  pub actor_small : x.actor < 64
  pub seq_small : x.seq ≤ 4096

pub fits : (t : Tables) (x : Change) → Valid t → Accepted t x → Fits t x
fits t x v a =
    let l = v.sound.lengths in
    let k = v.sound.counts in
    let row : suc (changes t) * actor_room t ≤ change_room_of t * actor_room t = mul-le-mul_right (actor_room t) a.node_room in
    let row' = suc-mul (changes t) (actor_room t) in
    let whole = l.clocks_whole in
    let bound = tally_bound (λ j. eqb (actor_at t.nodes j) x.actor) (changes t) in
    record {
      hash_fits = omega (arith, a.node_room);
      node_fits = omega (arith, a.node_room);
      changes_low = omega (arith, a.node_room);
      targets_fit = a.edge_room;
      nexts_fit = omega (arith, a.edge_room);
      nexts_short = omega arith;
      counts_three = l.counts_three;
      row_fits = omega arith;
      row_small = mul-le-mul {n₂ = 4096} {m₂ = 64} (omega (arith, a.node_room)) l.actors_limit;
      actor_small = omega (arith, a.actor_low);
      seq_small = omega (arith, a.next, a.node_room);
    }

module _ (t : Tables) (x : Change) (a : Accepted t x) (f : Fits t x) where
  pub deps_long : length (deps_of t x) ≡ deps_given x
  deps_long = nodes_long t.hashes (changes t) x.deps (deps_given x) 0

  -- the new edges' targets are nodes in use
  pub new_targets_low : (i : ℕ) → edges t ≤ i → i < edges t + deps_given x → get_or (stored t x).targets i 0 < changes t
  new_targets_low i l h =
      let e : edges t + (i - edges t) ≡ i = omega arith in
      let b = nodes_low t.hashes (changes t) x.deps a.all_known (i - edges t) (omega arith) in
      let q = paste_in t.targets (edges t) (deps_of t x) (deps_given x) f.targets_fit (let z = deps_long in omega arith) (i - edges t) (omega arith) in
      subst (λ (k : ℕ). get_or (stored t x).targets k 0 < changes t) e (rw q b)

  -- they are the change's dependencies
  pub new_targets : slice (edges t) (edges t + deps_given x) (stored t x).targets ≡ deps_of t x
  new_targets = paste_part t.targets (edges t) (deps_of t x) (deps_given x) f.targets_fit (let z = deps_long in omega arith) deps_long

  pub stored_targets_long : length (stored t x).targets ≡ length t.targets
  stored_targets_long = paste_long t.targets (edges t) (deps_of t x) (deps_given x) f.targets_fit (let z = deps_long in omega arith)

-- ---- refused, and accepted

pub refused : (j : Judged) (new old : Tables) → (judged_number j ≡ 0 → ⊥) → if_added j new old ≡ old
refused (Ok u) new old n = absurd (n refl)
refused (Err Malformed) new old n = refl
refused (Err AlreadyKnown) new old n = refl
refused (Err (Unknown i)) new old n = refl
refused (Err NoActor) new old n = refl
refused (Err WrongSequence) new old n = refl
refused (Err BadOps) new old n = refl
refused (Err TooManyDeps) new old n = refl
refused (Err NoNodeRoom) new old n = refl
refused (Err NoEdgeRoom) new old n = refl

module _ (t : Tables) (x : Change) where
  -- accepted: the placed tables
  pub added_done : tables_judged t x ≡ Ok tt → added_tables t x ≡ placed t x
  added_done d = ap (λ (j : Judged). if_added j (placed t x) t) d

  -- refused: nothing is changed
  pub added_refused : (judged_number (tables_judged t x) ≡ 0 → ⊥) → added_tables t x ≡ t
  added_refused n = refused (tables_judged t x) (placed t x) t n

-- tables that agree in each list are the same
pub same_tables : {hs hs' ns ns' ts ts' xs xs' cs cs' us us' : List ℕ} → hs ≡ hs' → ns ≡ ns' → ts ≡ ts' → xs ≡ xs' → cs ≡ cs' → us ≡ us' → tables hs ns ts xs cs us ≡ tables hs' ns' ts' xs' cs' us'
same_tables a b c d e f = rw (a, b, c, d, e, f)

-- ---- a clock that is due

module _ (t : Tables) (k : ℕ) where
  pub due_not : ((k + 1) % 16 ≡ 0 → ⊥) → due_clocks t k ≡ t.clocks
  unfolding cache_due
  due_not n = rw (ne_eqb (suc k % 16) 0 (λ q. n (ap (λ (m : ℕ). m % 16) (add-one k) ∙ q)))

  pub due_now : (k + 1) % 16 ≡ 0 → due_clocks t k ≡ after_caching t k
  unfolding cache_due
  due_now e = rw (eq-eqb (suc k % 16) 0 (ap (λ (m : ℕ). m % 16) (sym (add-one k)) ∙ e))
