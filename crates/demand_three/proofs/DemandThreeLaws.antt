-- Demand 3 as C is answered: each sentence from the promises, and all of them from opened tables on, after any operations, refused ones among them.
-- Assumes nothing.
use Rattle.std.specs.Prelude.{◌≡◌, ◌↔◌, Result, Ok, Err, Bool, ◌&&◌, eqb, get_or}
use Rattle.std.proofs.Math.Path.{refl, sym, ap, ap₂, subst}
use Rattle.std.proofs.Common.{◌∙◌, inl, inr, length-take, take_at, get_or-set_same}
use Rattle.std.proofs.Math.Logic.{⊎_elim}
use Rattle.std.proofs.Math.Bool.{true, false, cond}
use Rattle.std.proofs.lemmas.Bool.{false≢true}
use mathlib.Core.List.{List, [], ◌∷◌, ◌++◌, map, map-append}
use Prim.Native.Nat.{ℕ, zero, suc, ◌+◌, ◌*◌, ◌/◌, ◌%◌, ◌≤◌, ◌<◌, max}
use native.Mathlib.Omega.{arith}
use Rattle.std.proofs.Math.Decide.{ℕ_discrete}
use Rattle.std.proofs.Math.Dec.{leb}
use Rattle.std.proofs.Math.ListN.{length, take, drop, length-append, length-drop, get_or-append, get_or-eq_default}
use Rattle.std.proofs.Math.Seq.{take-append-le, drop-append-add, take-append_seam, drop-append_seam}
use Rattle.std.proofs.lemmas.List.{drop-append-le}
use borrow.Author.Tests.{leb-true, leb-false, le-leb, eqb-true, eq-eqb, ne_eqb}
use Rattle.list_laws.specs.Cases.{below_or_not}
use Rattle.paper.specs.Lists.{each_below, hash_at, hashes_from, hashes_of}
use Rattle.paper.specs.Numbers.{number, done}
use Rattle.paper.specs.Text.{flat}
use Rattle.paper.specs.Graph.{Graph, Reach, Held, nodes, clock, Covers, Chained}
use Rattle.paper.proofs.Bools.{by_bool}
use Rattle.paper.proofs.Each.{get_d_each, to_each}
use Rattle.paper.proofs.History.{hist_known, reach_hist, hist_reach}
use Rattle.paper.proofs.Clock.{clock_upper, clock_attained, clock_append}
use Rattle.paper.proofs.Chain.{chained_old_new, covers_holds, missing_outside}
use Rattle.tables.specs.Tables.{Tables, graph, actors, change_room_of, edge_room_of, actor_room}
use Rattle.tables.specs.Valid.{Lengths, Valid}
use Rattle.tables.specs.DepsLaws.{valid_graph}
use Rattle.clock.specs.Clock.{entry_of, joined, covers_all}
use Rattle.clock.specs.ClockLaws.{length_joined, get_d_joined, covers_paper}
use Rattle.clock_checked.specs.Told.{EntriesLeft, entries_left, clock_lendable, clock_number, slice_yes_in, merge_told, covers_told}
use Rattle.clock_checked.specs.declared.ClockRefusal.{ClockRefusal}
use Rattle.clock_checked.specs.declared.ClockRefusal.TheVariants.{NotValid}
use Rattle.clock_struct.specs.Clocks.{StructDone}
use Rattle.lent_place.specs.Places.{told_in}
use Rattle.answer_buffer.specs.Answers.{list_answer, filled, whole_list}
use Rattle.answer_buffer.specs.SlotLaws.{hashes_split, flat_hashes}
use Rattle.answer_buffer.specs.Room.{actor_low}
use Rattle.list_clock.specs.Clocks.{clock_entries, whole_clock, clock_told, clock_filled}
use Rattle.list_clock.specs.ClockLaws.{clock_long}
use Rattle.missing.specs.Missing.{missing_hashes, missing_told, missing_filled}
use Rattle.chained.specs.Chained.{chained}
use Rattle.chained.specs.ChainedLaws.{chained_says}
use Rattle.hub_answer.specs.Asks.{reply_number, told_by, of_listed}
use Rattle.hub_list_clock.specs.Operations.{ClockOf}
use Rattle.hub_missing.specs.Operations.{MissingFrom}
use Rattle.demands.specs.Operations.{Operation, open_for, Promised, Runs}
use Rattle.demands.proofs.Demands.{demand_3}
use Rattle.demand_three.specs.DemandThree.{in_history_of, hashes_outside, LargestIn, AnsweredClock, ToldChained, ClocksLargest, MergingAnswers, CoveringAnswers, MergeJoins, SlicesJoin, CoversContains, MissingOutside, MissingAll, DemandThree}
use Rattle.answer_buffer.specs.Answers.{Listed}
use Rattle.answer_buffer.specs.declared.Refusal.TheVariants.{Malformed, Short}

-- ---- the hashes of bytes that stand one after the other

module _ (l m : List ℕ) where
  -- those of the first bytes
  first_hashes : (left i : ℕ) → 32 * (i + left) ≤ length l → hashes_from (l ++ m) left i ≡ hashes_from l left i
  unfolding hashes_from hash_at
  first_hashes zero i h = refl
  first_hashes (suc left) i h =
      ap₂ (λ (x : List ℕ) (xs : List (List ℕ)). x ∷ xs)
      (ap (take 32) (drop-append-le (32 * i) l m (omega arith)) ∙ take-append-le 32 (drop (32 * i) l) m (simp length-drop (omega arith)))
      (first_hashes left (suc i) (omega arith))

  -- and of those after them
  later_hashes : (q : ℕ) → length l ≡ 32 * q → (left i j : ℕ) → j ≡ q + i → hashes_from (l ++ m) left j ≡ hashes_from m left i
  unfolding hashes_from hash_at
  later_hashes q e zero i j s = refl
  later_hashes q e (suc left) i j s =
      let n : 32 * j ≡ length l + 32 * i = omega arith in
      ap₂ (λ (x : List ℕ) (xs : List (List ℕ)). x ∷ xs)
      (ap (λ (p : ℕ). take 32 (drop p (l ++ m))) n ∙ ap (take 32) (drop-append-add l m (32 * i)))
      (later_hashes q e left (suc i) (suc j) (omega arith))

  pub hashes_joined : length l % 32 ≡ 0 → hashes_of (l ++ m) ≡ hashes_of l ++ hashes_of m
  unfolding hashes_of
  hashes_joined e =
      let a = length-append l m in
      let n : length (l ++ m) / 32 ≡ length l / 32 + length m / 32 = omega arith in
      ap (λ (k : ℕ). hashes_from (l ++ m) k 0) n
      ∙ hashes_split (l ++ m) (length l / 32) (length m / 32) 0
      ∙ ap₂ (λ (x y : List (List ℕ)). x ++ y) (first_hashes (length l / 32) 0 (omega arith)) (later_hashes (length l / 32) (omega arith) (length m / 32) 0 (0 + length l / 32) (omega arith))

  pub nodes_joined : (g : Graph) → length l % 32 ≡ 0 → nodes g (hashes_of (l ++ m)) ≡ nodes g (hashes_of l) ++ nodes g (hashes_of m)
  unfolding nodes
  nodes_joined g e = ap (map _) (hashes_joined e) ∙ map-append _ (hashes_of l) (hashes_of m)

-- the first hashes of a table, each by its node
hashes_each : (hs : List ℕ) (n : ℕ) → hashes_from hs n 0 ≡ each_below (hash_at hs) n
unfolding each_below hashes_from
hashes_each hs zero = refl
hashes_each hs (suc n) =
    let s : suc n ≡ n + 1 = omega arith in
    ap (λ (k : ℕ). hashes_from hs k 0) s
    ∙ hashes_split hs n 1 0
    ∙ ap₂ (λ (x : List (List ℕ)) (i : ℕ). x ++ (hash_at hs i ∷ [])) (hashes_each hs n) (omega arith)

-- ---- what an answer 0 leaves

-- the list stands at the start of the buffer, what lay past it stays, and its length is told
pub record AtStart (l out told out' told' : List ℕ) : Type 0 where
  pub fits : length l ≤ length out
  pub buffer : out' ≡ l ++ drop (length l) out
  pub places : told' ≡ told_in (length l) told

module _ (l out told out' told' : List ℕ) where
  list_at_start : number done ≡ reply_number (of_listed (list_answer l (length out))) → out' ≡ filled l out → told' ≡ told_by (of_listed (list_answer l (length out))) told → AtStart l out told out' told'
  unfolding list_answer filled
  list_at_start = go (leb (length l) (length out)) refl
    where
      go : (b : Bool) → leb (length l) (length out) ≡ b → number done ≡ reply_number (of_listed (cond b (Ok (length l)) (Err Short))) → out' ≡ cond b (l ++ drop (length l) out) out → told' ≡ told_by (of_listed (cond b (Ok (length l)) (Err Short))) told → AtStart l out told out' told'
      go true e n f p = record { fits = leb-true (length l) (length out) e; buffer = f; places = p }
      go false e n f p = absurd (omega arith)

  module _ (s : AtStart l out told out' told') where
    start_first : take (length l) out' ≡ l
    start_first = ap (take (length l)) s.buffer ∙ take-append_seam l (drop (length l) out)

    start_past : drop (length l) out' ≡ drop (length l) out
    start_past = ap (drop (length l)) s.buffer ∙ drop-append_seam l (drop (length l) out)

    start_told : 0 < length told → get_or told' 0 0 ≡ length l
    start_told p = ap (λ (x : List ℕ). get_or x 0 0) s.places ∙ get_or-set_same told 0 (length l) 0 p

-- behind a test of what was lent the answer 0 is that of what the test guards
tested : (b : Bool) (x : Listed) (y out told out' told' : List ℕ) → number done ≡ reply_number (of_listed (cond b x (Err Malformed))) → out' ≡ cond b y out → told' ≡ told_by (of_listed (cond b x (Err Malformed))) told
    → (b ≡ true) × (number done ≡ reply_number (of_listed x)) × (out' ≡ y) × (told' ≡ told_by (of_listed x) told)
tested true x y out told out' told' n f p = (refl, n, f, p)
tested false x y out told out' told' n f p = absurd (omega arith)

-- ---- what an answer 0 of merging and covering comes to

-- where the answer's number is 0 the entries are these
abbrev Leaves : EntriesLeft (Unit {0}) → List ℕ → Type 0
Leaves t x = clock_number t.answer ≡ number done → t.entries ≡ x

-- where its number is 0 the answer is this one
abbrev Comes : Result Bool ClockRefusal → Result Bool ClockRefusal → Type 0
Comes r x = clock_number r ≡ number done → r ≡ x

-- behind a test of what is lent the rest decides
leaves_where : (b : Bool) (c x : List ℕ) (t : EntriesLeft (Unit {0})) → Leaves t x → Leaves (cond b t (entries_left (Err NotValid) c)) x
leaves_where true c x t k = k
leaves_where false c x t k = λ z. absurd (omega arith)

comes_where : (b : Bool) (x r : Result Bool ClockRefusal) → Comes r x → Comes (cond b r (Err NotValid)) x
comes_where true x r k = k
comes_where false x r k = λ z. absurd (omega arith)

leaves_these : (r : Result (Unit {0}) ClockRefusal) (x : List ℕ) → Leaves (entries_left r x) x
leaves_these r x = λ z. refl

module _ (c : List ℕ) (n : ℕ) (b : List ℕ) (m : ℕ) where
  -- the entries in use are joined, and those past them stay
  pub merge_done_lem : clock_number (merge_told c n b m).answer ≡ number done → (merge_told c n b m).entries ≡ joined (take n c) (take m b) ++ drop n c
  merge_done_lem = let x = joined (take n c) (take m b) ++ drop n c in leaves_where (clock_lendable c n && clock_lendable b m) c x _ (leaves_these (Ok tt) x)

  -- yes or no by the entries in use
  pub covers_done : clock_number (covers_told c n b m) ≡ number done → covers_told c n b m ≡ Ok (covers_all (take n c) (take m b))
  covers_done = let x : Result Bool ClockRefusal = Ok (covers_all (take n c) (take m b)) in comes_where (clock_lendable c n && clock_lendable b m) x _ (same_count x (eqb n m))
    where
      same_count : (x : Result Bool ClockRefusal) (e : Bool) → Comes (cond e x (Err NotValid)) x
      same_count x true = λ z. refl
      same_count x false = λ z. absurd (omega arith)

-- in a place that is lent yes is told as 1
yes_told : (told : List ℕ) → 0 < length told → (b : Bool) → (get_or (slice_yes_in (Ok b) told) 0 0 ≡ 1) ↔ (b ≡ true)
yes_told told lent true = ((λ _. refl), λ _. get_or-set_same told 0 1 0 lent)
yes_told told lent false = ((λ z. let no = get_or-set_same told 0 0 0 lent in absurd (omega arith)), λ e. absurd (false≢true e))

-- ---- over valid tables

module _ (t : Tables) (v : Valid t) where
  -- the history is the paper's relation
  pub history_reach : (bytes : List ℕ) (k : ℕ) → (in_history_of t bytes k ≡ true) ↔ Reach (graph t) (nodes (graph t) (hashes_of bytes)) k
  history_reach bytes k = (hist_reach (graph t) (nodes (graph t) (hashes_of bytes)) k, λ r. reach_hist (graph t) (valid_graph t v.sound) (nodes (graph t) (hashes_of bytes)) r)

  -- ---- clocks

  -- where the clock of a list was answered with 0 the list is whole hashes, and the paper's clock stands in the buffer
  clock_at_start : (bytes out told out' told' : List ℕ) → ClockOf bytes out told (number done) out' told' t → (length bytes % 32 ≡ 0) × AtStart (whole_clock t bytes) out told out' told'
  unfolding clock_told clock_filled
  clock_at_start bytes out told out' told' p =
      let s = p.met v in
      let l = whole_clock t bytes in
      let q = tested (whole_list bytes) (list_answer l (length out)) (filled l out) out told out' told' s.number s.filled s.places in
      (eqb-true (length bytes % 32) 0 q.0, list_at_start l out told out' told' q.1 q.2 q.3)

  -- an actor past the count has no entry
  beyond_entry : (s : List ℕ) (a : ℕ) → actors t ≤ a → clock (graph t) s a ≡ 0
  beyond_entry s a l =
      ⊎_elim (λ z. z) (λ r. let low = actor_low t v r.node r.low in absurd (omega (arith, r.whose)))
      (clock_attained (graph t) (valid_graph t v.sound) s a)

  entry_is : (bytes : List ℕ) (a : ℕ) → get_or (whole_clock t bytes) a 0 ≡ clock (graph t) (nodes (graph t) (hashes_of bytes)) a
  unfolding clock_entries
  entry_is bytes a =
      ⊎_elim (λ l. get_d_each (clock_entries (graph t) bytes) (actors t) a l)
      (λ l. get_or-eq_default (whole_clock t bytes) 0 {n = a} (let e = clock_long t bytes in omega arith) ∙ sym (beyond_entry (nodes (graph t) (hashes_of bytes)) a l))
      (below_or_not a (actors t))

  largest_in : (bytes : List ℕ) (a entry : ℕ) → entry ≡ clock (graph t) (nodes (graph t) (hashes_of bytes)) a → LargestIn t bytes a entry
  largest_in bytes a entry q = record {
    none_larger = upper;
    one_of_them = ⊎_elim (λ z. inl (q ∙ z)) (λ r. inr (subst (Held (graph t) (in_history_of t bytes) (graph t).size a) (sym q) r)) (clock_attained (graph t) (valid_graph t v.sound) s a);
    none_there = λ z k h w. (let one = (valid_graph t v.sound).runs k (hist_known (graph t) (valid_graph t v.sound) s k h) in let u = upper k h w in omega arith);
  }
    where
      s : List ℕ
      s = nodes (graph t) (hashes_of bytes)

      upper : (k : ℕ) → in_history_of t bytes k ≡ true → (graph t).actor k ≡ a → (graph t).seq k ≤ entry
      upper k h w = let u = clock_upper (graph t) (valid_graph t v.sound) s k h in let c = ap (clock (graph t) s) w in omega arith

  -- (a) the clock of any list holds exactly each actor's largest sequence in its history
  pub clocks_largest : ClocksLargest t
  clocks_largest bytes out told out' told' p =
      let w = whole_clock t bytes in
      let e = clock_long t bytes in
      let s = (clock_at_start bytes out told out' told' p).1 in
      record {
        entries = λ a l. largest_in bytes a (get_or out' a 0) (ap (λ (x : List ℕ). get_or x a 0) s.buffer ∙ get_or-append w (drop (length w) out) 0 a (omega arith) ∙ entry_is bytes a);
        fits = let f = s.fits in omega arith;
        past = subst (λ (n : ℕ). drop n out' ≡ drop n out) e (start_past w out told out' told' s);
        count = λ p. start_told w out told out' told' s p ∙ e;
      }

  -- ---- clocks as C has them

  module _ {bytes c : List ℕ} {n : ℕ} (a : AnsweredClock t bytes c n) where
    answered_at_start : (length bytes % 32 ≡ 0) × AtStart (whole_clock t bytes) a.out a.told c a.told'
    answered_at_start = clock_at_start bytes a.out a.told c a.told' a.answered

    answered_count : n ≡ actors t
    answered_count = a.counted ∙ start_told (whole_clock t bytes) a.out a.told c a.told' answered_at_start.1 a.lent ∙ clock_long t bytes

    -- the entries in use are the paper's clock
    answered_entries : take n c ≡ whole_clock t bytes
    answered_entries =
        subst (λ (i : ℕ). take i c ≡ whole_clock t bytes) (clock_long t bytes ∙ sym answered_count) (start_first (whole_clock t bytes) a.out a.told c a.told' answered_at_start.1)

  -- such clocks may be lent where they have at most 64 entries
  answered_lendable : {bytes c : List ℕ} {n : ℕ} → AnsweredClock t bytes c n → length c ≤ 64 → clock_lendable c n ≡ true
  answered_lendable {bytes} {c} {n} a few =
      let w : length (take n c) ≡ n = ap length (answered_entries a) ∙ clock_long t bytes ∙ sym (answered_count a) in
      let e = length-take n c in
      rw (le-leb (length c) 64 few, le-leb n (length c) (omega arith))

  -- so merging and covering of two of them answer 0
  pub merging_answers : MergingAnswers t
  merging_answers l m a b n k x y p q = rw (answered_lendable x p, answered_lendable y q)

  pub covering_answers : CoveringAnswers t
  covering_answers l m a b n k x y p q =
      rw (answered_lendable x p, answered_lendable y q, eq-eqb n k (answered_count x ∙ sym (answered_count y)))

  -- ---- (b) joining

  clocks_joined : (l m : List ℕ) → length l % 32 ≡ 0 → joined (whole_clock t l) (whole_clock t m) ≡ whole_clock t (l ++ m)
  unfolding clock_entries
  clocks_joined l m e =
      to_each (clock_entries (graph t) (l ++ m)) (actors t) (joined (whole_clock t l) (whole_clock t m)) (length_joined (whole_clock t l) (whole_clock t m) ∙ clock_long t l)
      (λ i b.
      get_d_joined (whole_clock t l) (whole_clock t m) i (let w = clock_long t l in omega arith)
      ∙ ap₂ (λ (x y : ℕ). max x y) (entry_is l i) (entry_is m i)
      ∙ sym (clock_append (graph t) (valid_graph t v.sound) (nodes (graph t) (hashes_of l)) (nodes (graph t) (hashes_of m)) i)
      ∙ ap (λ (s : List ℕ). clock (graph t) s i) (sym (nodes_joined l m (graph t) e)))

  -- so does `try_merge` on slices
  pub slices_join : SlicesJoin t
  slices_join l m a b c a' n k j r x y z d e =
      let w : length (take n a) ≡ n = ap length (answered_entries x) ∙ clock_long t l ∙ sym (answered_count x) in
      let same : a' ≡ joined (take n a) (take k b) ++ drop n a = ap (λ (s : EntriesLeft (Unit {0})). s.entries) e ∙ merge_done_lem a n b k (sym (ap (λ (s : EntriesLeft (Unit {0})). clock_number s.answer) e) ∙ d) in (
        answered_count x ∙ sym (answered_count z),
        ap (take n) same
            ∙ take_at (joined (take n a) (take k b)) (drop n a) n (length_joined (take n a) (take k b) ∙ w)
            ∙ ap₂ joined (answered_entries x) (answered_entries y)
            ∙ clocks_joined l m (answered_at_start x).0
            ∙ sym (answered_entries z),
      )

  -- `cg_clock_merge` makes of the clocks for two lists the clock for the two joined
  pub merge_joins : MergeJoins t
  merge_joins l m a b c a' n k j n' x y z p =
      let e = p.0 in
      let w = slices_join l m a b c a' n k j (merge_told a n b k).answer x y z (sym (ap (λ (s : StructDone). s.number) e)) (ap (entries_left (merge_told a n b k).answer) (ap (λ (s : StructDone). s.entries) e)) in
      (p.1 ∙ w.0, ap (λ (i : ℕ). take i a') p.1 ∙ w.1)

  -- ---- (c) covering

  pub told_chained : ToldChained t → Chained (graph t)
  told_chained c = chained_old_new (graph t) (valid_graph t v.sound) ((chained_says t v).0 (is_yes (chained (graph t)) first))
    where
      first : ◌≡◌ {A = ℕ} (cond (chained (graph t)) 1 0) 1
      first = sym (get_or-set_same c.told 0 (cond (chained (graph t)) 1 0) 0 c.lent) ∙ ap (λ (x : List ℕ). get_or x 0 0) (sym (c.answered.met v).places) ∙ c.yes

      is_yes : (b : Bool) → ◌≡◌ {A = ℕ} (cond b 1 0) 1 → b ≡ true
      is_yes true z = refl
      is_yes false z = absurd (omega arith)

  clocks_cover : (l m : List ℕ) → Covers (entry_of (whole_clock t l)) (entry_of (whole_clock t m)) ↔ Covers (clock (graph t) (nodes (graph t) (hashes_of l))) (clock (graph t) (nodes (graph t) (hashes_of m)))
  unfolding Covers
  clocks_cover l m = (
    (λ h i. let u = h i in let x = entry_is l i in let y = entry_is m i in omega arith),
    λ h i. (let u = h i in let x = entry_is l i in let y = entry_is m i in omega arith),
  )

  -- where `cg_chained` told yes, `cg_clock_covers` tells 1 exactly if every change in the second list's history is in the first list's
  pub covers_contains : CoversContains t
  covers_contains c l m a b told told' n k lent x y e =
      let answer : covers_told a n b k ≡ Ok (covers_all (whole_clock t l) (whole_clock t m)) =
      covers_done a n b k (sym e.number) ∙ ap₂ (λ (p q : List ℕ). Ok (covers_all p q)) (answered_entries x) (answered_entries y) in
      let same : get_or told' 0 0 ≡ get_or (slice_yes_in (Ok (covers_all (whole_clock t l) (whole_clock t m))) told) 0 0 =
      ap (λ (p : List ℕ). get_or p 0 0) (e.place ∙ ap (λ (p : Result Bool ClockRefusal). slice_yes_in p told) answer) in
      let yes = yes_told told lent (covers_all (whole_clock t l) (whole_clock t m)) in
      let entries = covers_paper (whole_clock t l) (whole_clock t m) (clock_long t l ∙ sym (clock_long t m)) in
      let clocks = clocks_cover l m in
      let holds = covers_holds (graph t) (valid_graph t v.sound) (told_chained c) (nodes (graph t) (hashes_of l)) (nodes (graph t) (hashes_of m)) in (
        (λ o. holds.0 (clocks.0 (entries.0 (yes.0 (sym same ∙ o))))),
        λ h. same ∙ yes.1 (entries.1 (clocks.1 (holds.1 h))),
      )

  -- ---- (d) the missing list

  missing_behind : (have out told out' told' : List ℕ) → MissingFrom have out told (number done) out' told' t
      → (number done ≡ reply_number (of_listed (cond (eqb (length have) 0) (Ok (32 * (graph t).size)) (list_answer (missing_hashes (graph t) have) (length out)))))
      × (out' ≡ cond (eqb (length have) 0) out (filled (missing_hashes (graph t) have) out))
      × (told' ≡ told_by (of_listed (cond (eqb (length have) 0) (Ok (32 * (graph t).size)) (list_answer (missing_hashes (graph t) have) (length out)))) told)
  unfolding missing_told missing_filled
  missing_behind have out told out' told' p =
      let s = p.met v in
      let q = tested (whole_list have) (cond (eqb (length have) 0) (Ok (32 * (graph t).size)) (list_answer (missing_hashes (graph t) have) (length out))) (cond (eqb (length have) 0) out (filled (missing_hashes (graph t) have) out)) out told out' told'
      s.number s.filled s.places in
      (q.1, q.2, q.3)

  -- where `cg_chained` told yes, `cg_missing` gives the hashes outside the history of a have-list that is not empty
  pub missing_lies_outside : MissingOutside t
  unfolding missing_hashes
  missing_lies_outside c have out told out' told' lent some p =
      let l = missing_hashes (graph t) have in
      let q = missing_behind have out told out' told' p in
      let f = ne_eqb (length have) 0 (λ z. omega arith) in
      let s = list_at_start l out told out' told' (rw f at q.0) (rw f at q.1) (rw f at q.2) in
      let n = start_told l out told out' told' s lent in
      let outside : l ≡ hashes_outside t have = ap (λ (ks : List ℕ). flat (map (graph t).hash ks)) (missing_outside (graph t) (valid_graph t v.sound) (told_chained c) (nodes (graph t) (hashes_of have))) in
      record {
        listed = ap (λ (k : ℕ). take k out') n ∙ start_first l out told out' told' s ∙ outside;
        past = subst (λ (k : ℕ). drop k out' ≡ drop k out) (sym n) (start_past l out told out' told' s);
      }

  -- of an empty have-list the lent table is the answer
  pub missing_is_all : MissingAll t
  missing_is_all have out told out' told' lent none p =
      let q = missing_behind have out told out' told' p in
      let f = eq-eqb (length have) 0 none in
      let places : told' ≡ told_in (32 * (graph t).size) told = rw f at q.2 in
      let n : get_or told' 0 0 ≡ 32 * (graph t).size = ap (λ (x : List ℕ). get_or x 0 0) places ∙ get_or-set_same told 0 (32 * (graph t).size) 0 lent in
      record {
        unwritten = rw f at q.1;
        in_use = n;
        shown = ap (λ (k : ℕ). take k t.hashes) n ∙ sym (flat_hashes t.hashes (graph t).size 0) ∙ ap flat (hashes_each t.hashes (graph t).size);
      }

  pub demand_three : DemandThree t
  demand_three = record {
    history = history_reach;
    largest = clocks_largest;
    merges = merging_answers;
    compares = covering_answers;
    joining = merge_joins;
    joining_slices = slices_join;
    covering = covers_contains;
    outside = missing_lies_outside;
    all = missing_is_all;
  }

-- ---- from opened tables on

-- where opening answered 0 the lengths agree
opened_lengths : (a : ℕ) (t t₀ : Tables) → Promised (open_for a) t (number done) t₀ → Lengths t
opened_lengths a t t₀ p = record {
  hashes_whole = same (λ d. not_not (λ l. d l.hashes_whole));
  changes_limit = below (change_room_of t) 4096 (λ d. not_not (λ l. d l.changes_limit));
  nodes_same = same (λ d. not_not (λ l. d l.nodes_same));
  edges_limit = below (edge_room_of t) 16384 (λ d. not_not (λ l. d l.edges_limit));
  nexts_same = same (λ d. not_not (λ l. d l.nexts_same));
  actors_limit = below (actor_room t) 64 (λ d. not_not (λ l. d l.actors_limit));
  clocks_whole = same (λ d. not_not (λ l. d l.clocks_whole));
  counts_three = same (λ d. not_not (λ l. d l.counts_three));
}
  where
    not_not : (Lengths t → ⊥) → ⊥
    not_not d = let u = p.unmet d in omega (arith, u.0)

    same : {x y : ℕ} → ((x ≡ y → ⊥) → ⊥) → x ≡ y
    same {x} {y} d = elim (ℕ_discrete x y) [
      | yes e ↦ e
      | no n ↦ absurd (d n)
    ]

    below : (x y : ℕ) → ((x ≤ y → ⊥) → ⊥) → x ≤ y
    below x y d = by_bool (leb x y) (leb-true x y) (λ f. absurd (d (λ l. let b = leb-false x y f in omega arith)))

-- demand 3 as C is answered: from tables that opening answered with 0, after any operations, refused ones among them, cached clocks kept or not
pub demand_3_in_answers : (a : ℕ) (os : List Operation) (t t₀ t' : Tables) → Promised (open_for a) t (number done) t₀ → Runs t₀ os t' → DemandThree t'
demand_3_in_answers a os t t₀ t' p runs = demand_three t' (demand_3 a os t t₀ t' (opened_lengths a t t₀ p) p runs).valid
