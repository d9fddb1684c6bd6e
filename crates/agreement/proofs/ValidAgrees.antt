-- Valid tables are exactly those that are laid out and hold what the paper calls valid.
-- Assumes nothing.
use Rattle.std.specs.Prelude.{◌≡◌, ◌↔◌, true, length}
use Rattle.std.proofs.Math.Path.{sym, ap}
use Rattle.std.proofs.Common.{◌∙◌, add-one}
use mathlib.Core.List.{List, ◌∷◌}
use Prim.Native.Nat.{ℕ, zero, suc, ◌+◌, ◌*◌, ◌-◌, ◌≤◌, ◌<◌}
use native.Mathlib.Omega.{arith}
use Rattle.std.proofs.Math.ListN.{get_or}
use Rattle.std.proofs.Math.Seq.{slice, slice_empty, slice-cons, length-slice}
use Rattle.paper.specs.Lists.{mem}
use Rattle.paper.proofs.Bools.{mem_get_d}
use Rattle.paper.specs.Validity.{ValidHub, ValidQueue}
use Rattle.hash.specs.HashLaws.{hash_length}
use Rattle.tables.specs.Tables.{Tables, first_at, links, along}
use Rattle.tables.specs.Valid.{HashesDistinct, Numbers, Run, Laid, Running, Valid}
use Rattle.tables.specs.Valid.Run.{last, more}
use Rattle.tables.specs.Valid.Laid.{none, bare, some}
use Rattle.tables.specs.DepsLaws.{links_end, get_d_slice, deps_few, valid_graph}
use Rattle.judge.specs.Hub.{hub}
use Rattle.judge.specs.HubLaws.{edges_sum, hashes_long}
use Rattle.ready.specs.Tables.{queue_of, dep_count}
use Rattle.waiting.specs.Valid.{room, waiting, StoreValid}
use Rattle.agreement.specs.LaidOut.{EdgeList, InOrder, MaxOpsSmall, LaidOut, QueueLaid}
use Rattle.agreement.specs.LaidOut.EdgeList.{ends, goes_on}
use Rattle.agreement.specs.LaidOut.InOrder.{empty, no_edge, some_edges}

-- ---- edges in order

run_list : (ts xs : List ℕ) (k : ℕ) {c d : ℕ} → Run ts xs k c d → EdgeList xs c d
run_list ts xs k (last h e q) = ends e q
run_list ts xs k (more h e r) = goes_on e (run_list ts xs k r)

laid_order : (ns ts xs : List ℕ) {n e : ℕ} → Laid ns ts xs n e → InOrder ns xs n e
laid_order ns ts xs (none p q) = empty p q
laid_order ns ts xs (bare l p f) = no_edge (laid_order ns ts xs l) p f
laid_order ns ts xs (some l p f r b) = some_edges (laid_order ns ts xs l) p f (run_list ts xs _ r)

module _ (ts xs : List ℕ) where
  list_grows : {c d : ℕ} → EdgeList xs c d → c < d
  list_grows (ends e q) = omega arith
  list_grows (goes_on e r) = let z = list_grows r in omega arith

  -- along a list stand its edges' targets, in order
  list_links : {c d : ℕ} → EdgeList xs c d → (f : ℕ) → d ≤ c + f → d ≤ length ts → links ts xs f (suc c) ≡ slice c d ts
  unfolding links
  list_links {c} r zero b l = let z = list_grows r in absurd (omega arith)
  list_links {c} {d} (ends e q) (suc f) b l =
      let n : suc c ≡ d = omega arith in
      ap (λ (x : ℕ). get_or ts c 0 ∷ links ts xs f x) e ∙ ap (λ (r : List ℕ). get_or ts c 0 ∷ r) (links_end ts xs f ∙ sym (slice_empty d ts) ∙ ap (λ (x : ℕ). slice x d ts) (sym n)) ∙ sym (slice-cons c d ts 0 (omega arith) l)
  list_links {c} {d} (goes_on e r) (suc f) b l =
      let z = list_grows r in
      let n : suc (c + 1) ≡ c + 2 = omega arith in
      ap (λ (x : ℕ). get_or ts c 0 ∷ links ts xs f x) (e ∙ sym n)
      ∙ ap (λ (s : List ℕ). get_or ts c 0 ∷ s) (list_links {c = c + 1} r f (omega arith) l ∙ ap (λ (x : ℕ). slice x d ts) (add-one c))
      ∙ sym (slice-cons c d ts 0 (omega arith) l)

  -- with targets below k it is a run of node k
  list_run : (k : ℕ) {c d : ℕ} → EdgeList xs c d → ((i : ℕ) → c ≤ i → i < d → get_or ts i 0 < k) → Run ts xs k c d
  list_run k {c} {d} (ends e q) low = last (low c (omega arith) (omega arith)) e q
  list_run k {c} {d} (goes_on e r) low = let z = list_grows r in more (low c (omega arith) (omega arith)) e (list_run k r (λ i a b. low i (omega arith) b))

  module _ (ns : List ℕ) where
    -- edges in order are laid where dependencies are below their node and at most 32
    order_laid : {n e : ℕ} → InOrder ns xs n e → e ≤ length ts → ((k j : ℕ) → k < n → mem j (along ts xs (first_at ns k)) ≡ true → j < k)
        → ((k : ℕ) → k < n → length (along ts xs (first_at ns k)) ≤ 32) → Laid ns ts xs n e
    order_laid (empty p q) l down few = none p q
    order_laid (no_edge o p f) l down few = bare (order_laid o l (λ k j b. down k j (omega arith)) (λ k b. few k (omega arith))) p f
    order_laid (some_edges {n = m} {c = c} {d = d} o p f r) l down few =
        let z = list_grows r in
        let part : along ts xs (first_at ns m) ≡ slice c d ts = ap (along ts xs) (f ∙ add-one c) ∙ list_links r (length ts) (omega arith) l in
        let long = length-slice c d ts l in
        let short = few m (omega arith) in
        let size : length (along ts xs (first_at ns m)) ≡ d - c = ap length part ∙ long in
        some (order_laid o (omega arith) (λ k j b. down k j (omega arith)) (λ k b. few k (omega arith))) p f
        (list_run m r
        (λ i a b.
        let e : c + (i - c) ≡ i = omega arith in
        let g = get_d_slice c d ts (i - c) (omega arith) in
        let in_part : mem (get_or (slice c d ts) (i - c) 0) (along ts xs (first_at ns m)) ≡ true = ap (mem (get_or (slice c d ts) (i - c) 0)) part ∙ mem_get_d (slice c d ts) (i - c) (omega arith) in
        let low = down m (get_or (slice c d ts) (i - c) 0) (omega arith) in_part in
        let same : get_or ts (c + (i - c)) 0 ≡ get_or ts i 0 = ap (λ (x : ℕ). get_or ts x 0) e in
        omega arith))
        (omega arith)

-- ---- a graph

module _ (t : Tables) where
  -- valid tables hold a valid graph with room
  pub valid_hub : Valid t → MaxOpsSmall t → ValidHub (hub t)
  unfolding HashesDistinct Numbers MaxOpsSmall
  valid_hub v small =
      let s = v.sound in
      let l = s.lengths in
      let c = s.counts in
      record {
        changes_limit = l.changes_limit;
        edges_limit = l.edges_limit;
        actors_limit = let a = c.actors_fit in let b = l.actors_limit in omega arith;
        changes_fit = c.changes_fit;
        edges_fit = let e = edges_sum t s in let f = c.edges_fit in omega arith;
        each =
            λ k h.
            record {
              hash_whole = hash_length t.hashes k (let a = c.changes_fit in let b = l.hashes_whole in omega arith);
              actor_low = (s.numbers k h).actor_low;
              max_low = small k h;
              ops_low = (s.numbers k h).ops_low;
              few = deps_few t.nodes t.targets t.nexts s.laid c.edges_fit k h;
            };
        distinct = λ j k b h e. s.distinct k h j b e;
        graph = valid_graph t s;
      }

  -- and are laid out
  pub valid_laid : Valid t → LaidOut t
  valid_laid v =
      let l = v.sound.lengths in
      let c = v.sound.counts in
      record {
        hashes_whole = l.hashes_whole;
        nodes_same = l.nodes_same;
        nexts_same = l.nexts_same;
        clocks_whole = l.clocks_whole;
        counts_three = l.counts_three;
        actors_limit = l.actors_limit;
        actors_fit = c.actors_fit;
        edges_fit = c.edges_fit;
        in_order = laid_order t.nodes t.targets t.nexts v.sound.laid;
        heads = v.sound.heads;
        rows = v.rows;
      }

  -- tables that are laid out and hold a valid graph with room are valid
  pub laid_valid : ValidHub (hub t) → LaidOut t → Valid t
  unfolding HashesDistinct Numbers Running
  laid_valid u l =
      record {
        sound =
            record {
              lengths =
                  record {
                    hashes_whole = l.hashes_whole;
                    changes_limit = u.changes_limit;
                    nodes_same = l.nodes_same;
                    edges_limit = u.edges_limit;
                    nexts_same = l.nexts_same;
                    actors_limit = l.actors_limit;
                    clocks_whole = l.clocks_whole;
                    counts_three = l.counts_three;
                  };
              counts = record { changes_fit = u.changes_fit; edges_fit = l.edges_fit; actors_fit = l.actors_fit };
              distinct = λ k h j b e. u.distinct j k b h e;
              numbers = λ k h. record { actor_low = (u.each k h).actor_low; ops_low = (u.each k h).ops_low };
              laid = order_laid t.targets t.nexts t.nodes l.in_order l.edges_fit u.graph.down (λ k h. (u.each k h).few);
              running = u.graph.runs;
              heads = l.heads;
            };
        rows = l.rows;
      }

  -- the two together
  pub valid_agrees : (Valid t × MaxOpsSmall t) ↔ (ValidHub (hub t) × LaidOut t)
  unfolding MaxOpsSmall
  valid_agrees = (λ p. (valid_hub p.0 p.1, valid_laid p.0), λ p. (laid_valid p.0 p.1, λ k h. (p.0.each k h).max_low))

-- ---- a queue or batch

pub queue_agrees : (hs ns ds cs : List ℕ) → StoreValid hs ns ds cs ↔ (ValidQueue (room hs) (queue_of hs ns ds (waiting cs)) × QueueLaid hs ns ds cs)
queue_agrees hs ns ds cs = (
  (λ v.
      let s = v.sized in
      let l = s.laid in (
        record {
          limit = l.most;
          fits = s.within;
          hashes_whole = λ i h. hash_length hs i (let a = l.hashes_whole in let b = s.within in omega arith);
          few = λ i h. (let n = hashes_long ds (dep_count ns i) (32 * i) in let f = v.few.each i h in omega arith);
          distinct = v.distinct;
        },
        record { one_count = l.one_count; hashes_whole = l.hashes_whole; numbers_agree = l.numbers_agree; deps_agree = l.deps_agree },
      )),
  (λ p.
      let q = p.0 in
      let l = p.1 in
      record {
        sized =
            record {
              laid = record { one_count = l.one_count; most = q.limit; hashes_whole = l.hashes_whole; numbers_agree = l.numbers_agree; deps_agree = l.deps_agree };
              within = q.fits;
            };
        few = record { each = λ i h. (let n = hashes_long ds (dep_count ns i) (32 * i) in let f = q.few i h in omega arith) };
        distinct = q.distinct;
      }),
)
