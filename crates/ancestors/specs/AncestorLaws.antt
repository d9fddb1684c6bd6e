-- The marks of a history keep what the paper keeps, and each answer from its condition.
-- Assumes nothing.
use Rattle.std.specs.Prelude.{◌≡◌, Bool, ◌&&◌, ℕ, zero, suc, ◌*◌, ◌-◌, ◌/◌, ◌%◌, ◌≤◌, ◌<◌, eqb, length, get_or, take, replicate, Some, None, Option}
use Rattle.std.proofs.Math.Path.{refl, ap}
use Rattle.std.proofs.Common.{sym, ◌∙◌, subst, arith}
use Rattle.std.proofs.Math.Bool.{true, false, not, cond}
use mathlib.Core.List.{List}
use Rattle.std.proofs.Math.Dec.{ltb}
use Rattle.std.proofs.lemmas.List.{length-replicate}
use borrow.Author.Tests.{eq-eqb, ne_eqb, lt-ltb}
use Rattle.paper.specs.Lists.{pick, tally, names, hash_at, hashes_from, hashes_of, ascending}
use Rattle.paper.specs.Text.{flat}
use Rattle.paper.specs.Graph.{Graph, node, nodes, known, hist, remove_ancestors}
use Rattle.paper.proofs.Bools.{to_false}
use Rattle.paper.proofs.History.{hist_known}
use Rattle.paper.proofs.Each.{get_d_each, each_ext}
use Rattle.hash.specs.Hash.{find_hash}
use Rattle.hash.specs.HashLaws.{FoundIs, find_is}
use Rattle.tables.specs.Tables.{Tables, changes, graph}
use Rattle.tables.specs.Valid.{Valid}
use Rattle.tables.specs.NodeLaws.{node_at, node_low, node_none}
use Rattle.tables.specs.DepsLaws.{valid_graph}
use Rattle.walk.specs.Marks.{marked, marks_of}
use Rattle.answer_buffer.specs.Answers.{list_answer, filled}
use Rattle.answer_buffer.specs.AnswerLaws.{Holds}
use Rattle.answer_buffer.specs.Entering.{Entering}
use Rattle.current_heads.specs.CurrentLaws.{found, found_is, find_names}
use Rattle.list_clock.specs.KnownLaws.{hist_knowns, starts_are}
use Rattle.ancestors.specs.Ancestors.{outside_bytes, removed_told, removed_filled, unmarked, hash_stays, first_kept, kept_bytes}
use Rattle.ancestors.specs.KeptLaws.{keep_ext, kept_to, kept_told, kept_whole, bytes_long}
use Rattle.answer_buffer.specs.declared.Refusal.TheVariants.{Malformed}
use Rattle.std.specs.Prelude.{Ok, Err}
use Rattle.std.specs.Option.{is_some}

module _ (t : Tables) (v : Valid t) where
  -- ---- the marks of a walk from the known ones of a list are those of the list's history

  pub known_marks : (list : List ℕ) {out₀ out : List ℕ} {c : ℕ} → Holds (pick (known (graph t) (nodes (graph t) (hashes_of list))) (changes t)) out₀ out c
      → (r : ℕ) → marks_of (hist (graph t) (take (c - 0) out)) r ≡ marks_of (hist (graph t) (nodes (graph t) (hashes_of list))) r
  unfolding marks_of
  known_marks list h r =
      ap (λ (s : List ℕ). marks_of (hist (graph t) s) r) (starts_are h)
      ∙ each_ext (λ j. cond (hist (graph t) (pick (known (graph t) (nodes (graph t) (hashes_of list))) (changes t)) j) 1 0) (λ j. cond (hist (graph t) (nodes (graph t) (hashes_of list)) j) 1 0) r
      (λ j l. ap (λ (b : Bool). cond b 1 0) (hist_knowns (graph t) (valid_graph t v.sound) (nodes (graph t) (hashes_of list)) j))

  -- ---- what the marks of a history keep is what lies outside it

  module _ (s : List ℕ) (r : ℕ) (enough : changes t ≤ r) where
    mark_says : (k : ℕ) → k < r → marked (marks_of (hist (graph t) s) r) k ≡ hist (graph t) s k
    unfolding marks_of
    mark_says k l = ap (ltb 0) (get_d_each (λ j. cond (hist (graph t) s j) 1 0) r k l) ∙ bit (hist (graph t) s k)
      where
        bit : (b : Bool) → ltb 0 (cond b 1 0) ≡ b
        bit true = refl
        bit false = refl

    unknown_out : hist (graph t) s (changes t) ≡ false
    unknown_out = to_false (hist (graph t) s (changes t)) (λ e. let b = hist_known (graph t) (valid_graph t v.sound) s (changes t) e in absurd (omega arith))

    kept_outside : (h : List ℕ) → hash_stays t.hashes (changes t) (marks_of (hist (graph t) s) r) h ≡ not (hist (graph t) s (node (graph t) h))
    kept_outside h = go (find_hash t.hashes (changes t) h) refl
      where
        go : (f : Option ℕ) → find_hash t.hashes (changes t) h ≡ f → hash_stays t.hashes (changes t) (marks_of (hist (graph t) s) r) h ≡ not (hist (graph t) s (node (graph t) h))
        go (Some k) e =
            ap (unmarked (marks_of (hist (graph t) s) r)) e
            ∙ ap not (mark_says k (let l = node_low t h k e in omega arith) ∙ ap (hist (graph t) s) (sym (node_at t h k e)))
        go None e =
            ap (unmarked (marks_of (hist (graph t) s) r)) e
            ∙ ap not (sym (ap (hist (graph t) s) (node_none t h e) ∙ unknown_out))

  pub kept_removed : (list of : List ℕ) (r : ℕ) → changes t ≤ r → kept_bytes t.hashes (changes t) (marks_of (hist (graph t) (nodes (graph t) (hashes_of of))) r) list ≡ outside_bytes (graph t) list of
  unfolding kept_bytes outside_bytes remove_ancestors
  kept_removed list of r l =
      ap (λ (hs : List (List ℕ)). flat (ascending hs))
      (keep_ext (hash_stays t.hashes (changes t) (marks_of (hist (graph t) (nodes (graph t) (hashes_of of))) r)) (λ h. not (hist (graph t) (nodes (graph t) (hashes_of of)) (node (graph t) h)))
      (kept_outside (nodes (graph t) (hashes_of of)) r l)
      (hashes_of list))

  -- marks made in a table of zeros
  pub removed_bytes : (list of : List ℕ) (n : ℕ) → changes t ≤ n → {marks : List ℕ} → marks ≡ marks_of (hist (graph t) (nodes (graph t) (hashes_of of))) (length {A = ℕ} (replicate n 0)) → kept_bytes t.hashes (changes t) marks list ≡ outside_bytes (graph t) list of
  removed_bytes list of n l e =
      ap (λ (m : List ℕ). kept_bytes t.hashes (changes t) m list) (e ∙ ap (marks_of (hist (graph t) (nodes (graph t) (hashes_of of)))) (length-replicate {A = ℕ} n 0)) ∙ kept_removed list of n l

-- ---- each answer from its condition

module _ (g : Graph) (list of : List ℕ) where
  module _ (n : length list % 32 ≡ 0 → ⊥) where
    pub list_bad : (room : ℕ) → removed_told g list of room ≡ Err Malformed
    unfolding removed_told
    list_bad room = rw (ne_eqb (length list % 32) 0 n)

    pub list_unfilled : (out : List ℕ) → removed_filled g list of out ≡ out
    unfolding removed_filled
    list_unfilled out = rw (ne_eqb (length list % 32) 0 n)

  module _ (e : length list % 32 ≡ 0) where
    module _ (n : length of % 32 ≡ 0 → ⊥) where
      pub heads_bad : (room : ℕ) → removed_told g list of room ≡ Err Malformed
      unfolding removed_told
      heads_bad room = rw (eq-eqb (length list % 32) 0 e, ne_eqb (length of % 32) 0 n)

      pub heads_unfilled : (out : List ℕ) → removed_filled g list of out ≡ out
      unfolding removed_filled
      heads_unfilled out = rw (eq-eqb (length list % 32) 0 e, ne_eqb (length of % 32) 0 n)

    module _ (d : length of % 32 ≡ 0) where
      pub removed_good : (room : ℕ) → removed_told g list of room ≡ list_answer (outside_bytes g list of) room
      unfolding removed_told
      removed_good room = rw (eq-eqb (length list % 32) 0 e, eq-eqb (length of % 32) 0 d)

      pub filled_good : (out : List ℕ) → removed_filled g list of out ≡ filled (outside_bytes g list of) out
      unfolding removed_filled
      filled_good out = rw (eq-eqb (length list % 32) 0 e, eq-eqb (length of % 32) 0 d)

-- ---- what a search says of a listed hash

pub found_in : (hs : List ℕ) (n : ℕ) (h : List ℕ) (k : ℕ) → find_hash hs n h ≡ Some k → k < n
unfolding FoundIs
found_in hs n h k e = (subst (FoundIs hs n h) e (find_is hs n h)).0

module _ (hs : List ℕ) (n : ℕ) (m h : List ℕ) where
  pub kept_found : (k : ℕ) → find_hash hs n h ≡ Some k → eqb (get_or m k 0) 0 ≡ hash_stays hs n m h
  kept_found k e = none (get_or m k 0) ∙ sym (ap (unmarked m) e)
    where
      none : (x : ℕ) → eqb x 0 ≡ not (ltb 0 x)
      none zero = refl
      none (suc x) = rw (ne_eqb (suc x) 0 (λ e. absurd (omega arith)), lt-ltb 0 (suc x) (omega arith))

  pub kept_unknown : find_hash hs n h ≡ None → true ≡ hash_stays hs n m h
  kept_unknown e = sym (ap (unmarked m) e)

module _ (hs : List ℕ) (n : ℕ) (m list : List ℕ) (i : ℕ) where
  earlier : found (find_hash list i (hash_at list i)) ≡ names (hash_at list i) (hashes_from list i 0)
  unfolding find_hash
  earlier = find_names list (hash_at list i) i 0

  -- it stood before
  pub first_seen : (k : ℕ) → find_hash list i (hash_at list i) ≡ Some k → false ≡ first_kept hs n m list i
  first_seen k e = ap (λ (b : Bool). not b && hash_stays hs n m (hash_at list i)) (sym (ap found e) ∙ earlier)

  -- it is new
  pub first_new : find_hash list i (hash_at list i) ≡ None → hash_stays hs n m (hash_at list i) ≡ first_kept hs n m list i
  first_new e = ap (λ (b : Bool). not b && hash_stays hs n m (hash_at list i)) (sym (ap found e) ∙ earlier)

  -- the same by whether the search found it
  module _ (f : Option ℕ) (e : f ≡ find_hash list i (hash_at list i)) where
    pub first_as_some : is_some f ≡ true → false ≡ first_kept hs n m list i
    first_as_some t = ap (λ (b : Bool). not b && hash_stays hs n m (hash_at list i)) (sym t ∙ found_is f ∙ ap found e ∙ earlier)

    pub first_as_none : is_some f ≡ false → hash_stays hs n m (hash_at list i) ≡ first_kept hs n m list i
    first_as_none t = ap (λ (b : Bool). not b && hash_stays hs n m (hash_at list i)) (sym t ∙ found_is f ∙ ap found e ∙ earlier)

-- ---- the kept hashes as bytes

module _ (hs : List ℕ) (n : ℕ) (m list : List ℕ) where
  bytes_are : kept_bytes hs n m list ≡ flat (ascending (kept_to (hash_stays hs n m) list (length list / 32)))
  unfolding kept_bytes hashes_of
  bytes_are = refl

  -- 32 for each that is counted
  pub kept_bytes_long : length (kept_bytes hs n m list) ≡ 32 * tally (first_kept hs n m list) (length list / 32)
  kept_bytes_long = ap length bytes_are ∙ bytes_long (hash_stays hs n m) list (length list / 32) (omega arith)

  -- all of them entered
  module _ {out₀ out : List ℕ} {c i : ℕ} (v : Entering (kept_to (hash_stays hs n m) list i) out₀ out c) (fits : 32 * tally (first_kept hs n m list) (length list / 32) ≤ length out₀) (e : i ≡ length list / 32) where
    pub entered_told : Ok (32 * c) ≡ list_answer (kept_bytes hs n m list) (length out₀)
    entered_told = kept_told (hash_stays hs n m) list (length list / 32) (omega arith) v fits e ∙ ap (λ (l : List ℕ). list_answer l (length out₀)) (sym bytes_are)

    pub entered_whole : out ≡ filled (kept_bytes hs n m list) out₀
    entered_whole = kept_whole (hash_stays hs n m) list (length list / 32) (omega arith) v fits e ∙ ap (λ (l : List ℕ). filled l out₀) (sym bytes_are)
