-- Laws of what a `missing` line answers.
-- Assumes nothing.
use Rattle.std.specs.Prelude.{◌≡◌, Bool, true, false, cond, ℕ, zero, suc, ◌+◌, ◌*◌, ◌/◌, ◌%◌, ◌≤◌, ◌<◌, eqb, leb, take, drop, Option, Ok, Err}
use Rattle.std.proofs.Math.Path.{refl, ap, subst}
use Rattle.std.proofs.Common.{sym, ◌∙◌, length-append, length-take, take_at}
use mathlib.Core.List.{List, [], ◌∷◌, ◌++◌, map}
use native.Mathlib.Omega.{arith}
use Rattle.std.proofs.Math.ListN.{length}
use borrow.Author.Tests.{lt-ltb, eqb-true, eqb-false, leb-true}
use Rattle.paper.specs.Lists.{hash_at, hashes_from, hashes_of, every}
use Rattle.paper.specs.Text.{flat, list_text}
use Rattle.paper.specs.Graph.{nodes, clock, above, missing as missing-of}
use Rattle.paper.specs.Command.{missing_word, missing}
use Rattle.paper.specs.Session.{answer_line, answer, missed}
use Rattle.paper.proofs.Bools.{by_bool}
use Rattle.paper.proofs.Count.{tally_most}
use Rattle.paper.proofs.Walk.{clock_nil}
use Rattle.hash.specs.HashLaws.{hash_length}
use Rattle.tables.specs.Tables.{Tables, changes, actor_at, seq_at, graph}
use Rattle.tables.specs.Valid.{Valid, Running}
use Rattle.tables.specs.DepsLaws.{valid_graph}
use Rattle.judge.specs.Hub.{hub}
use Rattle.answer_buffer.specs.Answers.{list_answer}
use Rattle.answer_buffer.specs.declared.Refusal.TheVariants.{Short}
use Rattle.answer_buffer.specs.AnswerLaws.{listed_done, filled_done}
use Rattle.answer_buffer.specs.Entering.{Wide, wide_cons}
use Rattle.answer_buffer.specs.Picking.{rest_of, rest_all, hashes_length}
use Rattle.answer_buffer.specs.Room.{room}
use Rattle.answer_buffer.specs.SlotLaws.{flat_hashes}
use Rattle.missing.specs.Missing.{missing_hashes, missing_told, missing_filled, shown, Shown}
use Rattle.missing.specs.MissingLaws.{empty_told, list_told, list_filled, shown_table, shown_answer}
use Rattle.reply.specs.Said.{Said}
use Rattle.session_line.specs.Lines.{count_of}
use Rattle.session_line.specs.ListLaws.{read_flat}
use Rattle.session_line.specs.Step.{Bench}

-- ---- the hashes of nodes that pass a test

wide_rest : (hs : List ℕ) (p : ℕ → Bool) (left k : ℕ) → 32 * (k + left) ≤ length hs → Wide (map (hash_at hs) (rest_of p left k))
unfolding rest_of every
wide_rest hs p zero k l = refl
wide_rest hs p (suc left) k l =
    let r = wide_rest hs p left (suc k) (omega arith) in
    by_bool (p k) (λ y. rw y (wide_cons (hash_at hs k) (map (hash_at hs) (rest_of p left (suc k))) (hash_length hs k (omega arith)) r)) (λ n. rw n r)

-- where all pass, these are the first hashes of the table
all_rest : (hs : List ℕ) (p : ℕ → Bool) (n : ℕ) → ((j : ℕ) → j < n → p j ≡ true) → (left k : ℕ) → k + left ≤ n → map (hash_at hs) (rest_of p left k) ≡ hashes_from hs left k
unfolding rest_of hashes_from
all_rest hs p n all zero k l = refl
all_rest hs p n all (suc left) k l = rw (all k (omega arith)) (ap (λ (r : List (List ℕ)). hash_at hs k ∷ r) (all_rest hs p n all left (suc k) (omega arith)))

-- a list that was answered fits
done_fits : (l : List ℕ) (room n : ℕ) → list_answer l room ≡ Ok n → length l ≤ room
unfolding list_answer
done_fits l room n = go (leb (length l) room) refl
  where
    go : (b : Bool) → leb (length l) room ≡ b → cond b (Ok (length l)) (Err Short) ≡ Ok n → length l ≤ room
    go true y e = leb-true (length l) room y
    go false y e = let z : ◌≡◌ {A = ℕ} 0 1 = cc in absurd (omega arith)

module _ (t : Tables) (v : Valid t) where
  -- nothing is had: every sequence is above 0
  all_above : (k : ℕ) → k < changes t → above (graph t) (clock (graph t) []) k ≡ true
  unfolding above Running
  all_above k l =
      let z = clock_nil (graph t) (valid_graph t v.sound) (actor_at t.nodes k) in
      let s = v.sound.running k l in
      lt-ltb (clock (graph t) [] (actor_at t.nodes k)) (seq_at t.nodes k) (omega arith)

  all_missing : map (hash_at t.hashes) (missing-of (graph t) []) ≡ hashes_from t.hashes (changes t) 0
  unfolding missing-of
  all_missing =
      ap (map (hash_at t.hashes)) (rest_all (above (graph t) (clock (graph t) [])) (changes t))
      ∙ all_rest t.hashes (above (graph t) (clock (graph t) [])) (changes t) all_above (changes t) 0 (omega arith)

  module _ (have : List ℕ) where
    -- the missing list
    abbrev lacked : List (List ℕ)
    lacked = missed (hub t) (hashes_of have)

    lacked_wide : Wide lacked
    unfolding missed missing-of
    lacked_wide =
        let p = above (graph t) (clock (graph t) (nodes (graph t) (hashes_of have))) in
        let h = (room t v).hashes_in in
        subst (λ (l : List ℕ). Wide (map (hash_at t.hashes) l)) (sym (rest_all p (changes t))) (wide_rest t.hashes p (changes t) 0 (omega arith))

    -- its bytes are no more than the table's
    lacked_fits : length (flat lacked) ≤ 32 * changes t
    unfolding missed missing-of
    lacked_fits =
        let p = above (graph t) (clock (graph t) (nodes (graph t) (hashes_of have))) in
        let h = (room t v).hashes_in in
        let n = hashes_length (hash_at t.hashes) p (changes t) (λ j l. hash_length t.hashes j (omega arith)) in
        let m = tally_most p (changes t) in
        omega arith

    bytes_are : missing_hashes (graph t) have ≡ flat lacked
    unfolding missing_hashes missed
    bytes_are = refl

    -- nothing is had: the table itself
    none_had : length have ≡ 0 → flat lacked ≡ take (32 * changes t) t.hashes
    unfolding missed nodes hashes_of hashes_from
    none_had z = let d : length have / 32 ≡ 0 = omega arith in rw d (ap flat all_missing ∙ flat_hashes t.hashes (changes t) 0)

    none_long : length have ≡ 0 → length (flat lacked) ≡ 32 * changes t
    none_long z = let h = (room t v).hashes_in in ap length (none_had z) ∙ length-take (32 * changes t) t.hashes ∙ omega arith

    -- whenever the missing list is answered with 0, in any buffer, what is shown is the list: a part of the table or of the buffer
    module _ (whole : length have % 32 ≡ 0) (buffer : List ℕ) (n : ℕ) (e : missing_told (graph t) have (length buffer) ≡ Ok n) where
      shown_none : length have ≡ 0 → shown t.hashes (missing_filled (graph t) have buffer) have n ≡ missing_hashes (graph t) have
      shown_none z =
          let h : Ok n ≡ Ok (32 * changes t) = sym e ∙ empty_told (graph t) have whole z (length buffer) in
          let q : n ≡ 32 * changes t = cc in
          shown_table t.hashes (missing_filled (graph t) have buffer) have n z ∙ ap (λ (k : ℕ). take k t.hashes) q ∙ sym (none_had z) ∙ sym bytes_are

      shown_some : (length have ≡ 0 → ⊥) → shown t.hashes (missing_filled (graph t) have buffer) have n ≡ missing_hashes (graph t) have
      shown_some z =
          let h : list_answer (missing_hashes (graph t) have) (length buffer) ≡ Ok n = sym (list_told (graph t) have whole z (length buffer)) ∙ e in
          let l = done_fits (missing_hashes (graph t) have) (length buffer) n h in
          let d : Ok n ≡ Ok (length (missing_hashes (graph t) have)) = sym h ∙ listed_done (missing_hashes (graph t) have) (length buffer) l in
          let q : n ≡ length (missing_hashes (graph t) have) = cc in
          shown_answer t.hashes (missing_filled (graph t) have buffer) have n z
          ∙ ap (take n) (list_filled (graph t) have whole z buffer ∙ filled_done (missing_hashes (graph t) have) buffer l)
          ∙ take_at (missing_hashes (graph t) have) (drop (length (missing_hashes (graph t) have)) buffer) n (sym q)

      pub shown_missing : shown t.hashes (missing_filled (graph t) have buffer) have n ≡ missing_hashes (graph t) have
      shown_missing = by_bool (eqb (length have) 0) (λ y. shown_none (eqb-true (length have) 0 y)) (λ o. shown_some (eqb-false (length have) 0 o))

    -- what is asked of the missing core, and what is shown
    module _ (b : Bench (hub t)) (whole : length have % 32 ≡ 0) (buffer : List ℕ) (long : length buffer ≡ 8192) (n : ℕ) (e : n ≡ count_of (missing_told (graph t) have (length buffer))) (list : List ℕ) (f : list ≡ missing_filled (graph t) have buffer) where
      -- 256 hashes are 8,192 bytes
      fits : length (missing_hashes (graph t) have) ≤ length buffer
      fits = let l = lacked_fits in let c = v.sound.counts.changes_fit in let r = b.changes in let q = ap length bytes_are in omega arith

      none_count : length have ≡ 0 → n ≡ 32 * changes t
      none_count z = e ∙ ap count_of (empty_told (graph t) have whole z (length buffer))

      some_count : (length have ≡ 0 → ⊥) → n ≡ length (missing_hashes (graph t) have)
      some_count z = e ∙ ap count_of (list_told (graph t) have whole z (length buffer) ∙ listed_done (missing_hashes (graph t) have) (length buffer) fits)

      some_list : (length have ≡ 0 → ⊥) → list ≡ missing_hashes (graph t) have ++ drop (length (missing_hashes (graph t) have)) buffer
      some_list z = f ∙ list_filled (graph t) have whole z buffer ∙ filled_done (missing_hashes (graph t) have) buffer fits

      pub missing_inside : Shown t.hashes list have n
      missing_inside = record {
        in_table = λ z. let c = none_count z in let h = (room t v).hashes_in in omega arith;
        in_answer =
            λ z.
            let c = some_count z in
            let l = ap length (some_list z) ∙ length-append (missing_hashes (graph t) have) (drop (length (missing_hashes (graph t) have)) buffer) in
            omega arith;
      }

      shown_all : (shown t.hashes list have n ≡ flat lacked) × (n ≡ length (flat lacked))
      shown_all =
          by_bool (eqb (length have) 0)
          (λ y.
          let z = eqb-true (length have) 0 y in
          (shown_table t.hashes list have n z ∙ ap (λ (k : ℕ). take k t.hashes) (none_count z) ∙ sym (none_had z), none_count z ∙ sym (none_long z)))
          (λ o.
          let z = eqb-false (length have) 0 o in (
            shown_answer t.hashes list have n z
                ∙ ap (take n) (some_list z)
                ∙ take_at (missing_hashes (graph t) have) (drop (length (missing_hashes (graph t) have)) buffer) n (sym (some_count z))
                ∙ bytes_are,
            some_count z ∙ ap length bytes_are,
          ))

      module _ (part : List ℕ) (g : part ≡ shown t.hashes list have n) where
        pub part_long : 32 * (n / 32) ≤ length part
        part_long = let a = ap length (g ∙ shown_all.0) in let m = shown_all.1 in omega arith

        pub said_missing : (at : ℕ) (r : Option ℕ) (out₀ out₁ : List ℕ)
            → Said (answer_line missing_word (list_text (hashes_from part (n / 32) 0))) at r out₀ out₁ → Said (answer (hub t) (missing (hashes_of have))) at r out₀ out₁
        unfolding answer
        said_missing at r out₀ out₁ w =
            subst (λ (hs : List (List ℕ)). Said (answer_line missing_word (list_text hs)) at r out₀ out₁)
            (ap (λ (x : List ℕ). hashes_from x (n / 32) 0) (g ∙ shown_all.0) ∙ read_flat lacked lacked_wide n shown_all.1) w
