-- Loading: what the columns say of their graph, and what each condition gives.
-- Assumes nothing.
use mathlib.Core.Path.{◌≡◌, refl, sym, ap, ap₂, ◌∙◌}
use mathlib.Core.Bool.{Bool, true, false, not, ◌&&◌, ◌||◌}
use Prim.Native.Nat.{ℕ, zero, suc, ◌/◌, ◌≤◌, ◌<◌}
use lib.Dec.{eqb, ltb, leb}
use lib.ListN.{length, get_or, take}
use lib.Seq.{take-add}
use borrow.Author.Tests.{eqb-true, ltb-true, leb-true}
use Rattle.paper.specs.Lists.{mem, tally, some_below, all_below, all_in, sum_below, names, same_list, hash_at, hashes_of}
use Rattle.paper.specs.Graph.{wanted, heads}
use Rattle.paper.specs.Loading.{Columns, listed_changes, deps_before, deps_of_columns, column_graph, same_hashes, lengths_equal, actors_below, ops_right, deps_few, values_enough, deps_below, max_ops_rise, sequences_run, hashes_distinct, heads_stated, agree}
use Rattle.paper.proofs.Bools.{mem_nil, mem_append, some_ext, and_fst, and_snd, of_all, of_all_in, is_not, to_false, some_of, not-both}
use Rattle.paper.proofs.Scans.{all_ext}
use Rattle.paper.proofs.Naming.{names_bytes, every_bytes, names_heads, every_head}

module _ (c : Columns) where
  -- a node is wanted exactly if it is among the dependency values of the changes
  wanted_to : (k m : ℕ) → some_below (λ i. mem k (deps_of_columns c i)) m ≡ mem k (take (deps_before c m) c.dep_values)
  unfolding some_below deps_before sum_below
  wanted_to k zero = sym (mem_nil k)
  wanted_to k (suc m) =
      ap (λ (b : Bool). b || mem k (deps_of_columns c m)) (wanted_to k m)
      ∙ sym (mem_append k (take (deps_before c m) c.dep_values) (deps_of_columns c m))
      ∙ ap (mem k) (sym (take-add (deps_before c m) (get_or c.dep_counts m 0) c.dep_values))

  pub wanted_values : (k : ℕ) → wanted (column_graph c) k ≡ mem k (take (deps_before c (listed_changes c)) c.dep_values)
  unfolding wanted
  wanted_values k = wanted_to k (listed_changes c)

  -- the stated heads are the defined ones exactly if each is the hash of a node that no change wants, and each node is wanted or its hash is stated
  pub heads_stated_is : heads_stated c
      ≡ (all_below (λ i. some_below (λ k. same_list (hash_at c.hashes k) (hash_at c.heads i) && not (wanted (column_graph c) k)) (listed_changes c)) (length c.heads / 32)
      && all_below (λ k. wanted (column_graph c) k || some_below (λ i. same_list (hash_at c.heads i) (hash_at c.hashes k)) (length c.heads / 32)) (listed_changes c))
  unfolding heads_stated same_hashes
  heads_stated_is =
      ap₂ (λ (a b : Bool). a && b)
      (every_bytes c.heads (λ h. names h (heads (column_graph c)))
      ∙ all_ext (λ i. names (hash_at c.heads i) (heads (column_graph c)))
      (λ i. some_below (λ k. same_list (hash_at c.hashes k) (hash_at c.heads i) && not (wanted (column_graph c) k)) (listed_changes c))
      (length c.heads / 32)
      (λ i l.
      names_heads (column_graph c) (hash_at c.heads i)
      ∙ some_ext (λ k. not (wanted (column_graph c) k) && same_list (hash_at c.hashes k) (hash_at c.heads i)) (λ k. same_list (hash_at c.hashes k) (hash_at c.heads i) && not (wanted (column_graph c) k)) (listed_changes c)
      (λ k b. and_swap (not (wanted (column_graph c) k)) (same_list (hash_at c.hashes k) (hash_at c.heads i)))))
      (every_head (column_graph c) (λ h. names h (hashes_of c.heads))
      ∙ all_ext (λ k. not (not (wanted (column_graph c) k)) || names (hash_at c.hashes k) (hashes_of c.heads))
      (λ k. wanted (column_graph c) k || some_below (λ i. same_list (hash_at c.heads i) (hash_at c.hashes k)) (length c.heads / 32))
      (listed_changes c)
      (λ k l. ap₂ (λ (a b : Bool). a || b) (twice_not (wanted (column_graph c) k)) (names_bytes (hash_at c.hashes k) c.heads)))
    where
      and_swap : (a b : Bool) → (a && b) ≡ (b && a)
      and_swap true true = refl
      and_swap true false = refl
      and_swap false true = refl
      and_swap false false = refl

      twice_not : (a : Bool) → not (not a) ≡ a
      twice_not true = refl
      twice_not false = refl

-- ---- what agreeing columns give

pub record Agreed (c : Columns) : Type 0 where
  pub actors_long : length c.actors ≡ listed_changes c
  pub seqs_long : length c.seqs ≡ listed_changes c
  pub max_ops_long : length c.max_ops ≡ listed_changes c
  pub op_counts_long : length c.op_counts ≡ listed_changes c
  pub dep_counts_long : length c.dep_counts ≡ listed_changes c
  pub actor_low : (k : ℕ) → k < listed_changes c → get_or c.actors k 0 < c.actor_count
  pub max_op_low : (k : ℕ) → k < listed_changes c → get_or c.max_ops k 0 ≤ 4294967295
  pub ops_low : (k : ℕ) → k < listed_changes c → get_or c.op_counts k 0 ≤ get_or c.max_ops k 0
  pub few : (k : ℕ) → k < listed_changes c → get_or c.dep_counts k 0 ≤ 32
  pub enough : deps_before c (listed_changes c) ≤ length c.dep_values
  pub down : (k j : ℕ) → k < listed_changes c → mem j (deps_of_columns c k) ≡ true → j < k
  pub rise : (k j : ℕ) → k < listed_changes c → mem j (deps_of_columns c k) ≡ true → get_or c.max_ops j 0 ≤ get_or c.max_ops k 0
  pub runs : (k : ℕ) → k < listed_changes c → get_or c.seqs k 0 ≡ suc (tally (λ j. eqb (get_or c.actors j 0) (get_or c.actors k 0)) k)
  pub fresh : (k j : ℕ) → k < listed_changes c → j < k → same_list (hash_at c.hashes j) (hash_at c.hashes k) ≡ false
  pub heads_right : same_hashes (hashes_of c.heads) (heads (column_graph c)) ≡ true

-- the tests of a chain
five : (a b d e r : Bool) → (a && (b && (d && (e && r)))) ≡ true → (a ≡ true) × (b ≡ true) × (d ≡ true) × (e ≡ true) × (r ≡ true)
five true true true true r p = (refl, refl, refl, refl, p)
five true true true false r p = not-both refl (sym p)
five true true false e r p = not-both refl (sym p)
five true false d e r p = not-both refl (sym p)
five false b d e r p = not-both refl (sym p)

pub agreed : (c : Columns) → agree c ≡ true → Agreed c
unfolding agree lengths_equal actors_below ops_right deps_few values_enough deps_below max_ops_rise sequences_run hashes_distinct heads_stated
agreed c e =
    let n = listed_changes c in
    let first = five (lengths_equal c) (actors_below c) (ops_right c) (deps_few c) (values_enough c && (deps_below c && (max_ops_rise c && (sequences_run c && (hashes_distinct c && heads_stated c))))) e in
    let rest = five (values_enough c) (deps_below c) (max_ops_rise c) (sequences_run c) (hashes_distinct c && heads_stated c) first.4 in
    let long = five (eqb (length c.actors) n) (eqb (length c.seqs) n) (eqb (length c.max_ops) n) (eqb (length c.op_counts) n) (eqb (length c.dep_counts) n) first.0 in
    let low : ℕ → Bool = λ k. leb (get_or c.max_ops k 0) 4294967295 in
    let held : ℕ → Bool = λ k. leb (get_or c.op_counts k 0) (get_or c.max_ops k 0) in
    let twin : ℕ → ℕ → Bool = λ k j. same_list (hash_at c.hashes j) (hash_at c.hashes k) in
    record {
      actors_long = eqb-true (length c.actors) n long.0;
      seqs_long = eqb-true (length c.seqs) n long.1;
      max_ops_long = eqb-true (length c.max_ops) n long.2;
      op_counts_long = eqb-true (length c.op_counts) n long.3;
      dep_counts_long = eqb-true (length c.dep_counts) n long.4;
      actor_low = λ k b. ltb-true (get_or c.actors k 0) c.actor_count (of_all (λ i. ltb (get_or c.actors i 0) c.actor_count) n first.1 k b);
      max_op_low = λ k b. leb-true (get_or c.max_ops k 0) 4294967295 (and_fst (low k) (held k) (of_all (λ i. low i && held i) n first.2 k b));
      ops_low = λ k b. leb-true (get_or c.op_counts k 0) (get_or c.max_ops k 0) (and_snd (low k) (held k) (of_all (λ i. low i && held i) n first.2 k b));
      few = λ k b. leb-true (get_or c.dep_counts k 0) 32 (of_all (λ i. leb (get_or c.dep_counts i 0) 32) n first.3 k b);
      enough = leb-true (deps_before c n) (length c.dep_values) rest.0;
      down = λ k j b m. ltb-true j k (of_all_in (λ i. ltb i k) (deps_of_columns c k) (of_all (λ i. all_in (λ j. ltb j i) (deps_of_columns c i)) n rest.1 k b) j m);
      rise =
          λ k j b m.
          leb-true (get_or c.max_ops j 0) (get_or c.max_ops k 0)
          (of_all_in (λ i. leb (get_or c.max_ops i 0) (get_or c.max_ops k 0)) (deps_of_columns c k)
          (of_all (λ i. all_in (λ j. leb (get_or c.max_ops j 0) (get_or c.max_ops i 0)) (deps_of_columns c i)) n rest.2 k b)
          j
          m);
      runs =
          λ k b.
          eqb-true (get_or c.seqs k 0) (suc (tally (λ j. eqb (get_or c.actors j 0) (get_or c.actors k 0)) k))
          (of_all (λ i. eqb (get_or c.seqs i 0) (suc (tally (λ j. eqb (get_or c.actors j 0) (get_or c.actors i 0)) i))) n rest.3 k b);
      fresh =
          λ k j b h.
          to_false (twin k j)
          (λ t.
          not-both (some_of (twin k) k j h t)
          (is_not (some_below (twin k) k) (of_all (λ i. not (some_below (twin i) i)) n (and_fst (hashes_distinct c) (heads_stated c) rest.4) k b)));
      heads_right = and_snd (hashes_distinct c) (heads_stated c) rest.4;
    }
