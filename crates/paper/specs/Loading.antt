-- Loading decoded columns: what they list, the conditions under which they agree, what loading comes to, and the changes to be added.
-- Assumes nothing.
use Rattle.std.specs.Prelude.{Bool, not, cond, ◌&&◌, ◌||◌, List, [], ◌∷◌, ◌++◌, ℕ, suc, ◌/◌, ◌%◌, eqb, ltb, leb, length, get_or, take, drop}
use Rattle.paper.specs.Lists.{tally, some_below, all_below, all_in, sum_below, each_below, every, same_list, names, hash_at, hashes_of}
use Rattle.paper.specs.Numbers.{Outcome, done, malformed, no_node_room, no_edge_room, no_actor_room, columns_disagree}
use Rattle.paper.specs.Graph.{Graph, heads}
use Rattle.paper.specs.Adding.{Change}

-- a column for each part of a change, in node order. The dependencies are node numbers, those of all changes one after the other
pub record Columns : Type 0 where
  pub hashes : List ℕ
  pub actors : List ℕ
  pub seqs : List ℕ
  pub max_ops : List ℕ
  pub op_counts : List ℕ
  pub dep_counts : List ℕ
  pub dep_values : List ℕ
  -- the stated heads, 32 bytes each, and the number of actors
  pub heads : List ℕ
  pub actor_count : ℕ

-- how many changes are listed
abbrev pub listed_changes : Columns → ℕ
listed_changes c = length c.hashes / 32

-- how many dependencies the first k changes have
unfoldable pub deps_before : Columns → ℕ → ℕ
deps_before c k = sum_below (λ j. get_or c.dep_counts j 0) k

-- the dependencies of change k; values past those of the last change are nobody's
abbrev pub deps_of_columns : Columns → ℕ → List ℕ
deps_of_columns c k = take (get_or c.dep_counts k 0) (drop (deps_before c k) c.dep_values)

-- the graph that the columns list
abbrev pub column_graph : Columns → Graph
column_graph c =
    record {
      size = listed_changes c;
      hash = λ k. hash_at c.hashes k;
      actor = λ k. get_or c.actors k 0;
      seq = λ k. get_or c.seqs k 0;
      max_op = λ k. get_or c.max_ops k 0;
      ops = λ k. get_or c.op_counts k 0;
      deps = λ k. deps_of_columns c k;
    }

-- ---- the conditions, one by one

-- equal column lengths
unfoldable pub lengths_equal : Columns → Bool
lengths_equal c =
    eqb (length c.actors) (listed_changes c) && (eqb (length c.seqs) (listed_changes c) && (eqb (length c.max_ops) (listed_changes c)
    && (eqb (length c.op_counts) (listed_changes c) && eqb (length c.dep_counts) (listed_changes c))))

-- actors below the count
unfoldable pub actors_below : Columns → Bool
actors_below c = all_below (λ k. ltb (get_or c.actors k 0) c.actor_count) (listed_changes c)

-- rule 7: no max op above 4,294,967,295, and no op count above its max op
unfoldable pub ops_right : Columns → Bool
ops_right c = all_below (λ k. leb (get_or c.max_ops k 0) 4294967295 && leb (get_or c.op_counts k 0) (get_or c.max_ops k 0)) (listed_changes c)

-- at most 32 dependencies
unfoldable pub deps_few : Columns → Bool
deps_few c = all_below (λ k. leb (get_or c.dep_counts k 0) 32) (listed_changes c)

-- enough dependency values
unfoldable pub values_enough : Columns → Bool
values_enough c = leb (deps_before c (listed_changes c)) (length c.dep_values)

-- a dependency is below its own node
unfoldable pub deps_below : Columns → Bool
deps_below c = all_below (λ k. all_in (λ j. ltb j k) (deps_of_columns c k)) (listed_changes c)

-- a change's max op is not below that of any dependency
unfoldable pub max_ops_rise : Columns → Bool
max_ops_rise c = all_below (λ k. all_in (λ j. leb (get_or c.max_ops j 0) (get_or c.max_ops k 0)) (deps_of_columns c k)) (listed_changes c)

-- an actor's sequences run 1, 2, 3 in node order
unfoldable pub sequences_run : Columns → Bool
sequences_run c = all_below (λ k. eqb (get_or c.seqs k 0) (suc (tally (λ j. eqb (get_or c.actors j 0) (get_or c.actors k 0)) k))) (listed_changes c)

-- no hash stands twice
unfoldable pub hashes_distinct : Columns → Bool
hashes_distinct c = all_below (λ k. not (some_below (λ j. same_list (hash_at c.hashes j) (hash_at c.hashes k)) k)) (listed_changes c)

-- two lists name the same hashes, order and repeats ignored
unfoldable pub same_hashes : List (List ℕ) → List (List ℕ) → Bool
same_hashes xs ys = every (λ h. names h ys) xs && every (λ h. names h xs) ys

-- the stated heads are the defined ones
unfoldable pub heads_stated : Columns → Bool
heads_stated c = same_hashes (hashes_of c.heads) (heads (column_graph c))

-- all of them
unfoldable pub agree : Columns → Bool
agree c =
    lengths_equal c && (actors_below c && (ops_right c && (deps_few c && (values_enough c && (deps_below c && (max_ops_rise c
    && (sequences_run c && (hashes_distinct c && heads_stated c))))))))

-- ---- what loading comes to

-- 2, 12, 18, 9 and 10 in this order, each where its condition holds and none before does; n, e and a are the room for changes, edges and actors
unfoldable pub judged_load : ℕ → ℕ → ℕ → Columns → Outcome
judged_load n e a c =
    cond (not (eqb (length c.hashes % 32) 0) || not (eqb (length c.heads % 32) 0)) malformed
    (cond (ltb a c.actor_count) no_actor_room
    (cond (not (agree c)) columns_disagree
    (cond (ltb n (listed_changes c)) no_node_room
    (cond (ltb e (deps_before c (listed_changes c))) no_edge_room done))))

-- ---- the changes

-- the hashes of some nodes, one after the other
unfoldable pub hashes_at : List ℕ → List ℕ → List ℕ
hashes_at bytes [] = []
hashes_at bytes (j ∷ js) = hash_at bytes j ++ hashes_at bytes js

-- change k, its dependencies by their hashes
abbrev pub change_of_columns : Columns → ℕ → Change
change_of_columns c k =
    record {
      hash = hash_at c.hashes k;
      actor = get_or c.actors k 0;
      seq = get_or c.seqs k 0;
      max_op = get_or c.max_ops k 0;
      ops = get_or c.op_counts k 0;
      deps = hashes_at c.hashes (deps_of_columns c k);
    }

-- all of them, in node order
unfoldable pub changes_of : Columns → List Change
changes_of c = each_below (change_of_columns c) (listed_changes c)
