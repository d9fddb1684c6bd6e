-- Small columns, computed: the three changes of the paper's worked list, and one thing bent at a time.
-- Assumes nothing.
use Rattle.std.specs.Prelude.{◌≡◌, refl, List, [], ◌∷◌, ◌++◌, map, ℕ, replicate, drop}
use Rattle.paper.specs.Lists.{mem, pick, tally, some_below, all_below, all_in, sum_below, every, same_list, less_list, names, enter, ascending, hash_at, hashes_from, hashes_of}
use Rattle.paper.specs.Numbers.{Outcome, number}
use Rattle.paper.specs.Graph.{wanted, head_nodes, heads}
use Rattle.paper.specs.Loading.{Columns, deps_before, lengths_equal, actors_below, ops_right, deps_few, values_enough, deps_below, max_ops_rise, sequences_run, hashes_distinct, same_hashes, heads_stated, agree, judged_load}
use Rattle.columns.specs.Columns.{columns}

-- the hash that is the digit n 32 times
abbrev pub h : ℕ → List ℕ
h n = replicate 32 n

abbrev pub three : List ℕ
three = h 1 ++ h 2 ++ h 3

-- heads in another order, one of them twice, and a surplus value that no node has
abbrev pub good : Columns
good = columns three (0 ∷ 1 ∷ 0 ∷ []) (1 ∷ 1 ∷ 2 ∷ []) (3 ∷ 5 ∷ 5 ∷ []) (3 ∷ 2 ∷ 2 ∷ []) (0 ∷ 1 ∷ 1 ∷ []) (0 ∷ 0 ∷ 99 ∷ []) (h 3 ++ h 2 ++ h 3) 2

abbrev pub asked : List Outcome
asked =
    judged_load 3 2 2 good
    -- room for two changes, for one edge, for one actor
    ∷ judged_load 2 2 2 good
    ∷ judged_load 3 1 2 good
    ∷ judged_load 3 2 1 good
    -- hashes that end inside a hash, before the actors
    ∷ judged_load 3 2 1 (columns (drop 1 three) (0 ∷ 1 ∷ 0 ∷ []) (1 ∷ 1 ∷ 2 ∷ []) (3 ∷ 5 ∷ 5 ∷ []) (3 ∷ 2 ∷ 2 ∷ []) (0 ∷ 1 ∷ 1 ∷ []) (0 ∷ 0 ∷ []) (h 2 ++ h 3) 2)
    -- a short column, before the room for changes
    ∷ judged_load 2 2 2 (columns three (0 ∷ 1 ∷ []) (1 ∷ 1 ∷ 2 ∷ []) (3 ∷ 5 ∷ 5 ∷ []) (3 ∷ 2 ∷ 2 ∷ []) (0 ∷ 1 ∷ 1 ∷ []) (0 ∷ 0 ∷ []) (h 2 ++ h 3) 2)
    -- an actor not below the count
    ∷ judged_load 3 2 2 (columns three (0 ∷ 2 ∷ 0 ∷ []) (1 ∷ 1 ∷ 2 ∷ []) (3 ∷ 5 ∷ 5 ∷ []) (3 ∷ 2 ∷ 2 ∷ []) (0 ∷ 1 ∷ 1 ∷ []) (0 ∷ 0 ∷ []) (h 2 ++ h 3) 2)
    -- a dependency equal to its own node
    ∷ judged_load 3 2 2 (columns three (0 ∷ 1 ∷ 0 ∷ []) (1 ∷ 1 ∷ 2 ∷ []) (3 ∷ 5 ∷ 5 ∷ []) (3 ∷ 2 ∷ 2 ∷ []) (0 ∷ 1 ∷ 1 ∷ []) (1 ∷ 0 ∷ []) (h 2 ++ h 3) 2)
    -- a value too few
    ∷ judged_load 3 2 2 (columns three (0 ∷ 1 ∷ 0 ∷ []) (1 ∷ 1 ∷ 2 ∷ []) (3 ∷ 5 ∷ 5 ∷ []) (3 ∷ 2 ∷ 2 ∷ []) (0 ∷ 1 ∷ 1 ∷ []) (0 ∷ []) (h 2 ++ h 3) 2)
    -- a max op below a dependency's, and one equal to it
    ∷ judged_load 3 2 2 (columns three (0 ∷ 1 ∷ 0 ∷ []) (1 ∷ 1 ∷ 2 ∷ []) (3 ∷ 2 ∷ 5 ∷ []) (3 ∷ 2 ∷ 2 ∷ []) (0 ∷ 1 ∷ 1 ∷ []) (0 ∷ 0 ∷ []) (h 2 ++ h 3) 2)
    ∷ judged_load 3 2 2 (columns three (0 ∷ 1 ∷ 0 ∷ []) (1 ∷ 1 ∷ 2 ∷ []) (3 ∷ 3 ∷ 5 ∷ []) (3 ∷ 2 ∷ 2 ∷ []) (0 ∷ 1 ∷ 1 ∷ []) (0 ∷ 0 ∷ []) (h 2 ++ h 3) 2)
    -- a sequence out of its row
    ∷ judged_load 3 2 2 (columns three (0 ∷ 1 ∷ 0 ∷ []) (1 ∷ 1 ∷ 1 ∷ []) (3 ∷ 5 ∷ 5 ∷ []) (3 ∷ 2 ∷ 2 ∷ []) (0 ∷ 1 ∷ 1 ∷ []) (0 ∷ 0 ∷ []) (h 2 ++ h 3) 2)
    -- a hash twice
    ∷ judged_load 3 2 2 (columns (h 1 ++ h 2 ++ h 2) (0 ∷ 1 ∷ 0 ∷ []) (1 ∷ 1 ∷ 2 ∷ []) (3 ∷ 5 ∷ 5 ∷ []) (3 ∷ 2 ∷ 2 ∷ []) (0 ∷ 1 ∷ 1 ∷ []) (0 ∷ 0 ∷ []) (h 2) 2)
    -- a max op above 32 bits, an op count above its max op
    ∷ judged_load 3 2 2 (columns three (0 ∷ 1 ∷ 0 ∷ []) (1 ∷ 1 ∷ 2 ∷ []) (3 ∷ 5 ∷ 4294967296 ∷ []) (3 ∷ 2 ∷ 2 ∷ []) (0 ∷ 1 ∷ 1 ∷ []) (0 ∷ 0 ∷ []) (h 2 ++ h 3) 2)
    ∷ judged_load 3 2 2 (columns three (0 ∷ 1 ∷ 0 ∷ []) (1 ∷ 1 ∷ 2 ∷ []) (3 ∷ 5 ∷ 5 ∷ []) (3 ∷ 2 ∷ 6 ∷ []) (0 ∷ 1 ∷ 1 ∷ []) (0 ∷ 0 ∷ []) (h 2 ++ h 3) 2)
    -- 33 dependencies
    ∷ judged_load 3 40 2 (columns three (0 ∷ 1 ∷ 0 ∷ []) (1 ∷ 1 ∷ 2 ∷ []) (3 ∷ 5 ∷ 5 ∷ []) (3 ∷ 2 ∷ 2 ∷ []) (0 ∷ 1 ∷ 33 ∷ []) (replicate 34 0) (h 2 ++ h 3) 2)
    -- a head missing, one too many, an unknown one
    ∷ judged_load 3 2 2 (columns three (0 ∷ 1 ∷ 0 ∷ []) (1 ∷ 1 ∷ 2 ∷ []) (3 ∷ 5 ∷ 5 ∷ []) (3 ∷ 2 ∷ 2 ∷ []) (0 ∷ 1 ∷ 1 ∷ []) (0 ∷ 0 ∷ []) (h 2) 2)
    ∷ judged_load 3 2 2 (columns three (0 ∷ 1 ∷ 0 ∷ []) (1 ∷ 1 ∷ 2 ∷ []) (3 ∷ 5 ∷ 5 ∷ []) (3 ∷ 2 ∷ 2 ∷ []) (0 ∷ 1 ∷ 1 ∷ []) (0 ∷ 0 ∷ []) three 2)
    ∷ judged_load 3 2 2 (columns three (0 ∷ 1 ∷ 0 ∷ []) (1 ∷ 1 ∷ 2 ∷ []) (3 ∷ 5 ∷ 5 ∷ []) (3 ∷ 2 ∷ 2 ∷ []) (0 ∷ 1 ∷ 1 ∷ []) (0 ∷ 0 ∷ []) (h 2 ++ h 3 ++ h 4) 2)
    -- nothing at all
    ∷ judged_load 0 0 0 (columns [] [] [] [] [] [] [] [] 0)
    ∷ []

pub answers_right : map number asked ≡ 0 ∷ 9 ∷ 10 ∷ 12 ∷ 2 ∷ 18 ∷ 18 ∷ 18 ∷ 18 ∷ 18 ∷ 0 ∷ 18 ∷ 18 ∷ 18 ∷ 18 ∷ 18 ∷ 18 ∷ 18 ∷ 18 ∷ 0 ∷ []
unfolding mem pick tally some_below all_below all_in sum_below every same_list less_list names enter ascending hash_at hashes_from hashes_of wanted head_nodes heads deps_before lengths_equal actors_below ops_right deps_few values_enough deps_below max_ops_rise sequences_run hashes_distinct same_hashes heads_stated agree judged_load
answers_right = refl
