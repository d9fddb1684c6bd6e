-- The paper's worked example, computed: the judgements, and the heads afterwards.
-- Assumes nothing.
use Rattle.std.specs.Prelude.{◌≡◌, refl, List, [], ◌∷◌, ◌++◌, ℕ, ◌*◌, replicate, Ok, Err}
use Rattle.paper.specs.Lists.{hash_at, same_list}
use Rattle.hash.specs.Hash.{same_hash, find_from, find_hash, unknown_from, first_unknown}
use Rattle.paper.specs.Lists.{mem, pick, tally, some_below}
use Rattle.paper.specs.Graph.{wanted, head_nodes}
use Rattle.tables.specs.Tables.{Tables, tables, width_of, links, graph}
use Rattle.judge.specs.declared.AddRefusal.TheVariants.{Known, Unknown, NoNodeRoom}
use Rattle.paper.specs.Adding.{Change}
use Rattle.judge.specs.Judge.{change, tables_judged}
use Rattle.graph.specs.Place.{nodes_from, nexts_from, unheaded, stored}

-- Hn: the digit n 64 times
abbrev H : ℕ → List ℕ
H n = replicate 32 (17 * n)

-- room for 3 changes, 3 edges and 2 actors, nothing in use
abbrev empty : Tables
empty = tables (replicate 96 0) (replicate 18 0) (replicate 3 0) (replicate 3 0) (replicate 6 0) (0 ∷ 0 ∷ 2 ∷ [])

abbrev h1 : Change
h1 = change (H 1) 0 1 3 3 []

abbrev h2 : Change
h2 = change (H 2) 1 1 5 2 (H 1)

abbrev h3 : Change
h3 = change (H 3) 0 2 5 2 (H 1)

abbrev one : Tables
one = stored empty h1

abbrev two : Tables
two = stored one h2

abbrev three : Tables
three = stored two h3

first_added : tables_judged empty h1 ≡ Ok tt
unfolding hash_at same_list same_hash find_from find_hash unknown_from first_unknown tally tables_judged
first_added = refl

second_added : tables_judged one h2 ≡ Ok tt
unfolding hash_at same_list same_hash find_from find_hash unknown_from first_unknown tally tables_judged nodes_from nexts_from unheaded width_of
second_added = refl

third_added : tables_judged two h3 ≡ Ok tt
unfolding hash_at same_list same_hash find_from find_hash unknown_from first_unknown tally tables_judged nodes_from nexts_from unheaded width_of
third_added = refl

-- a known hash, with everything else wrong
known_again : tables_judged three (change (H 2) 1 9 9 9 (H 4)) ≡ Err Known
unfolding hash_at same_list same_hash find_from find_hash unknown_from first_unknown tally tables_judged nodes_from nexts_from unheaded width_of
known_again = refl

-- the first unknown dependency is named by its position
unknown_named : tables_judged three (change (H 5) 0 3 6 1 (H 1 ++ (H 4 ++ H 6))) ≡ Err (Unknown 1)
unfolding hash_at same_list same_hash find_from find_hash unknown_from first_unknown tally tables_judged nodes_from nexts_from unheaded width_of
unknown_named = refl

-- a change that names itself
itself : tables_judged three (change (H 5) 0 3 6 1 (H 5)) ≡ Err (Unknown 0)
unfolding hash_at same_list same_hash find_from find_hash unknown_from first_unknown tally tables_judged nodes_from nexts_from unheaded width_of
itself = refl

-- no room for a fourth
full : tables_judged three (change (H 5) 0 3 6 1 []) ≡ Err NoNodeRoom
unfolding hash_at same_list same_hash find_from find_hash unknown_from first_unknown tally tables_judged nodes_from nexts_from unheaded width_of
full = refl

-- H2 and H3 are the heads
two_heads : head_nodes (graph three) ≡ 1 ∷ 2 ∷ []
unfolding hash_at same_list same_hash find_from find_hash unknown_from first_unknown tally tables_judged nodes_from nexts_from unheaded width_of links mem pick some_below wanted head_nodes
two_heads = refl
