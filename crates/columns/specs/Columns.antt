-- What the checks over the columns answer, over plain lists; put together they are the paper's conditions.
-- Assumes nothing.
use Rattle.std.specs.Prelude.{◌≡◌, Bool, not, ◌&&◌, ◌||◌, List, ℕ, suc, ◌/◌, ◌≤◌, eqb, ltb, leb, length, get_or, take, drop, Result, Ok, Err}
use Rattle.paper.specs.Lists.{mem, tally, some_below, all_below, all_in, sum_below, same_list, hash_at}
use Rattle.paper.specs.Numbers.{Outcome, number, done, malformed, no_actor_room, columns_disagree, no_node_room, no_edge_room}
use Rattle.paper.specs.Loading.{Columns, listed_changes}
use Rattle.columns.specs.declared.LoadRefusal.{LoadRefusal}
use Rattle.columns.specs.declared.LoadRefusal.TheVariants.{Malformed, NoActorRoom, Disagree, NoNodeRoom, NoEdgeRoom}
use Rattle.columns.specs.declared.Columns as lent

-- an answer in the paper's words, and its number
abbrev pub loading_outcome : Result Unit LoadRefusal → Outcome
loading_outcome (Ok _) = done
loading_outcome (Err Malformed) = malformed
loading_outcome (Err NoActorRoom) = no_actor_room
loading_outcome (Err Disagree) = columns_disagree
loading_outcome (Err NoNodeRoom) = no_node_room
loading_outcome (Err NoEdgeRoom) = no_edge_room

abbrev pub loading_number : Result Unit LoadRefusal → ℕ
loading_number l = number (loading_outcome l)

-- the columns from their lists
abbrev pub columns : List ℕ → List ℕ → List ℕ → List ℕ → List ℕ → List ℕ → List ℕ → List ℕ → ℕ → Columns
columns hs ws ss ms os ds vs ts a =
    record { hashes = hs; actors = ws; seqs = ss; max_ops = ms; op_counts = os; dep_counts = ds; dep_values = vs; heads = ts; actor_count = a }

-- the columns that are lent
abbrev pub listed : lent.Columns → Columns
listed c = columns c.ids.now c.actors.now c.seqs.now c.maxes.now c.ops.now c.deps.now c.values.now c.heads.now c.count

-- ---- of change k

abbrev pub actor_is_low : List ℕ → ℕ → ℕ → Bool
actor_is_low ws a k = ltb (get_or ws k 0) a

abbrev pub column_ops_right : List ℕ → List ℕ → ℕ → Bool
column_ops_right ms os k = leb (get_or ms k 0) 4294967295 && leb (get_or os k 0) (get_or ms k 0)

abbrev pub few : List ℕ → ℕ → Bool
few ds k = leb (get_or ds k 0) 32

abbrev pub runs_on : List ℕ → List ℕ → ℕ → Bool
runs_on ws ss k = eqb (get_or ss k 0) (suc (tally (λ j. eqb (get_or ws j 0) (get_or ws k 0)) k))

-- ---- dependencies

-- how many dependencies the first k changes have
abbrev pub total : List ℕ → ℕ → ℕ
total ds k = sum_below (λ j. get_or ds j 0) k

-- the dependencies of change k
abbrev pub deps_at : List ℕ → List ℕ → ℕ → List ℕ
deps_at ds vs k = take (get_or ds k 0) (drop (total ds k) vs)

-- j is below k, and its max op not above
abbrev pub dep_right : List ℕ → ℕ → ℕ → Bool
dep_right ms k j = ltb j k && leb (get_or ms j 0) (get_or ms k 0)

-- ---- hashes

-- h is one of the first n hashes
abbrev pub is_known : List ℕ → ℕ → List ℕ → Bool
is_known hs n h = some_below (λ j. same_list (hash_at hs j) h) n

-- hash k is new
abbrev pub is_new : List ℕ → ℕ → Bool
is_new hs k = not (is_known hs k (hash_at hs k))

-- h is the hash of node k, and k is none of the dependencies vs
abbrev pub column_head_is : List ℕ → List ℕ → List ℕ → ℕ → Bool
column_head_is hs vs h k = same_list (hash_at hs k) h && not (mem k vs)

-- stated head i is the hash of a node that is none of the dependencies vs
abbrev pub stated_right : List ℕ → ℕ → List ℕ → List ℕ → ℕ → Bool
stated_right hs n vs ts i = some_below (column_head_is hs vs (hash_at ts i)) n

-- node k is a dependency, or its hash is stated
abbrev pub head_told : List ℕ → List ℕ → List ℕ → ℕ → Bool
head_told hs vs ts k = mem k vs || is_known ts (length ts / 32) (hash_at hs k)

-- both
abbrev pub column_heads_right : List ℕ → ℕ → List ℕ → List ℕ → Bool
column_heads_right hs n vs ts = all_below (stated_right hs n vs ts) (length ts / 32) && all_below (head_told hs vs ts) n

-- ---- all of it

abbrev pub lengths_are : ℕ → ℕ → ℕ → ℕ → ℕ → ℕ → Bool
lengths_are n a s m o d = eqb a n && (eqb s n && (eqb m n && (eqb o n && eqb d n)))

-- the checks in the code's order
abbrev pub lengths_test : Columns → Bool
lengths_test c = lengths_are (listed_changes c) (length c.actors) (length c.seqs) (length c.max_ops) (length c.op_counts) (length c.dep_counts)

abbrev pub actors_test : Columns → Bool
actors_test c = all_below (actor_is_low c.actors c.actor_count) (listed_changes c)

abbrev pub ops_test : Columns → Bool
ops_test c = all_below (column_ops_right c.max_ops c.op_counts) (listed_changes c)

abbrev pub enough_test : Columns → Bool
enough_test c = all_below (few c.dep_counts) (listed_changes c) && leb (total c.dep_counts (listed_changes c)) (length c.dep_values)

abbrev pub deps_test : Columns → Bool
deps_test c = all_below (λ k. all_in (dep_right c.max_ops k) (deps_at c.dep_counts c.dep_values k)) (listed_changes c)

abbrev pub runs_test : Columns → Bool
runs_test c = all_below (runs_on c.actors c.seqs) (listed_changes c)

abbrev pub new_test : Columns → Bool
new_test c = all_below (is_new c.hashes) (listed_changes c)

abbrev pub heads_test : Columns → Bool
heads_test c = column_heads_right c.hashes (listed_changes c) (take (total c.dep_counts (listed_changes c)) c.dep_values) c.heads

abbrev pub checks : Columns → Bool
checks c = lengths_test c && (actors_test c && (ops_test c && (enough_test c && (deps_test c && (runs_test c && (new_test c && heads_test c))))))

-- ---- what the checks go by

-- the columns have one entry for each change
pub record OneEach (c : Columns) : Type 0 where
  pub actors : length c.actors ≡ listed_changes c
  pub seqs : length c.seqs ≡ listed_changes c
  pub maxes : length c.max_ops ≡ listed_changes c
  pub ops : length c.op_counts ≡ listed_changes c
  pub deps : length c.dep_counts ≡ listed_changes c

-- there are values for the dependencies of all changes
abbrev pub HasValues : Columns → Type 0
HasValues c = total c.dep_counts (listed_changes c) ≤ length c.dep_values
