-- The tables after a change is placed.
-- Assumes nothing.
use Rattle.std.specs.Prelude.{cond, List, [], ◌∷◌, ℕ, zero, suc, ◌+◌, ◌*◌, ◌/◌, eqb, length, set, replicate, Some, None, Option, Ok, Err}
use Rattle.std.proofs.Math.Seq.{paste}
use Rattle.paper.specs.Lists.{hash_at}
use Rattle.paper.specs.Caching.{cache_due}
use Rattle.hash.specs.Hash.{find_hash}
use Rattle.tables.specs.Tables.{Tables, changes, edges, actor_room}
use Rattle.cache.specs.Cache.{after_caching, with_clocks}
use Rattle.judge.specs.Judged.{Judged}
use Rattle.judge.specs.declared.AddRefusal.TheVariants.{Malformed, Known, Unknown, NoActor, WrongSequence, BadOps, TooManyDeps, NoNodeRoom, NoEdgeRoom}
use Rattle.paper.specs.Adding.{Change}
use Rattle.judge.specs.Judge.{deps_given, tables_judged}

-- the node that was found
abbrev pub node_of : Option ℕ → ℕ
node_of (Some k) = k
node_of None = 0

-- the nodes of the `left` hashes of ds from i on
unfoldable pub nodes_from : List ℕ → ℕ → List ℕ → ℕ → ℕ → List ℕ
nodes_from hs n ds zero i = []
nodes_from hs n ds (suc left) i = node_of (find_hash hs n (hash_at ds i)) ∷ nodes_from hs n ds left (suc i)

-- the nodes of the hashes of ds, in the order listed
abbrev pub nodes_of : List ℕ → ℕ → List ℕ → List ℕ
nodes_of hs n ds = nodes_from hs n ds (length ds / 32) 0

-- the nexts of the `left` edges from edge e on: each names the edge after it, and the last none
unfoldable pub nexts_from : ℕ → ℕ → List ℕ
nexts_from zero e = []
nexts_from (suc left) e = cond (eqb left 0) 0 (e + 2) ∷ nexts_from left (suc e)

-- the first edge + 1 of a node whose d edges start at e, or 0
abbrev pub first_edge : ℕ → ℕ → ℕ
first_edge d e = cond (eqb d 0) 0 (e + 1)

-- the nodes table where the listed nodes are heads no more
unfoldable pub unheaded : List ℕ → List ℕ → List ℕ
unheaded [] ns = ns
unheaded (k ∷ ks) ns = unheaded ks (set ns (6 * k + 5) 0)

-- the nodes table with the record of node n, which is a head
abbrev pub with_node : List ℕ → ℕ → ℕ → ℕ → ℕ → ℕ → ℕ → List ℕ
with_node ns n a s m c f = set (set (set (set (set (set ns (6 * n) a) (6 * n + 1) s) (6 * n + 2) m) (6 * n + 3) c) (6 * n + 4) f) (6 * n + 5) 1

-- the change's dependencies as nodes
abbrev pub deps_of : Tables → Change → List ℕ
deps_of t x = nodes_of t.hashes (changes t) x.deps

-- the change takes the next node, and its dependencies the next edges. Its clock is not cached yet
abbrev pub stored : Tables → Change → Tables
stored t x =
    record {
      hashes = paste t.hashes (32 * changes t) x.hash (length x.hash);
      nodes = with_node (unheaded (deps_of t x) t.nodes) (changes t) x.actor x.seq x.max_op x.ops (first_edge (deps_given x) (edges t));
      targets = paste t.targets (edges t) (deps_of t x) (deps_given x);
      nexts = paste t.nexts (edges t) (nexts_from (deps_given x) (edges t)) (deps_given x);
      clocks = paste t.clocks (changes t * actor_room t) (replicate (actor_room t) 0) (actor_room t);
      counts = set (set t.counts 0 (changes t + 1)) 1 (edges t + deps_given x);
    }

-- the clock table after node k was added: its clock is cached where it is due
abbrev pub due_clocks : Tables → ℕ → List ℕ
due_clocks t k = cond (cache_due k) (after_caching t k) t.clocks

-- the change stored, and its clock cached where it is due
abbrev pub placed : Tables → Change → Tables
placed t x = with_clocks (stored t x) (due_clocks (stored t x) (changes t))

-- the new tables where the answer is Ok, and else the old ones
abbrev pub if_added : Judged → Tables → Tables → Tables
if_added (Ok u) new old = new
if_added (Err Malformed) new old = old
if_added (Err Known) new old = old
if_added (Err (Unknown i)) new old = old
if_added (Err NoActor) new old = old
if_added (Err WrongSequence) new old = old
if_added (Err BadOps) new old = old
if_added (Err TooManyDeps) new old = old
if_added (Err NoNodeRoom) new old = old
if_added (Err NoEdgeRoom) new old = old

-- the tables after the change was judged and, if accepted, placed
abbrev pub added_tables : Tables → Change → Tables
added_tables t x = if_added (tables_judged t x) (placed t x) t

-- after each of a list of changes in turn
unfoldable pub adds : Tables → List Change → Tables
adds t [] = t
adds t (x ∷ xs) = adds (added_tables t x) xs
