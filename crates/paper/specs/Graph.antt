-- The paper's words: the graph of changes as plain functions of a node's number, histories, sequence clocks, op clocks, missing lists, owners, heads,
-- and what chained means. A list of nodes may name numbers that no node has; they count as unknown. In a clock 0 stands for nothing, since sequences begin
-- at 1; where a node is looked for, `size` stands for none. Nothing here speaks of tables.
-- Assumes nothing.
use Rattle.std.specs.Prelude.{◌≡◌, Bool, true, not, cond, ◌&&◌, ◌||◌, List, [], ◌∷◌, map, ℕ, zero, suc, ◌+◌, ◌≤◌, ◌<◌, max, ltb, leb, eqb}
use Rattle.paper.specs.Lists.{mem, pick, tally, some_below, all_below, all_in, first_below, keep, same_list, ascending}

-- `size` changes, numbered from 0 in order of acceptance, each with its hash, actor, sequence, max op, op count, and dependencies in their
-- listed order with repeats. What the columns hold at `size` and above has no meaning.
pub record Graph : Type 0 where
  pub size : ℕ
  pub hash : ℕ → List ℕ
  pub actor : ℕ → ℕ
  pub seq : ℕ → ℕ
  pub max_op : ℕ → ℕ
  pub ops : ℕ → ℕ
  pub deps : ℕ → List ℕ

-- the node that has the hash h, or `size` where the hash is unknown
unfoldable pub node : Graph → List ℕ → ℕ
node g h = first_below (λ k. same_list (g.hash k) h) g.size

-- the nodes of a list of hashes
unfoldable pub nodes : Graph → List (List ℕ) → List ℕ
nodes g hs = map (node g) hs

-- ---- history

-- k is in the history of the list s: a known one of s, or a dependency of one in the history
pub data Reach (g : Graph) (s : List ℕ) : ℕ → Type 0 where
  start : (k : ℕ) → k < g.size → mem k s ≡ true → Reach g s k
  step : (k j : ℕ) → Reach g s k → mem j (g.deps k) ≡ true → Reach g s j

-- the same by marks. Where node m is marked, mark its dependencies
unfoldable pub look : Graph → ℕ → (ℕ → Bool) → ℕ → Bool
look g m w = cond (w m) (λ j. w j || mem j (g.deps m)) w

-- look at the nodes below m, the highest first: a dependency is below its node, so one pass from the highest node marks all
unfoldable pub pass : Graph → ℕ → (ℕ → Bool) → ℕ → Bool
pass g zero w = w
pass g (suc m) w = pass g m (look g m w)

-- the known ones of s
unfoldable pub known : Graph → List ℕ → ℕ → Bool
known g s k = ltb k g.size && mem k s

unfoldable pub hist : Graph → List ℕ → ℕ → Bool
hist g s = pass g g.size (known g s)

-- ---- sequence clock

-- the sequence of node k where it is the actor a's, else 0
abbrev pub own : Graph → ℕ → ℕ → ℕ
own g k a = cond (eqb (g.actor k) a) (g.seq k) 0

-- the largest sequence of the actor a among the nodes below m that h holds, or 0
unfoldable pub top : Graph → (ℕ → Bool) → ℕ → ℕ → ℕ
top g h zero a = 0
top g h (suc m) a = max (top g h m a) (cond (h m && eqb (g.actor m) a) (g.seq m) 0)

-- c is the sequence of a node of the actor a, below m, that h holds
pub record Held (g : Graph) (h : ℕ → Bool) (m a c : ℕ) : Type 0 where
  pub node : ℕ
  pub low : node < m
  pub inside : h node ≡ true
  pub whose : g.actor node ≡ a
  pub value : g.seq node ≡ c

-- the clock of a set of nodes, at the actor a; 0 is nothing
unfoldable pub clock_of : Graph → (ℕ → Bool) → ℕ → ℕ
clock_of g h a = top g h g.size a

-- the clock of a list, at the actor a
unfoldable pub clock : Graph → List ℕ → ℕ → ℕ
clock g s = clock_of g (hist g s)

-- c covers d: no entry of d is larger than c's
unfoldable pub Covers : (ℕ → ℕ) → (ℕ → ℕ) → Type 0
Covers c d = (a : ℕ) → d a ≤ c a

-- node k's sequence is above its actor's entry
unfoldable pub above : Graph → (ℕ → ℕ) → ℕ → Bool
above g c k = ltb (c (g.actor k)) (g.seq k)

-- those nodes, in node order
unfoldable pub missing : Graph → List ℕ → List ℕ
missing g s = pick (above g (clock g s)) g.size

-- the nodes that both histories hold
unfoldable pub shared : Graph → List ℕ → List ℕ → ℕ → Bool
shared g s t k = hist g s k && hist g t k

-- ---- heads

-- some node depends on k
unfoldable pub wanted : Graph → ℕ → Bool
wanted g k = some_below (λ m. mem k (g.deps m)) g.size

-- the known nodes that none depends on, in node order
unfoldable pub head_nodes : Graph → List ℕ
head_nodes g = pick (λ k. not (wanted g k)) g.size

-- the heads: their hashes, in ascending order
unfoldable pub heads : Graph → List (List ℕ)
heads g = ascending (map g.hash (head_nodes g))

-- ---- op clock, op range, owner

-- the change of the actor a with the sequence q, or `size` where there is none
unfoldable pub change_at : Graph → ℕ → ℕ → ℕ
change_at g a q = first_below (λ k. eqb (g.actor k) a && eqb (g.seq k) q) g.size

-- the max op of a node, or 0 where it is none
unfoldable pub max_op_of : Graph → ℕ → ℕ
max_op_of g k = cond (ltb k g.size) (g.max_op k) 0

-- the op clock of a list, at the actor a: the max op of the change at the largest sequence in the history, or 0
unfoldable pub op_clock : Graph → List ℕ → ℕ → ℕ
op_clock g s a = max_op_of g (change_at g a (clock g s a))

-- the counter c is in node k's op range, from max op - count + 1 to max op
unfoldable pub is_in_range : Graph → ℕ → ℕ → Bool
is_in_range g c k = leb c (g.max_op k) && ltb (g.max_op k) (c + g.ops k)

-- node k is a change of the actor a whose op range holds the counter c
unfoldable pub owns : Graph → ℕ → ℕ → ℕ → Bool
owns g a c k = eqb (g.actor k) a && is_in_range g c k

-- the owner of (actor, counter): that actor's change of lowest sequence whose range holds the counter
pub record Owner (g : Graph) (a c k : ℕ) : Type 0 where
  pub known_k : k < g.size
  pub holds : owns g a c k ≡ true
  pub lowest : (j : ℕ) → j < g.size → owns g a c j ≡ true → g.seq k ≤ g.seq j

-- the same computed, or `size` where there is none
unfoldable pub owner : Graph → ℕ → ℕ → ℕ
owner g a c = first_below (owns g a c) g.size

-- ---- the listed hashes outside the history of a list, ascending, each once; unknown ones stay

unfoldable pub remove_ancestors : Graph → List (List ℕ) → List (List ℕ) → List (List ℕ)
remove_ancestors g hs of = ascending (keep (λ h. not (hist g (nodes g of) (node g h))) hs)

-- ---- valid, chained

pub record ValidGraph (g : Graph) : Type 0 where
  -- a dependency is below its node
  pub down : (k j : ℕ) → k < g.size → mem j (g.deps k) ≡ true → j < k
  -- an actor's sequences run 1, 2, 3 in node order
  pub runs : (k : ℕ) → k < g.size → g.seq k ≡ suc (tally (λ j. eqb (g.actor j) (g.actor k)) k)

-- the same as a test
unfoldable pub valid_test : Graph → Bool
valid_test g = all_below (λ k. all_in (λ j. ltb j k) (g.deps k) && eqb (g.seq k) (suc (tally (λ j. eqb (g.actor j) (g.actor k)) k))) g.size

-- j is the change of k's actor that precedes k
pub record Precedes (g : Graph) (j k : ℕ) : Type 0 where
  pub known_j : j < g.size
  pub known_k : k < g.size
  pub same : g.actor j ≡ g.actor k
  pub next : g.seq k ≡ suc (g.seq j)

-- chained in the narrow sense, which `cg_chained` answers: it is among k's own dependencies
unfoldable pub ChainedOld : Graph → Type 0
ChainedOld g = (j k : ℕ) → Precedes g j k → mem j (g.deps k) ≡ true

-- chained in the wide sense, which the theorems stand on: it is in k's history
unfoldable pub Chained : Graph → Type 0
Chained g = (j k : ℕ) → Precedes g j k → hist g (k ∷ []) j ≡ true

-- the same as tests, on valid graphs
unfoldable pub chained_old_test : Graph → Bool
chained_old_test g = all_below (λ k. leb (g.seq k) 1 || some_below (λ j. eqb (g.actor j) (g.actor k) && (eqb (g.seq k) (suc (g.seq j)) && mem j (g.deps k))) k) g.size

unfoldable pub chained_test : Graph → Bool
chained_test g = all_below (λ k. eqb (g.seq k) (suc (clock g (g.deps k) (g.actor k)))) g.size
