-- The cached clocks: what caching a node, and throwing the cached clocks away, make of the clock table.
-- Assumes nothing.
use Rattle.std.specs.Prelude.{◌≡◌, ◌↔◌, Bool, true, cond, ◌&&◌, ◌||◌, List, [], ◌∷◌, ◌++◌, ℕ, suc, ◌+◌, ◌*◌, ◌/◌, ◌%◌, ◌≤◌, ◌<◌, max, eqb, ltb, length, get_or, drop, replicate}
use Rattle.paper.specs.Lists.{pick, each_below}
use Rattle.paper.specs.Graph.{clock}
use Rattle.paper.specs.ProofWords.{front}
use Rattle.paper.specs.Caching.{left_over, in_turn, cached_to, cached_after}
use Rattle.tables.specs.Tables.{Tables, tables, changes, actor_room, entry_at, graph}
use Rattle.tables.specs.Valid.{Sound}
use Rattle.walk.specs.Marks.{marked}
use Rattle.walk.specs.Rows.{cached, RowsRight, Walkable}

-- t with another clock table
abbrev pub with_clocks : Tables → List ℕ → Tables
with_clocks t cs = tables t.hashes t.nodes t.targets t.nexts cs t.counts

-- the clock table with the clocks of the nodes in use that s has: entry i is entry i % width of row i / width. The other entries stay
unfoldable pub recached : Tables → (ℕ → Bool) → List ℕ
recached t s =
    each_below
    (λ i. cond (ltb (i / actor_room t) (changes t) && s (i / actor_room t)) (clock (graph t) (i / actor_room t ∷ []) (i % actor_room t)) (get_or t.clocks i 0))
    (length t.clocks)

-- the clock table after node k is cached, by the caching rule
abbrev pub after_caching : Tables → ℕ → List ℕ
after_caching t k = recached t (cached_after (graph t) (cached t) k)

-- the clock table with the rows in use all 0
unfoldable pub forgotten : Tables → List ℕ
forgotten t = replicate (changes t * actor_room t) 0 ++ drop (changes t * actor_room t) t.clocks

-- ---- the steps of caching

-- the rows of cs below m: node j's clock where s has j, and else 0. What lies past them is as it was
pub record RowsTo (t : Tables) (s : ℕ → Bool) (m : ℕ) (cs : List ℕ) : Type 0 where
  pub long : length cs ≡ length t.clocks
  pub rows : (j a : ℕ) → j < m → a < actor_room t → get_or cs (j * actor_room t + a) 0 ≡ cond (s j) (clock (graph t) (j ∷ []) a) 0
  pub past : (i : ℕ) → m * actor_room t ≤ i → get_or cs i 0 ≡ get_or t.clocks i 0

-- node k can be cached: the rows up to its own are right, and no node up to it is marked
pub record Cachable (t : Tables) (width k : ℕ) (marks : List ℕ) : Type 0 where
  pub sound : Sound t
  pub wide : width ≡ actor_room t
  pub inside : k < changes t
  pub rows : (j : ℕ) → j < suc k → RowsRight t j
  pub room : k < length marks
  pub clean : (j : ℕ) → j < suc k → get_or marks j 0 ≡ 0

-- the walk from node k is done: row k has what was found, the marked nodes below k are those left over, and all else is as it was
pub record Begun (t : Tables) (k : ℕ) (marks cs marks' : List ℕ) : Type 0 where
  pub long : length cs ≡ length t.clocks
  pub row : (a : ℕ) → a < actor_room t → max (get_or cs (k * actor_room t + a) 0) (front (graph t) (marked marks') k a) ≡ clock (graph t) (k ∷ []) a
  pub before : (i : ℕ) → i < k * actor_room t → get_or cs i 0 ≡ get_or t.clocks i 0
  pub past : (i : ℕ) → k * actor_room t + actor_room t ≤ i → get_or cs i 0 ≡ get_or t.clocks i 0
  pub marks_long : length marks' ≡ length marks
  pub left : pick (marked marks') k ≡ left_over (graph t) 32 (cached t) (suc k) 0 (λ i. eqb i k)
  pub high : (j : ℕ) → k ≤ j → get_or marks' j 0 ≡ get_or marks j 0

-- node k is cached with those left over, and the marks are as they were
pub record NodeCached (t : Tables) (k : ℕ) (marks cs marks' : List ℕ) : Type 0 where
  pub clocks : RowsTo t (cached_after (graph t) (cached t) k) (suc k) cs
  pub marks_back : marks' ≡ marks

-- row k has a part of node k's clock, and the marked nodes below k, whose rows are right, will bring the rest
pub record Halfway (t : Tables) (width k : ℕ) (marks : List ℕ) : Type 0 where
  pub sound : Sound t
  pub wide : width ≡ actor_room t
  pub inside : k < changes t
  pub rows : (j : ℕ) → j < k → RowsRight t j
  pub room : k < length marks
  pub half : (a : ℕ) → a < actor_room t → max (entry_at t k a) (front (graph t) (marked marks) k a) ≡ clock (graph t) (k ∷ []) a

-- the marked nodes below k are cached in turn, their marks are taken away, and row k is node k's clock
pub record LeftCached (t : Tables) (k : ℕ) (marks cs marks' : List ℕ) : Type 0 where
  pub clocks : RowsTo t (λ j. eqb j k || in_turn (cached_to (graph t) k) (cached t) (pick (marked marks) k) j) (suc k) cs
  pub marks_long : length marks' ≡ length marks
  pub low : (j : ℕ) → j < k → get_or marks' j 0 ≡ 0
  pub high : (j : ℕ) → k ≤ j → get_or marks' j 0 ≡ get_or marks j 0

-- the row at `to` is merged with the row at `from`, n entries, and all else is as it was
pub record RowMerged (from to n : ℕ) (cs cs' : List ℕ) : Type 0 where
  pub long : length cs' ≡ length cs
  pub row : (a : ℕ) → a < n → get_or cs' (to + a) 0 ≡ max (get_or cs (to + a) 0) (get_or cs (from + a) 0)
  pub before : (i : ℕ) → i < to → get_or cs' i 0 ≡ get_or cs i 0
  pub past : (i : ℕ) → to + n ≤ i → get_or cs' i 0 ≡ get_or cs i 0

-- ---- the check of the cached rows

-- the row of `rows` that starts at `from` is d
unfoldable pub RowIs : List ℕ → ℕ → List ℕ → Type 0
RowIs rows from d = (a : ℕ) → a < length d → get_or rows (from + a) 0 ≡ get_or d a 0

-- row k can be checked: the rows below it are right, a clock has n entries, a row's, and no node is marked
pub record Checkable (t : Tables) (width n k : ℕ) (marks : List ℕ) : Type 0 where
  pub walkable : Walkable t width n k
  pub full : width ≡ n
  pub known : k < changes t
  pub room : k ≤ length marks
  pub clean : (j : ℕ) → get_or marks j 0 ≡ 0

-- the clock of node k, and the marks as they were
pub record NodeClocked (t : Tables) (k n : ℕ) (marks clock' marks' : List ℕ) : Type 0 where
  pub clock_is : clock' ≡ each_below (clock (graph t) (k ∷ [])) n
  pub marks_back : marks' ≡ marks

-- whether row k is right; the marks are as they were
pub record RowChecked (t : Tables) (k : ℕ) (r : Bool) (marks marks' : List ℕ) : Type 0 where
  pub answer : (r ≡ true) ↔ RowsRight t k
  pub marks_back : marks' ≡ marks
