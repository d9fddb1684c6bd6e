-- Marks: a table of bytes, one for each node, and what marking changes.
-- Assumes nothing.
use Rattle.std.specs.Prelude.{◌≡◌, Bool, cond, List, ℕ, ◌-◌, ◌≤◌, ◌<◌, ltb, length, get_or}
use Rattle.paper.specs.Lists.{mem, each_below}
use Rattle.tables.specs.Valid.{Run}

-- node k is marked
abbrev pub marked : List ℕ → ℕ → Bool
marked m k = ltb 0 (get_or m k 0)

-- m' is m with a 1 at each of the list d
pub record MarkedBy (d m m' : List ℕ) : Type 0 where
  pub long : length m' ≡ length m
  pub each : (j : ℕ) → get_or m' j 0 ≡ cond (mem j d) 1 (get_or m j 0)

-- the marks of a set, n of them
unfoldable pub marks_of : (ℕ → Bool) → ℕ → List ℕ
marks_of h n = each_below (λ j. cond (h j) 1 0) n

-- from link e on (an edge + 1, or 0 at the end) there is a run of edges whose targets are below b
pub record Chain (ts xs : List ℕ) (b e : ℕ) : Type 0 where
  pub to : ℕ
  pub within : to ≤ length ts
  pub run : 0 < e → Run ts xs b (e - 1) to

-- marks of 0 and 1 alone
abbrev pub Bits : List ℕ → Type 0
Bits m = (j : ℕ) → get_or m j 0 ≡ cond (marked m j) 1 0

-- the nodes of the list are below the change count
abbrev pub Known : List ℕ → List ℕ → Type 0
Known us starts = (i : ℕ) → i < length starts → get_or starts i 0 < get_or us 0 0
