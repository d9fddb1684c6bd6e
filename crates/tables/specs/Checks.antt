-- What the small checks answer, from which validity is put together.
-- Assumes nothing.
use Rattle.std.specs.Prelude.{◌≡◌, Bool, cond, List, ℕ, ◌≤◌, ◌<◌, eqb, length, get_or, Some, None, Option}
use Rattle.paper.specs.Lists.{some_below}
use Rattle.tables.specs.Tables.{head_at}
use Rattle.tables.specs.Valid.{Run}

-- r is where the list of node k that starts at edge c ends, within e edges, or none where no such list starts there
abbrev pub RunEnd : List ℕ → List ℕ → ℕ → ℕ → ℕ → Option ℕ → Type 0
RunEnd ts xs e k c (Some r) = (r ≤ e) × Run ts xs k c r
RunEnd ts xs e k c None = (d : ℕ) → d ≤ e → Run ts xs k c d → ⊥

-- one of the first e edges has the target k
unfoldable pub named : List ℕ → ℕ → ℕ → Bool
named ts e k = some_below (λ i. eqb (get_or ts i 0) k) e

-- m with a 1 at each target of the first e edges
pub record Marked (ts : List ℕ) (e : ℕ) (m₀ m : List ℕ) : Type 0 where
  pub long : length m ≡ length m₀
  pub each : (k : ℕ) → k < length m₀ → get_or m k 0 ≡ cond (named ts e k) 1 (get_or m₀ k 0)

-- the head flags of the first n nodes by marks
unfoldable pub FlagsBy : List ℕ → ℕ → List ℕ → Type 0
FlagsBy ns n m = (k : ℕ) → k < n → head_at ns k ≡ cond (eqb (get_or m k 0) 0) 1 0

-- the head flags of the first n nodes by the targets of the first e edges
unfoldable pub Flags : List ℕ → List ℕ → ℕ → ℕ → Type 0
Flags ns ts n e = (k : ℕ) → k < n → head_at ns k ≡ cond (named ts e k) 0 1
