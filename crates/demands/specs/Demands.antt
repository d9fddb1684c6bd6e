-- What demand 3 says of the tables after any operations: valid tables are so.
-- Assumes nothing.
use Rattle.std.specs.Prelude.{◌≡◌, ◌⊎◌, ◌↔◌, true, not, List, ◌++◌, ℕ, ◌≤◌, max}
use Rattle.paper.specs.Lists.{pick}
use Rattle.paper.specs.Graph.{Held, hist, clock, Covers, missing, Chained}
use Rattle.paper.proofs.Clock.{clock_upper, clock_attained, clock_append}
use Rattle.paper.proofs.Chain.{covers_holds, missing_outside}
use Rattle.tables.specs.Tables.{Tables, graph}
use Rattle.tables.specs.Valid.{Valid}
use Rattle.tables.specs.DepsLaws.{valid_graph}

-- ---- what holds of valid tables, as the third demand says it, of lists of nodes

pub record Right (t : Tables) : Type 0 where
  pub valid : Valid t
  -- an entry is the largest sequence of its actor in the history, or nothing
  pub none_above : (s : List ℕ) (k : ℕ) → hist (graph t) s k ≡ true → (graph t).seq k ≤ clock (graph t) s ((graph t).actor k)
  pub attained : (s : List ℕ) (a : ℕ) → (clock (graph t) s a ≡ 0) ⊎ Held (graph t) (hist (graph t) s) (graph t).size a (clock (graph t) s a)
  -- joining gives the entrywise larger
  pub joining : (s u : List ℕ) (a : ℕ) → clock (graph t) (s ++ u) a ≡ max (clock (graph t) s a) (clock (graph t) u a)
  -- on chained graphs covering is containment of histories
  pub covering : Chained (graph t) → (s u : List ℕ) → Covers (clock (graph t) s) (clock (graph t) u) ↔ ((k : ℕ) → hist (graph t) u k ≡ true → hist (graph t) s k ≡ true)
  -- and the missing list is what lies outside
  pub outside : Chained (graph t) → (s : List ℕ) → missing (graph t) s ≡ pick (λ k. not (hist (graph t) s k)) (graph t).size

pub right : (t : Tables) → Valid t → Right t
right t v =
    let g = valid_graph t v.sound in
    record {
      valid = v;
      none_above = λ s. clock_upper (graph t) g s;
      attained = λ s. clock_attained (graph t) g s;
      joining = clock_append (graph t) g;
      covering = covers_holds (graph t) g;
      outside = missing_outside (graph t) g;
    }
