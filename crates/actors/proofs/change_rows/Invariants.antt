-- The first k rows are changed, whatever the function makes of a row, and the others are the old ones.
use Rattle.std.proofs.Common.{◌≡◌, ℕ, List, length}
use Rattle.actors.specs.Actors.{RowBy, FnReturnsAtMut, rows_by}
use Rattle.actors.proofs.change_rows.Given as goal

abbrev pub invariant-loop-k : goal.invariant-loop-k
invariant-loop-k g l =
    (s : (ℕ → ℕ) → ℕ → ℕ) → ((row left : List ℕ) → length row ≡ l.w → FnReturnsAtMut g.F.Fn l.change row tt left → RowBy s l.w row left) → l.clocks ≡ rows_by s l.w l.k l.initial.clocks
