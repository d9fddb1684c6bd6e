-- Two outcomes that meet the promise of a question whose whole answer is what is told are one.
-- Assumes nothing.
use Rattle.std.specs.Prelude.{◌≡◌, List, ℕ}
use Rattle.tables.specs.Tables.{Tables}
use Rattle.hub_answer.specs.Asks.{Reply, Tells}
use Rattle.one_outcome.specs.Shapes.{asks_once}

-- whose whole answer is what is told
pub tells_once : {L : Type 0} {of : L → Reply} {answer : Tables → L} {told : List ℕ} {t : Tables} {r' : ℕ} {told' : List ℕ} {r'' : ℕ} {told'' : List ℕ}
    → Tells of answer told r' told' t → Tells of answer told r'' told'' t → (r' ≡ r'') × (told' ≡ told'')
tells_once p q = let e = asks_once p q in (e.0, e.2)
