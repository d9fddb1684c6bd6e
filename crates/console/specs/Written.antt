-- What the program writes.
-- Assumes nothing.
use Rattle.std.specs.Prelude.{cond, List, [], ℕ, leb, length}
use Rattle.paper.specs.Session.{session}

-- the answer, where input and answer have at most n bytes each; else nothing
unfoldable pub written : ℕ → List ℕ → List ℕ
written n s = cond (leb (length s) n) (cond (leb (length (session s)) n) (session s) []) []
