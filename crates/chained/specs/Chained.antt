-- What the public question calls chained, named in this one place, and the tests that the scan makes.
-- Assumes nothing.
use Rattle.std.specs.Prelude.{Bool, false, ◌&&◌, ◌||◌, List, [], ◌∷◌, ℕ, suc, eqb, leb}
use Rattle.paper.specs.Graph.{Graph, chained_old_test}
use Rattle.tables.specs.Tables.{actor_at, seq_at, first_at, along}

-- every change with sequence 2 or more names its actor's preceding change among its own dependencies
abbrev pub chained : Graph → Bool
chained g = chained_old_test g

-- some member passes the test
unfoldable pub some_in : (ℕ → Bool) → List ℕ → Bool
some_in p [] = false
some_in p (x ∷ xs) = p x || some_in p xs

-- node j is of node k's actor, and its sequence is the one before node k's
abbrev pub precedes : List ℕ → ℕ → ℕ → Bool
precedes ns k j = eqb (actor_at ns j) (actor_at ns k) && eqb (seq_at ns k) (suc (seq_at ns j))

-- node k has no preceding change, or names it
abbrev pub linked : List ℕ → List ℕ → List ℕ → ℕ → Bool
linked ns ts xs k = leb (seq_at ns k) 1 || some_in (precedes ns k) (along ts xs (first_at ns k))
