-- What adding a change comes to, and a change as it is lent.
-- Assumes nothing.
use Rattle.std.specs.Prelude.{Result, List, ℕ}
use Rattle.paper.specs.Adding.{Change}
use Rattle.judge.specs.declared.AddRefusal.{AddRefusal}
use Rattle.judge.specs.declared.Change.{Change as Lent}

abbrev pub Judged : Type 0
Judged = Result (Unit {0}) AddRefusal

-- a change from its parts
abbrev pub change : List ℕ → ℕ → ℕ → ℕ → ℕ → List ℕ → Change
change h a s m c ds = record { hash = h; actor = a; seq = s; max_op = m; ops = c; deps = ds }

-- a change that is lent
abbrev pub lent_change : Lent → Change
lent_change x = change x.hash.now x.actor x.seq x.max_op x.ops x.deps.now
