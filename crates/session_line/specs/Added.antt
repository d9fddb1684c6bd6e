-- What an `add` line answers.
-- Assumes nothing.
use Rattle.std.specs.Prelude.{◌≡◌, List, [], ℕ, ◌+◌, ◌*◌, ◌≤◌, length, Ok, Err, Some, None, Option}
use Rattle.paper.specs.Session.{verdict_text}
use Rattle.judge.specs.Judged.{Judged}
use Rattle.judge.specs.declared.AddRefusal.TheVariants.{Malformed, Known, Unknown, NoActor, WrongSequence, BadOps, TooManyDeps, NoNodeRoom, NoEdgeRoom}
use Rattle.judge.specs.Judge.{change, verdict}

-- the place of the unknown dependency
abbrev pub missing_of : Judged → Option ℕ
missing_of (Err (Unknown i)) = Some i
missing_of (Ok u) = None
missing_of (Err Malformed) = None
missing_of (Err Known) = None
missing_of (Err NoActor) = None
missing_of (Err WrongSequence) = None
missing_of (Err BadOps) = None
missing_of (Err TooManyDeps) = None
missing_of (Err NoNodeRoom) = None
missing_of (Err NoEdgeRoom) = None

-- the dependency that is named is one of the list
pub record Named (j : Judged) (ds : List ℕ) : Type 0 where
  pub inside : (i : ℕ) → missing_of j ≡ Some i → 32 * i + 32 ≤ length ds

-- the text after `add` and the tab
abbrev pub judged_text : Judged → List ℕ → List ℕ
judged_text j ds = verdict_text (change [] 0 0 0 0 ds) (verdict j)
