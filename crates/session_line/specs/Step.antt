-- What a line that asks does to the tables, and what it answers.
-- Assumes nothing.
use Rattle.std.specs.Prelude.{◌≡◌, Bool, true, false, List, ℕ, ◌≤◌, Some, None, Result, Ok, Err}
use Rattle.paper.specs.Adding.{Hub}
use Rattle.paper.specs.Command.{Command, heads, clock, missing, owner, add, bad}
use Rattle.paper.specs.Session.{change_of, answer}
use Rattle.tables.specs.Tables.{Tables}
use Rattle.judge.specs.Hub.{hub}
use Rattle.graph.specs.Place.{added_tables}
use Rattle.reply.specs.Said.{Said}
use Rattle.session_line.specs.declared.NoAnswer.{NoAnswer}
use Rattle.session_line.specs.declared.NoAnswer.TheVariants.{Full, Bad}

-- only `add` changes them
unfoldable pub tables_after : Tables → Command → Tables
tables_after t heads = t
tables_after t (clock hs) = t
tables_after t (missing hs) = t
tables_after t (owner a c) = t
tables_after t (add h a s m k ds) = added_tables t (change_of h a s m k ds)
tables_after t bad = t

-- the bench room, with 1 to 16 actors
pub record Bench (u : Hub) : Type 0 where
  pub changes : u.change_room ≡ 256
  pub edges : u.edge_room ≡ 1024
  pub low : 1 ≤ u.actors
  pub high : u.actors ≤ 16

-- a command that is not bad
abbrev pub good : Command → Bool
good heads = true
good (clock hs) = true
good (missing hs) = true
good (owner a c) = true
good (add h a s m k ds) = true
good bad = false

-- what one line that asks gives: its answer written, or that it does not fit, or that the line is bad and nothing is written
abbrev pub Stepped : Tables → Command → ℕ → Result ℕ NoAnswer → List ℕ → List ℕ → Type 0
Stepped t x at (Ok p) out₀ out₁ = (good x ≡ true) × Said (answer (hub t) x) at (Some p) out₀ out₁
Stepped t x at (Err Full) out₀ out₁ = (good x ≡ true) × Said (answer (hub t) x) at None out₀ out₁
Stepped t x at (Err Bad) out₀ out₁ = (x ≡ bad) × (out₁ ≡ out₀)
