-- What was put, as the session's number and length say it.
-- Assumes nothing.
use Rattle.std.specs.Prelude.{Bool, ℕ, Option, is_some, unwrap_or}

-- did it fit?
abbrev pub fitted : Option ℕ → Bool
fitted p = is_some p

-- its length, and 0 where it did not fit
abbrev pub size_of : Option ℕ → ℕ
size_of p = unwrap_or p 0
