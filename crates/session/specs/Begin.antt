-- What reading the first two lines gives.
-- Assumes nothing.
use Rattle.std.specs.Prelude.{◌≡◌, List, ℕ, ◌≤◌, ◌<◌, length, Result, Ok, Err}
use Rattle.paper.specs.Session.{asking, bench, bad_text, answers}
use Rattle.text.specs.Parts.{part, parts_from}
use Rattle.text.specs.declared.Cursor.{Cursor}
use Rattle.session.specs.declared.Opening.{Opening}
use Rattle.session.specs.declared.BadLine.{BadLine}

-- a line from a to e of at most 2,400 bytes, and the place past its LF
pub record Inside (s : List ℕ) (a e : ℕ) (c : Cursor) : Type 0 where
  pub order : a ≤ e
  pub low : e ≤ length s
  pub past : e < c.at
  pub next : c.at ≤ length s
  pub short : length (part s a e) ≤ 2400

-- the answer is what the lines from c on say of an empty graph with n actors
pub record Opened (text s : List ℕ) (n : ℕ) (c : Cursor) : Type 0 where
  pub is : text ≡ answers (asking (bench n)) 3 (parts_from 10 s c.at)
  pub low : 1 ≤ n
  pub high : n ≤ 16
  pub inside : c.at ≤ length s
  pub far : 3 ≤ c.at

-- the first two lines are right, or one of them is bad
abbrev pub Begun : List ℕ → List ℕ → Result Opening BadLine → Type 0
Begun text s (Ok o) = Opened text s o.actors o.next
Begun text s (Err k) = text ≡ bad_text k.number
