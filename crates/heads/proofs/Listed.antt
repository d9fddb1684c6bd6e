-- The list that the heads are written to is as long as the buffer was.
-- Assumes nothing.
use Rattle.std.specs.Prelude.{◌≡◌}
use Rattle.std.proofs.Math.Path.{ap}
use Rattle.std.proofs.Common.{◌∙◌}
use mathlib.Core.List.{List}
use Prim.Native.Nat.{ℕ, ◌*◌, ◌≤◌}
use native.Mathlib.Omega.{arith}
use Rattle.std.proofs.Math.ListN.{length, drop, length-append, length-drop}
use Rattle.paper.specs.Lists.{tally}
use Rattle.tables.specs.Tables.{Tables, changes, graph}
use Rattle.tables.specs.Valid.{Valid}
use Rattle.answer_buffer.specs.AnswerLaws.{filled_done}
use Rattle.answer_buffer.specs.Answers.{filled}
use Rattle.heads.specs.Heads.{head_hashes}
use Rattle.heads.specs.HeadLaws.{is_head, hashes_long}

module _ (t : Tables) (v : Valid t) where
  pub list_long : (out₀ out : List ℕ) → out ≡ filled (head_hashes (graph t)) out₀ → 32 * tally (is_head t) (changes t) ≤ length out₀ → length out ≡ length out₀
  list_long out₀ out s l =
      let n = hashes_long t v in
      let a = length-append (head_hashes (graph t)) (drop (length (head_hashes (graph t))) out₀) in
      let d = length-drop (length (head_hashes (graph t))) out₀ in
      let f = ap length (s ∙ filled_done (head_hashes (graph t)) out₀ (omega arith)) in
      omega arith
