-- Laws of what a `heads` line answers.
-- Assumes nothing.
use Rattle.std.specs.Prelude.{◌≡◌, ℕ, ◌*◌, ◌/◌, ◌≤◌, length, Option}
use Rattle.std.proofs.Math.Path.{subst}
use mathlib.Core.List.{List}
use Rattle.std.proofs.Common.{arith}
use Rattle.paper.specs.Lists.{hashes_from}
use Rattle.paper.specs.Text.{flat, list_text}
use Rattle.paper.specs.Graph.{heads as heads-of}
use Rattle.paper.specs.Command.{heads_word, heads}
use Rattle.paper.specs.Session.{answer_line, answer}
use Rattle.paper.proofs.Count.{tally_most}
use Rattle.tables.specs.Tables.{Tables, changes, graph}
use Rattle.tables.specs.Valid.{Valid}
use Rattle.judge.specs.Hub.{hub}
use Rattle.answer_buffer.specs.Answers.{list_answer, filled}
use Rattle.answer_buffer.specs.Entering.{Wide, wide_ascending, flat_long}
use Rattle.heads.specs.Heads.{head_hashes}
use Rattle.heads.specs.HeadLaws.{is_head, from_node, from_wide, from_all, heads_long}
use Rattle.reply.specs.Said.{Said}
use Rattle.session_line.specs.Lines.{count_of}
use Rattle.session_line.specs.ListLaws.{listed_inside, listed_back}
use Rattle.session_line.specs.Step.{Bench}

module _ (t : Tables) (v : Valid t) (b : Bench (hub t)) where
  heads_wide : Wide (heads-of (graph t))
  heads_wide = subst Wide (from_all t v) (wide_ascending (from_node t 0) (from_wide t v 0 (omega arith)))

  -- 256 hashes are 8,192 bytes
  heads_fit : length (flat (heads-of (graph t))) ≤ 8192
  heads_fit =
      let f = flat_long (heads-of (graph t)) heads_wide in
      let n = heads_long t v in
      let m = tally_most (is_head t) (changes t) in
      let c = v.sound.counts.changes_fit in
      let r = b.changes in
      omega arith

  module _ (list₀ : List ℕ) (long : length list₀ ≡ 8192) (n : ℕ) (e : n ≡ count_of (list_answer (head_hashes (graph t)) (length list₀))) (list : List ℕ) (f : list ≡ filled (head_hashes (graph t)) list₀) where
    pub heads_inside : 32 * (n / 32) ≤ length list
    unfolding head_hashes
    heads_inside = listed_inside (heads-of (graph t)) heads_wide list₀ (let l = heads_fit in omega arith) n e list f

    pub said_heads : (at : ℕ) (r : Option ℕ) (out₀ out₁ : List ℕ)
        → Said (answer_line heads_word (list_text (hashes_from list (n / 32) 0))) at r out₀ out₁ → Said (answer (hub t) heads) at r out₀ out₁
    unfolding answer head_hashes
    said_heads at r out₀ out₁ w =
        subst (λ (hs : List (List ℕ)). Said (answer_line heads_word (list_text hs)) at r out₀ out₁)
        (listed_back (heads-of (graph t)) heads_wide list₀ (let l = heads_fit in omega arith) n e list f) w
