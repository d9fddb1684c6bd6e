-- Laws of what a `clock` line answers.
-- Assumes nothing.
use Rattle.std.specs.Prelude.{◌≡◌, ℕ, ◌-◌, ◌≤◌, ◌<◌, length, take, drop, Option}
use Rattle.std.proofs.Math.Path.{ap, subst}
use Rattle.std.proofs.Common.{◌∙◌, arith, length-append, take_at}
use mathlib.Core.List.{List, ◌++◌}
use Rattle.paper.specs.Lists.{each_below, hashes_of}
use Rattle.paper.specs.Text.{clock_text}
use Rattle.paper.specs.Command.{clock_word, clock}
use Rattle.paper.specs.Session.{answer_line, answer, entries}
use Rattle.paper.proofs.Each.{length_each}
use Rattle.tables.specs.Tables.{Tables, actors, graph}
use Rattle.judge.specs.Hub.{hub}
use Rattle.list_clock.specs.Clocks.{clock_entries}
use Rattle.reply.specs.Said.{Said}

-- the clock's entries stand in the first entries of a buffer, and that part is printed
module _ (t : Tables) (bytes buffer : List ℕ) {last : List ℕ} {n : ℕ} (e : last ≡ each_below (clock_entries (graph t) bytes) n) (q : n ≡ actors t) where
  last_long : length last ≡ actors t
  last_long = let m = ap length e ∙ length_each (clock_entries (graph t) bytes) n in omega arith

  pub clock_end : actors t ≤ length (last ++ drop (actors t - 0) buffer)
  clock_end = let l = last_long in let a = length-append last (drop (actors t - 0) buffer) in omega arith

  part_is : take (actors t - 0) (last ++ drop (actors t - 0) buffer) ≡ last
  part_is = take_at last (drop (actors t - 0) buffer) (actors t - 0) (let l = last_long in omega arith)

  pub clock_some : 1 ≤ actors t → 0 < length (take (actors t - 0) (last ++ drop (actors t - 0) buffer))
  clock_some l = let m = ap length part_is ∙ last_long in omega arith

  pub clock_few : actors t ≤ 16 → length (take (actors t - 0) (last ++ drop (actors t - 0) buffer)) ≤ 64
  clock_few l = let m = ap length part_is ∙ last_long in omega arith

  clock_shown : take (actors t - 0) (last ++ drop (actors t - 0) buffer) ≡ entries (hub t) (hashes_of bytes)
  unfolding entries clock_entries
  clock_shown = part_is ∙ e ∙ ap (each_below (clock_entries (graph t) bytes)) q

  pub said_clock : (at : ℕ) (r : Option ℕ) (out₀ out₁ : List ℕ)
      → Said (answer_line clock_word (clock_text (take (actors t - 0) (last ++ drop (actors t - 0) buffer)))) at r out₀ out₁
      → Said (answer (hub t) (clock (hashes_of bytes))) at r out₀ out₁
  unfolding answer
  said_clock at r out₀ out₁ w = subst (λ (c : List ℕ). Said (answer_line clock_word (clock_text c)) at r out₀ out₁) clock_shown w
