-- The clock of a list as an answer, from its condition.
-- Assumes nothing.
use Rattle.std.specs.Prelude.{◌≡◌, List, ◌++◌, ℕ, ◌-◌, ◌%◌, ◌≤◌, length, drop, get_or}
use Rattle.std.proofs.Common.{sym, ap, ◌∙◌, arith, length-append, length-drop, eq-eqb, ne_eqb}
use Rattle.std.proofs.Math.ListN.{get_or-append}
use Rattle.paper.specs.Lists.{each_below}
use Rattle.paper.proofs.Each.{length_each, get_d_each}
use Rattle.tables.specs.Tables.{Tables, graph, actors}
use Rattle.answer_buffer.specs.Answers.{list_answer, filled}
use Rattle.answer_buffer.specs.AnswerLaws.{filled_done}
use Rattle.list_clock.specs.Clocks.{clock_entries, Entries, whole_clock, clock_told, clock_filled}
use Rattle.answer_buffer.specs.declared.Refusal.TheVariants.{Malformed}
use Rattle.std.specs.Prelude.{Err}

module _ (t : Tables) (bytes : List ℕ) where
  pub clock_bad : (length bytes % 32 ≡ 0 → ⊥) → (room : ℕ) → clock_told t bytes room ≡ Err Malformed
  unfolding clock_told
  clock_bad n room = rw (ne_eqb (length bytes % 32) 0 n)

  pub unfilled_bad : (length bytes % 32 ≡ 0 → ⊥) → (out : List ℕ) → clock_filled t bytes out ≡ out
  unfolding clock_filled
  unfilled_bad n out = rw (ne_eqb (length bytes % 32) 0 n)

  pub clock_good : length bytes % 32 ≡ 0 → (room : ℕ) → clock_told t bytes room ≡ list_answer (whole_clock t bytes) room
  unfolding clock_told
  clock_good e room = rw (eq-eqb (length bytes % 32) 0 e)

  pub filled_good : length bytes % 32 ≡ 0 → (out : List ℕ) → clock_filled t bytes out ≡ filled (whole_clock t bytes) out
  unfolding clock_filled
  filled_good e out = rw (eq-eqb (length bytes % 32) 0 e)

pub clock_long : (t : Tables) (bytes : List ℕ) → length (whole_clock t bytes) ≡ actors t
clock_long t bytes = length_each (clock_entries (graph t) bytes) (actors t)

-- the part of the buffer that the clock is written to, and what lies past it
pub clock_seam : (t : Tables) (bytes out : List ℕ) (a : ℕ) → a ≡ actors t → a ≤ length out → {last : List ℕ} {n : ℕ} → last ≡ each_below (clock_entries (graph t) bytes) n → n ≡ a → last ++ drop (a - 0) out ≡ filled (whole_clock t bytes) out
clock_seam t bytes out a e l {last} {n} s q =
    let w : last ≡ whole_clock t bytes = s ∙ ap (each_below (clock_entries (graph t) bytes)) (q ∙ e) in
    let k = clock_long t bytes in
    let z : a - 0 ≡ length (whole_clock t bytes) = omega arith in
    ap (λ (x : List ℕ). x ++ drop (a - 0) out) w ∙ ap (λ (i : ℕ). whole_clock t bytes ++ drop i out) z ∙ sym (filled_done (whole_clock t bytes) out (omega arith))

-- ---- the clock of a list, in the first entries of a table

pub entries_of : (t : Tables) (bytes clock : List ℕ) (a : ℕ) → a ≡ actors t → a ≤ length clock → {last : List ℕ} {n : ℕ} → last ≡ each_below (clock_entries (graph t) bytes) n → n ≡ a → Entries t bytes clock (last ++ drop (a - 0) clock)
entries_of t bytes clock a e l {last} {n} s q =
    let m = ap length s ∙ length_each (clock_entries (graph t) bytes) n in
    record {
      long = simp (length-append, length-drop) (omega arith);
      each = λ i b. get_or-append last (drop (a - 0) clock) 0 i (omega arith) ∙ ap (λ (x : List ℕ). get_or x i 0) s ∙ get_d_each (clock_entries (graph t) bytes) n i (omega arith);
    }
