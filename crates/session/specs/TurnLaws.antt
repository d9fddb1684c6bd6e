-- One turn of the loop: what the answer of `step` makes of the lines that ask.
-- Assumes nothing.
use Rattle.std.specs.Prelude.{◌≡◌, refl, List, ℕ, ◌+◌, ◌≤◌, ◌<◌, length, None, Result, Ok, Err, Option}
use Rattle.std.proofs.Common.{subst}
use Rattle.paper.specs.Command.{command_of}
use Rattle.paper.specs.Session.{bench, asking, bad_text, answers}
use Rattle.text.specs.Parts.{part, parts_from}
use Rattle.text.specs.Answers.{line_at}
use Rattle.text.specs.declared.Cursor.{Cursor}
use Rattle.text.specs.declared.Next.TheVariants.{Whole}
use Rattle.tables.specs.Tables.{Tables, actors}
use Rattle.reply.specs.Said.{Said}
use Rattle.session_line.specs.Step.{tables_after, Stepped}
use Rattle.session_line.specs.declared.NoAnswer.{NoAnswer}
use Rattle.session_line.specs.declared.NoAnswer.TheVariants.{Full, Bad}
use Rattle.session.specs.LineLaws.{line_length, line_bounds}
use Rattle.session.specs.Ask.{Asking, Fresh}
use Rattle.session.specs.AskLaws.{asking_start, asking_bad, asking_full, asking_next}

-- before the third line
pub turn_start : (s out₀ : List ℕ) (t : Tables) (cur : ℕ) → Fresh t → 3 ≤ cur → cur ≤ length s
    → Asking s (answers (asking (bench (actors t))) 3 (parts_from 10 s cur)) out₀ t 3 0 cur out₀
turn_start s out₀ t cur f l i = asking_start s _ out₀ t (bench (actors t)) cur f.same f.valid f.room refl i l

module _ {s text out₀ : List ℕ} {t : Tables} {n at cur : ℕ} {out : List ℕ} (k : Asking s text out₀ t n at cur out) {a e : ℕ} {c : Cursor} (q : line_at s cur ≡ Whole a e c) where
  pub turn_short : length (part s a e) ≤ 2400
  turn_short = line_length (asking k.here) n s cur a e c q

  pub turn_bounds : (a ≤ e) × (e ≤ length s) × (c.at ≤ length s) × (cur < c.at)
  turn_bounds = line_bounds (asking k.here) n s cur a e c q

  module _ (r : Result ℕ NoAnswer) (out₁ : List ℕ) (w : Stepped t (command_of (part s a e)) at r out out₁) where
    pub turn_bad : r ≡ Err Bad → (p : Option ℕ) (out₂ : List ℕ) → Said (bad_text n) at p out₁ out₂ → Said text 0 p out₀ out₂
    turn_bad h p out₂ z =
        let v = subst (λ (x : Result ℕ NoAnswer). Stepped t (command_of (part s a e)) at x out out₁) h w in
        asking_bad s text out₀ t n at cur out k a e c q v.0 p out₂ (subst (λ (o : List ℕ). Said (bad_text n) at p o out₂) v.1 z)

    pub turn_full : r ≡ Err Full → Said text 0 None out₀ out₁
    turn_full h =
        let v = subst (λ (x : Result ℕ NoAnswer). Stepped t (command_of (part s a e)) at x out out₁) h w in
        asking_full s text out₀ t n at cur out k a e c q v.0 out₁ v.1

    pub turn_told : (p : ℕ) → r ≡ Ok p → (t₁ : Tables) → t₁ ≡ tables_after t (command_of (part s a e)) → Asking s text out₀ t₁ (n + 1) p c.at out₁
    turn_told p h t₁ d =
        let v = subst (λ (x : Result ℕ NoAnswer). Stepped t (command_of (part s a e)) at x out out₁) h w in
        asking_next s text out₀ t n at cur out k a e c q v.0 p out₁ t₁ v.1 d
