-- The lines that ask, one after the other: the start, each kind of line, and the end.
-- Assumes nothing.
use Rattle.std.proofs.Math.Path.{◌≡◌, ap}
use Rattle.std.specs.Prelude.{refl, Bool, true, false, cond, ℕ, suc, ◌+◌, ◌≤◌, ◌<◌, leb, Some, None, Option}
use Rattle.std.proofs.Common.{sym, ◌∙◌, subst, add-one, arith}
use mathlib.Core.List.{List, [], ◌++◌, append-nil, append_assoc}
use Rattle.std.proofs.Math.ListN.{length, length-append}
use borrow.Author.Tests.{le-leb, lt-leb, leb-true, leb-false}
use Rattle.paper.specs.Adding.{Hub}
use Rattle.paper.specs.Command.{Command, heads, clock, missing, owner, add, bad, command_of}
use Rattle.paper.specs.Session.{asking, bad_text, bad_line, answer, after_command, asked_line, short_line, line_step, ending, answers}
use Rattle.paper.proofs.Same.{SameHub, hub_trans}
use Rattle.list_laws.specs.Over.{over_none, over_over}
use Rattle.text.specs.Parts.{part, parts_from}
use Rattle.text.specs.Answers.{line_at}
use Rattle.text.specs.declared.Cursor.{Cursor}
use Rattle.text.specs.declared.Next.TheVariants.{Whole, Unended, TooLong, End}
use Rattle.tables.specs.Tables.{Tables}
use Rattle.tables.specs.Valid.{Valid}
use Rattle.tables.specs.DepsLaws.{valid_graph}
use Rattle.judge.specs.Hub.{hub}
use Rattle.print.specs.Print.{put_answer}
use Rattle.reply.specs.Said.{Said}
use Rattle.session_line.specs.Step.{tables_after, Bench, good}
use Rattle.session_line.specs.StepLaws.{after_hub, after_valid, after_bench}
use Rattle.session.specs.LineLaws.{line_end, line_long, line_open, line_length, line_bounds, line_whole}
use Rattle.session.specs.BeginLaws.{ended_answers}
use Rattle.session.specs.SameLaws.{sym_hub, answer_same, after_same}
use Rattle.session.specs.Ask.{Asking}

-- ---- what a put's answer says

pub put_next : (bs : List ℕ) (at room p : ℕ) → Some p ≡ put_answer bs at room → (at + length bs ≤ room) × (p ≡ at + length bs)
unfolding put_answer
put_next bs at room p e = go (leb (at + length bs) room) refl e
  where
    go : (t : Bool) → leb (at + length bs) room ≡ t → Some p ≡ cond t (Some (at + length bs)) None → (at + length bs ≤ room) × (p ≡ at + length bs)
    go true l q = (leb-true _ _ l, cc)
    go false l q = cc

pub put_full : (bs : List ℕ) (at room : ℕ) → None ≡ put_answer bs at room → room < at + length bs
unfolding put_answer
put_full bs at room e = go (leb (at + length bs) room) refl e
  where
    go : (t : Bool) → leb (at + length bs) room ≡ t → None ≡ cond t (Some (at + length bs)) None → room < at + length bs
    go true l q = cc
    go false l q = leb-false _ _ l

same_put : (bs cs : List ℕ) (at bt room : ℕ) → at + length bs ≡ bt + length cs → put_answer bs at room ≡ put_answer cs bt room
unfolding put_answer
same_put bs cs at bt room e = ap (λ (m : ℕ). cond (leb m room) (Some m) None) e

-- ---- a line that asks

asked_good : (n : ℕ) (u : Hub) (x : Command) → good x ≡ true → asked_line n u x ≡ record { phase = asking (after_command u x); said = answer u x }
unfolding asked_line
asked_good n u heads g = refl
asked_good n u (clock hs) g = refl
asked_good n u (missing hs) g = refl
asked_good n u (owner a c) g = refl
asked_good n u (add h a s m k ds) g = refl
asked_good n u bad g = cc

module _ (n : ℕ) (u : Hub) (l : List ℕ) (short : length l ≤ 2400) where
  step_good : good (command_of l) ≡ true → line_step (asking u) n l ≡ record { phase = asking (after_command u (command_of l)); said = answer u (command_of l) }
  unfolding line_step short_line
  step_good g = rw (le-leb _ _ short) (asked_good n u (command_of l) g)

  step_bad : command_of l ≡ bad → line_step (asking u) n l ≡ bad_line n
  unfolding line_step short_line asked_line
  step_bad e = rw (le-leb _ _ short, e)

-- ---- the start

pub asking_start : (s text out₀ : List ℕ) (t : Tables) (u : Hub) (cur : ℕ) → SameHub (hub t) u → Valid t → Bench (hub t)
    → text ≡ answers (asking u) 3 (parts_from 10 s cur) → cur ≤ length s → 3 ≤ cur → Asking s text out₀ t 3 0 cur out₀
asking_start s text out₀ t u cur e v b r i l =
    record { here = u; same = e; valid = v; room = b; done = []; place = refl; fits = omega arith; is = sym (over_none out₀ 0); size = refl; rest = r; inside = i; low = l }

module _ (s text out₀ : List ℕ) (t : Tables) (n at cur : ℕ) (out : List ℕ) (k : Asking s text out₀ t n at cur out) where
  -- what is written after what was said so far
  compose : (bs : List ℕ) (r : Option ℕ) (out₁ : List ℕ) → Said bs at r out out₁ → Said (k.done ++ bs) 0 r out₀ out₁
  compose bs r out₁ w =
      let m : at + length bs ≡ 0 + length (k.done ++ bs) = omega (arith, k.place, length-append k.done bs) in
      record {
        answer = w.answer ∙ ap (put_answer bs at) k.size ∙ same_put bs (k.done ++ bs) at 0 (length out₀) m;
        buffer =
            λ p e.
            let f = put_next bs at (length out) p (sym e ∙ w.answer) in
            let q : at ≡ 0 + length k.done = omega (arith, k.place) in
            w.buffer p e ∙ rw (k.is, q) (over_over out₀ 0 k.done bs (omega (arith, f.0, k.place, k.size)));
        size = w.size ∙ k.size;
      }

  -- nothing follows
  pub asking_end : line_at s cur ≡ End → Said text 0 (Some at) out₀ out
  unfolding ending put_answer
  asking_end e =
      let q : text ≡ k.done = k.rest ∙ ap (k.done ++◌) (line_end (asking k.here) n s cur k.inside e) ∙ append-nil k.done in
      let p : at ≡ 0 + length k.done = omega (arith, k.place) in
      let f : 0 + length k.done ≤ length out₀ = omega (arith, k.place, k.fits) in
      rw q (record { answer = rw (p, le-leb (0 + length k.done) (length out₀) f); buffer = λ z h. k.is; size = k.size })

  -- the line is bad: it has no end, or is too long, or says nothing known
  ends_bad : answers (asking k.here) n (parts_from 10 s cur) ≡ bad_text n → (r : Option ℕ) (out₁ : List ℕ) → Said (bad_text n) at r out out₁ → Said text 0 r out₀ out₁
  ends_bad e r out₁ w = rw (k.rest, e) (compose (bad_text n) r out₁ w)

  pub asking_open : line_at s cur ≡ Unended → (r : Option ℕ) (out₁ : List ℕ) → Said (bad_text n) at r out out₁ → Said text 0 r out₀ out₁
  asking_open e = ends_bad (line_open (asking k.here) n s cur refl e)

  pub asking_long : line_at s cur ≡ TooLong → (r : Option ℕ) (out₁ : List ℕ) → Said (bad_text n) at r out out₁ → Said text 0 r out₀ out₁
  asking_long e = ends_bad (line_long (asking k.here) n s cur refl e)

  module _ (a e : ℕ) (c : Cursor) (q : line_at s cur ≡ Whole a e c) where
    short : length (part s a e) ≤ 2400
    short = line_length (asking k.here) n s cur a e c q

    pub asking_bad : command_of (part s a e) ≡ bad → (r : Option ℕ) (out₁ : List ℕ) → Said (bad_text n) at r out out₁ → Said text 0 r out₀ out₁
    unfolding bad_line
    asking_bad h =
        ends_bad
        (line_whole (asking k.here) n s cur a e c q
        ∙ rw (step_bad n k.here (part s a e) short h, ended_answers (suc n) (parts_from 10 s c.at)) (append-nil (bad_text n)))

    module _ (g : good (command_of (part s a e)) ≡ true) where
      -- the answer of the line, over the tables, and what follows
      next_rest : text ≡ (k.done ++ answer (hub t) (command_of (part s a e))) ++ answers (asking (after_command k.here (command_of (part s a e)))) (suc n) (parts_from 10 s c.at)
      next_rest =
          k.rest
          ∙ ap (k.done ++◌)
          (line_whole (asking k.here) n s cur a e c q
          ∙ rw (
            step_good n k.here (part s a e) short g,
            answer_same (hub t) k.here k.same (valid_graph t k.valid.sound) (command_of (part s a e)),
          ))
          ∙ sym (append_assoc k.done (answer (hub t) (command_of (part s a e))) (answers (asking (after_command k.here (command_of (part s a e)))) (suc n) (parts_from 10 s c.at)))

      -- the answer does not fit
      pub asking_full : (out₁ : List ℕ) → Said (answer (hub t) (command_of (part s a e))) at None out out₁ → Said text 0 None out₀ out₁
      unfolding put_answer
      asking_full out₁ w =
          let f = put_full (answer (hub t) (command_of (part s a e))) at (length out) w.answer in
          let more = answers (asking (after_command k.here (command_of (part s a e)))) (suc n) (parts_from 10 s c.at) in
          let n₁ = ap length next_rest in
          let n₂ = length-append (k.done ++ answer (hub t) (command_of (part s a e))) more in
          let n₃ = length-append k.done (answer (hub t) (command_of (part s a e))) in
          let l : length out₀ < 0 + length text = omega (arith, k.place, k.size) in
          record { answer = rw (lt-leb (0 + length text) (length out₀) l); buffer = λ p h. (cc); size = w.size ∙ k.size }

      -- it fits, and the next line follows
      pub asking_next : (p : ℕ) (out₁ : List ℕ) (t₁ : Tables) → Said (answer (hub t) (command_of (part s a e))) at (Some p) out out₁ → t₁ ≡ tables_after t (command_of (part s a e))
          → Asking s text out₀ t₁ (n + 1) p c.at out₁
      asking_next p out₁ t₁ w h =
          let x = command_of (part s a e) in
          let f = put_next (answer (hub t) x) at (length out) p w.answer in
          let b = line_bounds (asking k.here) n s cur a e c q in
          let d = compose (answer (hub t) x) (Some p) out₁ w in
          let m = length-append k.done (answer (hub t) x) in
          subst (λ (t₂ : Tables). Asking s text out₀ t₂ (n + 1) p c.at out₁) (sym h)
          (record {
            here = after_command k.here x;
            same = hub_trans (sym_hub (after_command (hub t) x) (hub (tables_after t x)) (after_hub t k.valid x)) (after_same (hub t) k.here k.same x);
            valid = after_valid t k.valid x;
            room = after_bench t k.valid x k.room;
            done = k.done ++ answer (hub t) x;
            place = omega (arith, f.1, k.place);
            fits = omega (arith, f.0, f.1, k.size);
            is = d.buffer p refl;
            size = d.size;
            rest = rw (add-one n) next_rest;
            inside = b.2;
            low = omega (arith, k.low, b.3);
          })
