-- The first two lines.
-- Assumes nothing.
use Rattle.std.specs.Prelude as std
use Rattle.std.proofs.Math.Path.{◌≡◌, sym, ap}
use Rattle.std.specs.Prelude.{refl, List, [], ◌∷◌, ◌++◌, Bool, cond, ◌&&◌, ℕ, suc, ◌≤◌, leb, length, Some, None, Result, Ok, Err}
use Rattle.std.proofs.Common.{◌∙◌, subst, append-nil, arith, le-leb, leb-true}
use Rattle.std.proofs.Math.Bool.{true, false}
use Rattle.std.proofs.Math.Option.{Option, none, some}
use Rattle.std.proofs.Math.Decide.{ℕ_discrete}
use Rattle.paper.specs.Bytes.{bytes}
use Rattle.paper.specs.Lists.{same_list}
use Rattle.paper.specs.Text.{parted, decimal_of, given, next, last}
use Rattle.paper.specs.Command.{header, actors_word, in_range, actors_by, actors_of}
use Rattle.paper.specs.Session.{first, second, asking, ended, bench, bad_text, bad_line, first_line, second_line, short_line, long_line, line_step, ending, answers, session}
use Rattle.text.specs.Answers.{parsed}
use Rattle.text.specs.Parts.{part, parts_from}
use Rattle.text.specs.PartsLaws.{parts_start, part_length_lem, same_lengths}
use Rattle.text.specs.Answers.{line_at}
use Rattle.text.specs.declared.Cursor.{Cursor}
use Rattle.text.specs.declared.Next.TheVariants.{Whole, Unended, TooLong, End}
use Rattle.reply.specs.Said.{Said}
use Rattle.session.specs.Begin.{Inside, Opened, Begun}
use Rattle.session.specs.LineLaws.{line_is, line_end, line_long, line_open, line_length, line_bounds, line_whole}
use Rattle.session.specs.declared.Opening.{Opening}
use Rattle.session.specs.declared.BadLine.{BadLine}

-- after a bad line nothing follows
ended_line : (n : ℕ) (l : List ℕ) → line_step ended n l ≡ record { phase = ended; said = [] }
unfolding line_step short_line long_line
ended_line n l = go (leb (length l) 2400)
  where
    go : (t : Bool) → cond t (short_line ended n l) (long_line ended n) ≡ record { phase = ended; said = [] }
    go true = refl
    go false = refl

pub ended_answers : (n : ℕ) (ls : List (List ℕ)) → answers ended n ls ≡ []
unfolding answers ending
ended_answers n [] = refl
ended_answers n (l ∷ []) = refl
ended_answers n (l ∷ k ∷ ls) = rw (ended_line n l) (ended_answers (suc n) (k ∷ ls))

module _ (l : List ℕ) (short : length l ≤ 2400) (ls : List (List ℕ)) where
  -- the first line is not the header
  pub first_wrong : same_list l header ≡ false → (line_step first 1 l).said ++ answers (line_step first 1 l).phase 2 ls ≡ bad_text 1
  unfolding line_step short_line first_line bad_line
  first_wrong h = rw (le-leb _ _ short, h, ended_answers 2 ls) (append-nil (bad_text 1))

  pub first_right : same_list l header ≡ true → (line_step first 1 l).said ++ answers (line_step first 1 l).phase 2 ls ≡ answers second 2 ls
  unfolding line_step short_line first_line
  first_right h = rw (le-leb _ _ short, h)

  -- the second line does not say how many actors
  pub second_wrong : actors_of l ≡ none → (line_step second 2 l).said ++ answers (line_step second 2 l).phase 3 ls ≡ bad_text 2
  unfolding line_step short_line second_line bad_line
  second_wrong h = rw (le-leb _ _ short, h, ended_answers 3 ls) (append-nil (bad_text 2))

  pub second_right : (n : ℕ) → actors_of l ≡ some n → (line_step second 2 l).said ++ answers (line_step second 2 l).phase 3 ls ≡ answers (asking (bench n)) 3 ls
  unfolding line_step short_line second_line
  second_right n h = rw (le-leb _ _ short, h)

-- ---- the number of actors

actors_some : (o : Option ℕ) (n : ℕ) → parsed o ≡ Some n → o ≡ some n
unfolding parsed
actors_some none n e = cc
actors_some (some m) n e = ap some (cc)

actors_none : (o : Option ℕ) → parsed o ≡ None → o ≡ none
unfolding parsed
actors_none none e = refl
actors_none (some m) e = cc

-- it is 1 to 16
range_of_lem : (v n : ℕ) → in_range v ≡ some n → (1 ≤ n) × (n ≤ 16)
unfolding in_range
range_of_lem v n e = go (leb 1 v) (leb v 16) refl refl e
  where
    go : (x y : Bool) → leb 1 v ≡ x → leb v 16 ≡ y → cond (x && y) (some v) none ≡ some n → (1 ≤ n) × (n ≤ 16)
    go true true p q h = let m : v ≡ n = cc in (omega (arith, leb-true 1 v p), omega (arith, leb-true v 16 q))
    go true false p q h = cc
    go false y p q h = cc

actors_range : (fs : List (List ℕ)) (n : ℕ) → actors_by fs ≡ some n → (1 ≤ n) × (n ≤ 16)
unfolding actors_by next given last
actors_range [] n e = cc
actors_range (w ∷ fs) n e = go (same_list w actors_word) fs e
  where
    value : (o : Option ℕ) (gs : List (List ℕ)) → given none o (λ v. last none gs (in_range v)) ≡ some n → (1 ≤ n) × (n ≤ 16)
    value none gs h = cc
    value (some v) [] h = range_of_lem v n h
    value (some v) (g ∷ gs) h = cc

    go : (t : Bool) (gs : List (List ℕ)) → cond t (next none decimal_of gs (λ v hs. last none hs (in_range v))) none ≡ some n → (1 ≤ n) × (n ≤ 16)
    go false gs h = cc
    go true [] h = cc
    go true (g ∷ gs) h = value (decimal_of g) gs h

-- ---- one line after the other

module _ (s : List ℕ) (a e : ℕ) (c : Cursor) (i : Inside s a e c) where
  pub second_opens : 3 ≤ c.at → (n : ℕ) → parsed (actors_of (part s a e)) ≡ Some n
      → Opened ((line_step second 2 (part s a e)).said ++ answers (line_step second 2 (part s a e)).phase 3 (parts_from 10 s c.at)) s n c
  unfolding actors_of
  second_opens l n h =
      let o = actors_some (actors_of (part s a e)) n h in
      let r = actors_range (parted 9 (part s a e)) n o in
      record { is = second_right (part s a e) i.short (parts_from 10 s c.at) n o; low = r.0; high = r.1; inside = i.next; far = l }

  pub second_bad : parsed (actors_of (part s a e)) ≡ None
      → (line_step second 2 (part s a e)).said ++ answers (line_step second 2 (part s a e)).phase 3 (parts_from 10 s c.at) ≡ bad_text 2
  second_bad h = second_wrong (part s a e) i.short (parts_from 10 s c.at) (actors_none (actors_of (part s a e)) h)

  pub first_bad : same_list (part s a e) header ≡ false → (line_step first 1 (part s a e)).said ++ answers (line_step first 1 (part s a e)).phase 2 (parts_from 10 s c.at) ≡ bad_text 1
  first_bad h = first_wrong (part s a e) i.short (parts_from 10 s c.at) h

  module _ (h : same_list (part s a e) header ≡ true) where
    then_second : (line_step first 1 (part s a e)).said ++ answers (line_step first 1 (part s a e)).phase 2 (parts_from 10 s c.at) ≡ answers second 2 (parts_from 10 s c.at)
    then_second = first_right (part s a e) i.short (parts_from 10 s c.at) h

    pub then_open : line_at s c.at ≡ Unended → (line_step first 1 (part s a e)).said ++ answers (line_step first 1 (part s a e)).phase 2 (parts_from 10 s c.at) ≡ bad_text 2
    then_open q = then_second ∙ line_open second 2 s c.at refl q

    pub then_long : line_at s c.at ≡ TooLong → (line_step first 1 (part s a e)).said ++ answers (line_step first 1 (part s a e)).phase 2 (parts_from 10 s c.at) ≡ bad_text 2
    then_long q = then_second ∙ line_long second 2 s c.at refl q

    pub then_end : line_at s c.at ≡ End → (line_step first 1 (part s a e)).said ++ answers (line_step first 1 (part s a e)).phase 2 (parts_from 10 s c.at) ≡ bad_text 2
    unfolding ending
    then_end q = then_second ∙ line_end second 2 s c.at i.next q

    -- the header has 13 bytes
    pub second_far : (b f : ℕ) (d : Cursor) → line_at s c.at ≡ Whole b f d → 3 ≤ d.at
    unfolding header bytes
    second_far b f d q = elim (ℕ_discrete (length (part s a e)) 13) [
      | yes l ↦ omega (arith, part_length_lem s a e i.order i.low, i.past, (line_bounds first 1 s c.at b f d q).3)
      | no n ↦ (let z : ◌≡◌ {A = Bool} true false = sym h ∙ same_lengths (part s a e) header n in let y : ◌≡◌ {A = ℕ} 0 1 = cc in absurd (omega arith))
    ]

    pub then_line : (b f : ℕ) (d : Cursor) → line_at s c.at ≡ Whole b f d → (r : Result Opening BadLine)
        → Begun ((line_step second 2 (part s b f)).said ++ answers (line_step second 2 (part s b f)).phase 3 (parts_from 10 s d.at)) s r
        → Begun ((line_step first 1 (part s a e)).said ++ answers (line_step first 1 (part s a e)).phase 2 (parts_from 10 s c.at)) s r
    then_line b f d q r t = subst (λ (x : List ℕ). Begun x s r) (sym (then_second ∙ line_whole second 2 s c.at b f d q)) t

-- a whole line lies inside
pub line_inside : (s : List ℕ) (at a e : ℕ) (c : Cursor) → line_at s at ≡ Whole a e c → Inside s a e c
line_inside s at a e c q =
    let b = line_bounds first 1 s at a e c q in
    let m = line_is first 1 s at a e c q in
    record { order = b.0; low = b.1; past = omega (arith, m.end, m.next); next = b.2; short = line_length first 1 s at a e c q }

-- from the start
module _ (s : List ℕ) where
  start : session s ≡ answers first 1 (parts_from 10 s 0)
  unfolding session
  start = ap (answers first 1) (parts_start 10 s)

  pub begin_open : line_at s 0 ≡ Unended → session s ≡ bad_text 1
  begin_open q = start ∙ line_open first 1 s 0 refl q

  pub begin_long : line_at s 0 ≡ TooLong → session s ≡ bad_text 1
  begin_long q = start ∙ line_long first 1 s 0 refl q

  pub begin_end : line_at s 0 ≡ End → session s ≡ bad_text 1
  unfolding ending
  begin_end q = start ∙ line_end first 1 s 0 (omega arith) q

  pub begin_line : (b f : ℕ) (d : Cursor) → line_at s 0 ≡ Whole b f d → (r : Result Opening BadLine)
      → Begun ((line_step first 1 (part s b f)).said ++ answers (line_step first 1 (part s b f)).phase 2 (parts_from 10 s d.at)) s r
      → Begun (session s) s r
  begin_line b f d q r t = subst (λ (x : List ℕ). Begun x s r) (sym (start ∙ line_whole first 1 s 0 b f d q)) t

-- ---- what reading them says, by its answer

module _ (text s : List ℕ) (r : Result Opening BadLine) (b : Begun text s r) where
  pub begun_opens : (o : Opening) → r ≡ Ok o → Opened text s o.actors o.next
  begun_opens o e = subst (Begun text s) e b

  module _ (p : std.Option ℕ) (out₀ out₁ : List ℕ) where
    -- the lines that ask were answered
    pub begun_asked : (o : Opening) → r ≡ Ok o → Said (answers (asking (bench o.actors)) 3 (parts_from 10 s o.next.at)) 0 p out₀ out₁ → Said text 0 p out₀ out₁
    begun_asked o e = subst (λ (x : List ℕ). Said x 0 p out₀ out₁) (sym (begun_opens o e).is)

    -- the bad line was named
    pub begun_bad : (k : BadLine) → r ≡ Err k → Said (bad_text k.number) 0 p out₀ out₁ → Said text 0 p out₀ out₁
    begun_bad k e = let q : text ≡ bad_text k.number = subst (Begun text s) e b in subst (λ (x : List ℕ). Said x 0 p out₀ out₁) (sym q)
