-- What each kind of line gives.
-- Assumes nothing.
use Rattle.std.specs.Prelude.{◌≡◌, true, ◌&&◌, ℕ, ◌*◌, ◌-◌, ◌%◌, ◌≤◌, take, Option, Some, None, Result, Err}
use Rattle.std.proofs.Math.Path.{refl, sym, ap}
use Rattle.std.proofs.Common.{ap₂, ◌∙◌, subst, arith}
use mathlib.Core.List.{List, [], ◌++◌, append-nil}
use Rattle.std.proofs.Math.ListN.{length, drop, drop_of_length-le}
use borrow.Author.Tests.{eqb-true}
use Rattle.paper.specs.Lists.{hashes_of, every}
use Rattle.paper.specs.Adding.{Change, judged}
use Rattle.paper.specs.Command.{Command, heads, clock, missing, owner, add, add_word}
use Rattle.paper.specs.Session.{answer_line, verdict_text, answer, change_of}
use Rattle.paper.proofs.Bools.{and_fst, and_snd}
use Rattle.answer_buffer.specs.AnswerLaws.{over_front}
use Rattle.answer_buffer.specs.Entering.{Wide}
use Rattle.tables.specs.Tables.{Tables}
use Rattle.judge.specs.Judge.{change}
use Rattle.judge.specs.Hub.{hub}
use Rattle.graph.specs.Place.{added_tables}
use Rattle.command.specs.Answers.{hash_after, Answered}
use Rattle.command.specs.declared.Line.{Line}
use Rattle.command.specs.declared.Line.TheVariants as line
use Rattle.reply.specs.Said.{Said}
use Rattle.session_line.specs.declared.NoAnswer.{NoAnswer}
use Rattle.session_line.specs.declared.NoAnswer.TheVariants.{Bad}
use Rattle.session_line.specs.Lines.{told_of}
use Rattle.session_line.specs.SizeLaws.{full, sized}
use Rattle.session_line.specs.ReadLaws.{hash_in_command, list_in, many_in, again, asked, list_room, list_part, list_whole, list_back}
use Rattle.session_line.specs.Step.{tables_after, good, Stepped}

-- an answer that is written, or does not fit
stepped : (t : Tables) (x : Command) (at : ℕ) (out₀ out₁ : List ℕ) (p : Option ℕ) → good x ≡ true → Said (answer (hub t) x) at p out₀ out₁ → Stepped t x at (told_of p) out₀ out₁
stepped t x at out₀ out₁ (Some n) g s = (g, s)
stepped t x at out₀ out₁ None g s = (g, s)

module _ (t : Tables) {x : Command} {r : Option Line} {hash₀ hash₁ list₀ list₁ : List ℕ} (w : Answered x r hash₀ hash₁ list₀ list₁) (size : sized x ≡ true) where
  -- a command of another name
  module _ {y : Command} (e : x ≡ y) (g : good y ≡ true) (at : ℕ) (p : Option ℕ) (out₀ out₁ : List ℕ) where
    told : (z : Result ℕ NoAnswer) → z ≡ told_of p → Said (answer (hub t) y) at p out₀ out₁ → Stepped t x at z out₀ out₁
    told z q s = subst (λ (i : Result ℕ NoAnswer). Stepped t x at i out₀ out₁) (sym q) (stepped t x at out₀ out₁ p (ap good e ∙ g) (subst (λ (i : Command). Said (answer (hub t) i) at p out₀ out₁) (sym e) s))

  pub bad_arm : r ≡ None → (at : ℕ) (out : List ℕ) → Stepped t x at (Err Bad) out out
  unfolding again
  bad_arm e at out = (asked w None e, refl)

  pub bad_tables : r ≡ None → t ≡ tables_after t x
  unfolding again tables_after
  bad_tables e = sym (ap (tables_after t) (asked w None e))

  pub heads_arm : r ≡ Some line.Heads → (at : ℕ) (p : Option ℕ) (out₀ out₁ : List ℕ) (z : Result ℕ NoAnswer) → z ≡ told_of p → Said (answer (hub t) heads) at p out₀ out₁ → Stepped t x at z out₀ out₁
  unfolding again
  heads_arm e at p out₀ out₁ z q s = told (asked w (Some line.Heads) e) refl at p out₀ out₁ z q s

  pub heads_tables : r ≡ Some line.Heads → t ≡ tables_after t x
  unfolding again tables_after
  heads_tables e = sym (ap (tables_after t) (asked w (Some line.Heads) e))

  module _ (a c : ℕ) (e : r ≡ Some (line.Owner a c)) where
    pub owner_arm : (at : ℕ) (p : Option ℕ) (out₀ out₁ : List ℕ) (z : Result ℕ NoAnswer) → z ≡ told_of p → Said (answer (hub t) (owner a c)) at p out₀ out₁ → Stepped t x at z out₀ out₁
    unfolding again
    owner_arm at p out₀ out₁ z q s = told (asked w (Some (line.Owner a c)) e) refl at p out₀ out₁ z q s

    pub owner_tables : t ≡ tables_after t x
    unfolding again tables_after
    owner_tables = sym (ap (tables_after t) (asked w (Some (line.Owner a c)) e))

  module _ (n : ℕ) (e : r ≡ Some (line.Clock n)) where
    clock_wide : Wide (list_in x)
    unfolding again sized
    clock_wide = ap sized (sym (asked w (Some (line.Clock n)) e)) ∙ size

    many : many_in (Some (line.Clock n)) ≡ n
    unfolding many_in
    many = refl

    pub clock_room : 32 * n ≤ length list₁
    clock_room = list_room w (Some (line.Clock n)) e clock_wide n many

    pub clock_arm : (at : ℕ) (p : Option ℕ) (out₀ out₁ : List ℕ) (z : Result ℕ NoAnswer) → z ≡ told_of p → Said (answer (hub t) (clock (hashes_of (take (32 * n - 0) list₁)))) at p out₀ out₁ → Stepped t x at z out₀ out₁
    unfolding again
    clock_arm at p out₀ out₁ z q s =
        told (asked w (Some (line.Clock n)) e) refl at p out₀ out₁ z q (subst (λ (hs : List (List ℕ)). Said (answer (hub t) (clock hs)) at p out₀ out₁) (list_back w (Some (line.Clock n)) e clock_wide n many) s)

    pub clock_tables : t ≡ tables_after t x
    unfolding again tables_after
    clock_tables = sym (ap (tables_after t) (asked w (Some (line.Clock n)) e))

  module _ (n : ℕ) (e : r ≡ Some (line.Missing n)) where
    missing_wide : Wide (list_in x)
    unfolding again sized
    missing_wide = ap sized (sym (asked w (Some (line.Missing n)) e)) ∙ size

    missing_many : many_in (Some (line.Missing n)) ≡ n
    unfolding many_in
    missing_many = refl

    pub missing_room : 32 * n ≤ length list₁
    missing_room = list_room w (Some (line.Missing n)) e missing_wide n missing_many

    pub missing_whole : length (take (32 * n - 0) list₁) % 32 ≡ 0
    missing_whole = list_whole w (Some (line.Missing n)) e missing_wide n missing_many

    pub missing_arm : (at : ℕ) (p : Option ℕ) (out₀ out₁ : List ℕ) (z : Result ℕ NoAnswer) → z ≡ told_of p → Said (answer (hub t) (missing (hashes_of (take (32 * n - 0) list₁)))) at p out₀ out₁ → Stepped t x at z out₀ out₁
    unfolding again
    missing_arm at p out₀ out₁ z q s =
        told (asked w (Some (line.Missing n)) e) refl at p out₀ out₁ z q (subst (λ (hs : List (List ℕ)). Said (answer (hub t) (missing hs)) at p out₀ out₁) (list_back w (Some (line.Missing n)) e missing_wide n missing_many) s)

    pub missing_tables : t ≡ tables_after t x
    unfolding again tables_after
    missing_tables = sym (ap (tables_after t) (asked w (Some (line.Missing n)) e))

  module _ (a s m k n : ℕ) (e : r ≡ Some (line.Add a s m k n)) where
    adding : x ≡ add (hash_in_command x) a s m k (list_in x)
    unfolding again
    adding = asked w (Some (line.Add a s m k n)) e

    add_sized : (full (hash_in_command x) && every full (list_in x)) ≡ true
    unfolding sized
    add_sized = ap sized (sym adding) ∙ size

    add_wide : Wide (list_in x)
    add_wide = and_snd (full (hash_in_command x)) (every full (list_in x)) add_sized

    add_many : many_in (Some (line.Add a s m k n)) ≡ n
    unfolding many_in
    add_many = refl

    pub add_room : 32 * n ≤ length list₁
    add_room = list_room w (Some (line.Add a s m k n)) e add_wide n add_many

    -- the hash fills its buffer
    hash_is : length hash₀ ≡ 32 → hash₁ ≡ hash_in_command x
    unfolding hash_after
    hash_is l =
        let h = eqb-true (length (hash_in_command x)) 32 (and_fst (full (hash_in_command x)) (every full (list_in x)) add_sized) in
        let z : drop (length (hash_in_command x)) hash₀ ≡ [] = drop_of_length-le hash₀ {i = length (hash_in_command x)} (omega arith) in
        w.hash ∙ ap (λ (i : Command). hash_after i hash₀) adding ∙ over_front (hash_in_command x) hash₀ ∙ ap (λ (y : List ℕ). hash_in_command x ++ y) z ∙ append-nil (hash_in_command x)

    same_change : length hash₀ ≡ 32 → change hash₁ a s m k (take (32 * n - 0) list₁) ≡ change_of (hash_in_command x) a s m k (list_in x)
    same_change l = ap₂ (λ (h d : List ℕ). change h a s m k d) (hash_is l) (list_part w (Some (line.Add a s m k n)) e add_wide n add_many)

    pub add_arm : length hash₀ ≡ 32 → (at : ℕ) (p : Option ℕ) (out₀ out₁ : List ℕ) (z : Result ℕ NoAnswer) → z ≡ told_of p
        → Said (answer_line add_word (verdict_text (change hash₁ a s m k (take (32 * n - 0) list₁)) (judged (hub t) (change hash₁ a s m k (take (32 * n - 0) list₁))))) at p out₀ out₁
        → Stepped t x at z out₀ out₁
    unfolding answer
    add_arm l at p out₀ out₁ z q y =
        told adding refl at p out₀ out₁ z q (subst (λ (i : Change). Said (answer_line add_word (verdict_text i (judged (hub t) i))) at p out₀ out₁) (same_change l) y)

    pub add_tables_lem : length hash₀ ≡ 32 → (u : Tables) → u ≡ added_tables t (change hash₁ a s m k (take (32 * n - 0) list₁)) → u ≡ tables_after t x
    unfolding tables_after
    add_tables_lem l u q = q ∙ ap (added_tables t) (same_change l) ∙ sym (ap (tables_after t) adding)
