-- A line written in three parts, one after the other.
-- Assumes nothing.
use Rattle.std.specs.Prelude.{◌≡◌, List, [], ◌∷◌, ◌++◌, ℕ, ◌+◌, ◌<◌, ◌≤◌, length, Option, Some, None}
use Rattle.std.proofs.Math.Path.{refl}
use Rattle.std.proofs.Common.{ap, ◌∙◌, arith, length-append}
use Rattle.std.proofs.lemmas.Bool.{lt-leb}
use Rattle.list_laws.specs.Over.{over_length}
use Rattle.paper.specs.Bytes.{bytes}
use Rattle.paper.specs.Text.{digits_by, digits_of}
use Rattle.paper.specs.Command.{heads_word, clock_word, missing_word, owner_word, add_word}
use Rattle.paper.specs.Session.{answer_line, bad_text}
use Rattle.print.specs.Print.{put_answer, put_buffer, Written}
use Rattle.print.specs.ThenLaws.{fitted, not_fitted, then_next, then_full}
use Rattle.reply.specs.Said.{Said}

written_size : (bs : List ℕ) (at : ℕ) (r : Option ℕ) (out₀ out₁ : List ℕ) → Written bs at r out₀ out₁ → length out₁ ≡ length out₀
unfolding put_buffer put_answer
written_size bs at (Some p) out₀ out₁ w = let f = fitted bs at p out₀ out₁ w in ap length f.is ∙ over_length out₀ at bs f.fits
written_size bs at None out₀ out₁ w =
    let f = not_fitted bs at out₀ out₁ w in
    let e : out₁ ≡ out₀ = w.buffer ∙ rw (lt-leb _ _ f) in
    ap length e

-- a text written at once
pub said_written : (bs : List ℕ) (at : ℕ) (r : Option ℕ) (out₀ out₁ : List ℕ) → Written bs at r out₀ out₁ → Said bs at r out₀ out₁
said_written bs at (Some p) out₀ out₁ w = record { answer = w.answer; buffer = λ q e. (fitted bs at p out₀ out₁ w).is; size = written_size bs at (Some p) out₀ out₁ w }
said_written bs at None out₀ out₁ w = record { answer = w.answer; buffer = λ q e. cc; size = written_size bs at None out₀ out₁ w }

-- what does not fit
full : (text : List ℕ) (at : ℕ) (out₀ out₁ : List ℕ) → None ≡ put_answer text at (length out₀) → length out₁ ≡ length out₀ → Said text at None out₀ out₁
full text at out₀ out₁ a s = record { answer = a; buffer = λ q e. cc; size = s }

too_long : (text : List ℕ) (at room : ℕ) → room < at + length text → None ≡ put_answer text at room
unfolding put_answer
too_long text at room l = rw (lt-leb _ _ l)

-- the text is a, then b, then c
pub record Thrice (text a b c : List ℕ) : Type 0 where
  pub are : text ≡ (a ++ b) ++ c

module _ (text a b c : List ℕ) (whole : Thrice text a b c) (at : ℕ) (out₀ out₁ : List ℕ) where
  are : text ≡ (a ++ b) ++ c
  are = whole.are

  pub first_full : Written a at None out₀ out₁ → Said text at None out₀ out₁
  first_full w =
      let l = not_fitted a at out₀ out₁ w in
      let n = length-append (a ++ b) c in
      let m = length-append a b in
      full text at out₀ out₁ (too_long text at (length out₀) (omega (arith, ap length are))) (written_size a at None out₀ out₁ w)

  module _ (p : ℕ) (first : Written a at (Some p) out₀ out₁) (out₂ : List ℕ) where
    pub second_full : Written b p None out₁ out₂ → Said text at None out₀ out₂
    second_full w =
        let f = fitted a at p out₀ out₁ first in
        let l = not_fitted b p out₁ out₂ w in
        let s = written_size a at (Some p) out₀ out₁ first in
        let n = length-append (a ++ b) c in
        let m = length-append a b in
        full text at out₀ out₂ (too_long text at (length out₀) (omega (arith, ap length are, f.place))) (written_size b p None out₁ out₂ w ∙ s)

    module _ (q : ℕ) (second : Written b p (Some q) out₁ out₂) (out₃ : List ℕ) where
      both : Written (a ++ b) at (Some q) out₀ out₂
      both = then_next a b at p out₀ out₁ out₂ first q second

      pub third : (r : Option ℕ) → Written c q r out₂ out₃ → Said text at r out₀ out₃
      third (Some z) w = rw are (said_written ((a ++ b) ++ c) at (Some z) out₀ out₃ (then_next (a ++ b) c at q out₀ out₂ out₃ both z w))
      third None w =
          full text at out₀ out₃ (rw are (then_full (a ++ b) c at q out₀ out₂ out₃ both w))
          (written_size c q None out₂ out₃ w ∙ written_size (a ++ b) at (Some q) out₀ out₂ both)

-- the place past a text lies in the buffer
pub next_room : (bs : List ℕ) (at p : ℕ) (out₀ out₁ : List ℕ) → Written bs at (Some p) out₀ out₁ → p ≤ length out₁
next_room bs at p out₀ out₁ w = let f = fitted bs at p out₀ out₁ w in omega (arith, f.place, f.fits, written_size bs at (Some p) out₀ out₁ w)

-- the parts of each line
pub bad_parts : (n : ℕ) → Thrice (bad_text n) (98 ∷ 97 ∷ 100 ∷ 9 ∷ []) (digits_of n) (10 ∷ [])
unfolding bad_text answer_line bytes
bad_parts n = record { are = refl }

module _ (t : List ℕ) where
  pub heads_parts : Thrice (answer_line heads_word t) (104 ∷ 101 ∷ 97 ∷ 100 ∷ 115 ∷ 9 ∷ []) t (10 ∷ [])
  unfolding answer_line heads_word bytes
  heads_parts = record { are = refl }

  pub clock_parts : Thrice (answer_line clock_word t) (99 ∷ 108 ∷ 111 ∷ 99 ∷ 107 ∷ 9 ∷ []) t (10 ∷ [])
  unfolding answer_line clock_word bytes
  clock_parts = record { are = refl }

  pub missing_parts : Thrice (answer_line missing_word t) (109 ∷ 105 ∷ 115 ∷ 115 ∷ 105 ∷ 110 ∷ 103 ∷ 9 ∷ []) t (10 ∷ [])
  unfolding answer_line missing_word bytes
  missing_parts = record { are = refl }

  pub owner_parts : Thrice (answer_line owner_word t) (111 ∷ 119 ∷ 110 ∷ 101 ∷ 114 ∷ 9 ∷ []) t (10 ∷ [])
  unfolding answer_line owner_word bytes
  owner_parts = record { are = refl }

  pub add_parts : Thrice (answer_line add_word t) (97 ∷ 100 ∷ 100 ∷ 9 ∷ []) t (10 ∷ [])
  unfolding answer_line add_word bytes
  add_parts = record { are = refl }

  pub unknown_parts : Thrice (answer_line add_word (digits_of 4 ++ (9 ∷ t))) (97 ∷ 100 ∷ 100 ∷ 9 ∷ 52 ∷ 9 ∷ []) t (10 ∷ [])
  unfolding answer_line add_word bytes digits_of digits_by
  unknown_parts = record { are = refl }

pub no_owner_whole : answer_line owner_word (digits_of 14) ≡ 111 ∷ 119 ∷ 110 ∷ 101 ∷ 114 ∷ 9 ∷ 49 ∷ 52 ∷ 10 ∷ []
unfolding answer_line owner_word bytes digits_of digits_by
no_owner_whole = refl
