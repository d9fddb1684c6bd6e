-- Lists of hashes as bytes: what was listed is read back from the buffer.
-- Assumes nothing.
use Rattle.std.specs.Prelude.{◌≡◌, List, [], ◌++◌, ℕ, ◌*◌, ◌/◌, ◌≤◌, length, drop}
use Rattle.std.proofs.Math.Path.{refl}
use Rattle.std.proofs.Common.{sym, ap, ap₂, ◌∙◌, append-nil, arith, length-append}
use Rattle.paper.specs.Lists.{hashes_from, hashes_of}
use Rattle.paper.specs.Text.{flat}
use Rattle.answer_buffer.specs.Answers.{list_answer, filled}
use Rattle.answer_buffer.specs.AnswerLaws.{listed_done, filled_done}
use Rattle.answer_buffer.specs.Entering.{Wide, flat_long, hashes_in}
use Rattle.session_line.specs.Lines.{count_of}

module _ (l : List (List ℕ)) (w : Wide l) where
  -- the first hashes of a buffer that starts with the list
  pub read_back : (r : List ℕ) → hashes_from (flat l ++ r) (length l) 0 ≡ l
  read_back r = hashes_in [] l r 0 refl w

  how_many : length (flat l) / 32 ≡ length l
  how_many = let n = flat_long l w in omega arith

  -- the bytes of the list alone
  pub read_flat : (n : ℕ) → n ≡ length (flat l) → hashes_from (flat l) (n / 32) 0 ≡ l
  read_flat n e =
      ap₂ (λ (x : List ℕ) (k : ℕ). hashes_from x k 0) (sym (append-nil (flat l))) (ap (λ (k : ℕ). k / 32) e ∙ how_many) ∙ read_back []

  pub whole_back : hashes_of (flat l) ≡ l
  unfolding hashes_of
  whole_back = read_flat (length (flat l)) refl

  -- a list that fits into a buffer
  module _ (out₀ : List ℕ) (fits : length (flat l) ≤ length out₀) (n : ℕ) (e : n ≡ count_of (list_answer (flat l) (length out₀))) where
    pub listed_long : n ≡ length (flat l)
    listed_long = e ∙ ap count_of (listed_done (flat l) (length out₀) fits)

    pub listed_inside : (out : List ℕ) → out ≡ filled (flat l) out₀ → 32 * (n / 32) ≤ length out
    listed_inside out f =
        let a = ap length (f ∙ filled_done (flat l) out₀ fits) ∙ length-append (flat l) (drop (length (flat l)) out₀) in
        let b = listed_long in
        omega arith

    pub listed_back : (out : List ℕ) → out ≡ filled (flat l) out₀ → hashes_from out (n / 32) 0 ≡ l
    listed_back out f =
        ap₂ (λ (x : List ℕ) (k : ℕ). hashes_from x k 0) (f ∙ filled_done (flat l) out₀ fits) (ap (λ (k : ℕ). k / 32) listed_long ∙ how_many)
        ∙ read_back (drop (length (flat l)) out₀)
