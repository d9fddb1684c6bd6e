-- The answer buffer of a whole session: its number, its length as it is told, and what stands in it.
-- Assumes nothing.
use Rattle.std.specs.Prelude.{◌≡◌, List, true, false, ℕ, ◌+◌, ◌≤◌, ◌<◌, replicate, Some, None, Option}
use Rattle.std.proofs.Math.Path.{refl}
use Rattle.std.proofs.Common.{ap, ◌∙◌, le-leb}
use native.Mathlib.Omega.{arith}
use Rattle.std.proofs.Math.ListN.{length}
use Rattle.std.proofs.lemmas.Bool.{lt-leb}
use Rattle.paper.specs.Session.{number_in, length_in, buffer_in}
use Rattle.list_laws.specs.Over.{over}
use Rattle.reply.specs.Said.{Said}
use Rattle.lent_place.specs.Places.{told_in}
use Rattle.session.specs.AskLaws.{put_next, put_full}
use Rattle.session.specs.Final.{fitted, size_of}

module _ (text out₀ out₁ : List ℕ) where
  module _ (n : ℕ) (w : Said text 0 (Some n) out₀ out₁) where
    fits : length text ≤ length out₀
    fits = let f = put_next text 0 (length out₀) n w.answer in omega (arith, f.0)

    pub done_number : 0 ≡ number_in text (length out₀)
    unfolding number_in
    done_number = rw (le-leb (length text) (length out₀) fits)

    pub done_length : n ≡ length_in text (length out₀)
    unfolding length_in
    done_length = let f = put_next text 0 (length out₀) n w.answer in rw (le-leb (length text) (length out₀) fits) (omega (arith, f.1))

    pub done_buffer : out₁ ≡ buffer_in text out₀
    unfolding buffer_in over
    done_buffer = let e : 0 + length text ≡ length text = omega arith in w.buffer n refl ∙ rw (le-leb (length text) (length out₀) fits, e)

  module _ (w : Said text 0 None out₀ out₁) where
    long : length out₀ < length text
    long = let f = put_full text 0 (length out₀) w.answer in omega (arith, f)

    pub full_number : 15 ≡ number_in text (length out₀)
    unfolding number_in
    full_number = rw (lt-leb (length text) (length out₀) long)

    pub full_length : 0 ≡ length_in text (length out₀)
    unfolding length_in
    full_length = rw (lt-leb (length text) (length out₀) long)

    -- where every byte is made 0
    pub full_buffer : replicate (length out₁) 0 ≡ buffer_in text out₀
    unfolding buffer_in
    full_buffer = rw (lt-leb (length text) (length out₀) long, w.size)

-- ---- the number, the told length and the buffer, by whether it fitted

module _ (text out₀ out₁ l l' : List ℕ) where
  pub final_done : (r : Option ℕ) (n : ℕ) → Said text 0 r out₀ out₁ → n ≡ size_of r → l' ≡ told_in n l → true ≡ fitted r
      → (0 ≡ number_in text (length out₀)) × ((l' ≡ told_in (length_in text (length out₀)) l) × (out₁ ≡ buffer_in text out₀))
  final_done (Some m) n w e t f = (done_number text out₀ out₁ m w, (t ∙ ap (λ (k : ℕ). told_in k l) (e ∙ done_length text out₀ out₁ m w), done_buffer text out₀ out₁ m w))
  final_done None n w e t f = cc

  pub final_full : (r : Option ℕ) (n : ℕ) → Said text 0 r out₀ out₁ → n ≡ size_of r → l' ≡ told_in n l → false ≡ fitted r → (out₂ : List ℕ) → out₂ ≡ replicate (length out₁) 0
      → (15 ≡ number_in text (length out₀)) × ((l' ≡ told_in (length_in text (length out₀)) l) × (out₂ ≡ buffer_in text out₀))
  final_full (Some m) n w e t f out₂ z = cc
  final_full None n w e t f out₂ z = (full_number text out₀ out₁ w, (t ∙ ap (λ (k : ℕ). told_in k l) (e ∙ full_length text out₀ out₁ w), z ∙ full_buffer text out₀ out₁ w))
