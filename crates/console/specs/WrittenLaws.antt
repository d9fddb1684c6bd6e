-- The answer's part of the buffer is what the program writes.
-- Assumes nothing.
use Rattle.std.specs.Prelude.{◌≡◌, List, [], ℕ, ◌≤◌, ◌<◌, leb, length, take, drop}
use Rattle.std.proofs.Common.{sym, arith, length-take-le}
use Rattle.std.proofs.Math.Seq.{take-append_seam}
use borrow.Author.Tests.{le-leb, lt-leb, leb-true}
use Rattle.paper.specs.Session.{session, length_in, buffer_in}
use Rattle.paper.proofs.Bools.{by_bool}
use Rattle.console.specs.Written.{written}

-- more input
pub written_none : (n : ℕ) (s : List ℕ) → n < length s → [] ≡ written n s
unfolding written
written_none n s l = rw (lt-leb (length s) n l)

module _ (n : ℕ) (s out₀ out₁ : List ℕ) (size : ℕ) (room : length out₀ ≡ n) (d : size ≡ length_in (session s) (length out₀)) (b : out₁ ≡ buffer_in (session s) out₀) where
  pub written_all : length s ≤ n → take size out₁ ≡ written n s
  unfolding written length_in buffer_in
  written_all l =
      rw (d, b, room, le-leb (length s) n l)
      (by_bool (leb (length (session s)) n)
      (λ t. rw t (take-append_seam (session s) (drop (length (session s)) out₀)))
      (λ f. rw f))

  fits : size ≤ n
  unfolding length_in
  fits = rw (d, room) (by_bool (leb (length (session s)) n) (λ t. rw t (leb-true _ _ t)) (λ f. rw f (omega arith)))

  pub written_counts : length out₁ ≡ length out₀ → (size ≤ length out₁) × (size ≡ length (take size out₁))
  written_counts e = let l : size ≤ length out₁ = omega (arith, fits) in (l, sym (length-take-le size out₁ l))
