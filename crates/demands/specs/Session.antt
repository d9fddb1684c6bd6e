-- What the text session promises, as its contract has it, and the one answer that a refusal zeroes.
-- Assumes nothing.
use Rattle.std.specs.Prelude.{◌≡◌, List, ℕ, length, replicate}
use Rattle.paper.specs.Numbers.{number, short_buffer}
use Rattle.paper.specs.Session.{session, number_in, length_in, buffer_in}
use Rattle.lent_place.specs.Places.{told_in}

-- the session over the input answers r, and leaves the buffer out' and, with the length told, the place told'; it is lent nothing else
pub record SessionAnswered (input out told : List ℕ) (r : ℕ) (out' told' : List ℕ) : Type 0 where
  pub number : r ≡ number_in (session input) (length out)
  pub place : told' ≡ told_in (length_in (session input) (length out)) told
  pub buffer : out' ≡ buffer_in (session input) out

-- a text answer that does not fit: every byte of the buffer is 0, and 0 is told as the length
pub record TextZeroed (out told : List ℕ) (r : ℕ) (out' told' : List ℕ) : Type 0 where
  pub short : r ≡ number short_buffer
  pub place : told' ≡ told_in 0 told
  pub buffer : out' ≡ replicate (length out) 0
