-- The session read in pieces: a reader that keeps the line it is in.
-- Assumes nothing.
use Rattle.std.specs.Prelude.{cond, List, [], ◌∷◌, ◌++◌, ℕ, suc, eqb, leb, length}
use Rattle.paper.specs.Session.{Phase, first, long_line, line_step, ending}

-- the phase, the number of the line that is being read, and its bytes so far
pub record Reader : Type 0 where
  pub phase : Phase
  pub number : ℕ
  pub kept : List ℕ

-- a reader, and the bytes that were answered on the way to it
pub record Fed : Type 0 where
  pub reader : Reader
  pub said : List ℕ

-- one byte: a LF ends the line; a byte past the 2,400th makes it bad at once
unfoldable pub feed_byte : Reader → ℕ → Fed
feed_byte r b =
    cond (eqb b 10)
    (record {
      reader = record { phase = (line_step r.phase r.number r.kept).phase; number = suc r.number; kept = [] };
      said = (line_step r.phase r.number r.kept).said;
    })
    (cond (leb 2400 (length r.kept))
    (record {
      reader = record { phase = (long_line r.phase r.number).phase; number = r.number; kept = [] };
      said = (long_line r.phase r.number).said;
    })
    (record { reader = record { phase = r.phase; number = r.number; kept = r.kept ++ (b ∷ []) }; said = [] }))

-- a piece, byte after byte: the reader afterwards, and what is answered
unfoldable pub reader_after : Reader → List ℕ → Reader
reader_after r [] = r
reader_after r (b ∷ bs) = reader_after (feed_byte r b).reader bs

unfoldable pub said_to : Reader → List ℕ → List ℕ
said_to r [] = []
said_to r (b ∷ bs) = (feed_byte r b).said ++ said_to (feed_byte r b).reader bs

-- the end call
unfoldable pub finished : Reader → List ℕ
finished r = ending r.phase r.number r.kept

unfoldable pub fresh : Reader
fresh = record { phase = first; number = 1; kept = [] }

-- the answers to pieces and the end call, joined
unfoldable pub said_to_all : Reader → List (List ℕ) → List ℕ
said_to_all r [] = finished r
said_to_all r (p ∷ ps) = said_to r p ++ said_to_all (reader_after r p) ps
