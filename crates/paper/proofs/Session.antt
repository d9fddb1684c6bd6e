-- The session read in pieces: however the bytes are cut, the joined answers are those of the session.
-- Assumes nothing.
use mathlib.Core.Path.{◌≡◌, refl, sym, ap, ◌∙◌}
use Prim.Native.Nat.{ℕ, suc, ◌<◌, ◌≤◌}
use native.Mathlib.Omega.{arith}
use mathlib.Core.List.{List, [], ◌∷◌, ◌++◌, append_assoc, append-nil}
use mathlib.Core.Bool.{Bool, true, false, cond}
use lib.ListN.{length, length-append}
use lib.Dec.{eqb, leb}
use borrow.Author.Tests.{lt-leb, leb-true, leb-false}
use Rattle.paper.specs.Text.{grow, parted, flat}
use Rattle.paper.specs.Session.{Phase, first, second, asking, ended, bad_line, short_line, long_line, line_step, ending, answers, session}
use Rattle.paper.specs.Pieces.{Reader, feed_byte, reader_after, said_to, finished, fresh, said_to_all}
use Rattle.paper.proofs.Text.{without, ahead, parted_ahead, without_more, some_parts}

-- the piece after a piece
pub said_append : (r : Reader) (xs ys : List ℕ) → said_to r (xs ++ ys) ≡ said_to r xs ++ said_to (reader_after r xs) ys
unfolding said_to reader_after
said_append r [] ys = refl
said_append r (x ∷ xs) ys =
    rw (said_append (feed_byte r x).reader xs ys)
    (sym (append_assoc (feed_byte r x).said (said_to (feed_byte r x).reader xs) (said_to (reader_after (feed_byte r x).reader xs) ys)))

pub reader_append : (r : Reader) (xs ys : List ℕ) → reader_after r (xs ++ ys) ≡ reader_after (reader_after r xs) ys
unfolding reader_after
reader_append r [] ys = refl
reader_append r (x ∷ xs) ys = reader_append (feed_byte r x).reader xs ys

-- however the bytes are cut into pieces, the answers joined are the same
pub cut_anywhere : (r : Reader) (pieces : List (List ℕ)) → said_to_all r pieces ≡ said_to r (flat pieces) ++ finished (reader_after r (flat pieces))
unfolding said_to_all flat said_to reader_after
cut_anywhere r [] = refl
cut_anywhere r (p ∷ ps) =
    rw (said_append r p (flat ps), reader_append r p (flat ps), cut_anywhere (reader_after r p) ps)
    (sym (append_assoc (said_to r p) (said_to (reader_after r p) (flat ps)) (finished (reader_after (reader_after r p) (flat ps)))))

-- after a bad line nothing follows
over_line : (n : ℕ) (l : List ℕ) → line_step ended n l ≡ record { phase = ended; said = [] }
unfolding line_step short_line long_line
over_line n l = go (leb (length l) 2400)
  where
    go : (t : Bool) → cond t (short_line ended n l) (long_line ended n) ≡ record { phase = ended; said = [] }
    go true = refl
    go false = refl

over_answers : (n : ℕ) (ls : List (List ℕ)) → answers ended n ls ≡ []
unfolding answers ending
over_answers n [] = refl
over_answers n (l ∷ []) = refl
over_answers n (l ∷ k ∷ ls) = rw (over_line n l) (over_answers (suc n) (k ∷ ls))

long_over : (p : Phase) (n : ℕ) → (long_line p n).phase ≡ ended
unfolding long_line bad_line
long_over first n = refl
long_over second n = refl
long_over (asking s) n = refl
long_over ended n = refl

-- a first line that is too long, ended or not
long_ending : (p : Phase) (n : ℕ) (l : List ℕ) → 2400 < length l → ending p n l ≡ (long_line p n).said
unfolding ending long_line bad_line
long_ending first n l h = refl
long_ending second n l h = refl
long_ending (asking s) n [] h = absurd (omega arith)
long_ending (asking s) n (b ∷ l) h = refl
long_ending ended n l h = refl

pub long_first : (p : Phase) (n : ℕ) (l : List ℕ) (ls : List (List ℕ)) → 2400 < length l → answers p n (l ∷ ls) ≡ (long_line p n).said
unfolding answers line_step
long_first p n l [] h = long_ending p n l h
long_first p n l (k ∷ ls) h =
    rw (lt-leb (length l) 2400 h, long_over p n, over_answers (suc n) (k ∷ ls)) (append-nil (long_line p n).said)

-- the reader at line n, of which some bytes are kept
abbrev at_line : Phase → ℕ → List ℕ → Reader
at_line p n kept = record { phase = p; number = n; kept = kept }

-- all that a reader will say
abbrev rest : Reader → List ℕ → List ℕ
rest r bytes = said_to r bytes ++ finished (reader_after r bytes)

rest_step : (r : Reader) (b : ℕ) (bs : List ℕ) → rest r (b ∷ bs) ≡ (feed_byte r b).said ++ rest (feed_byte r b).reader bs
unfolding said_to reader_after
rest_step r b bs =
    append_assoc (feed_byte r b).said (said_to (feed_byte r b).reader bs) (finished (reader_after (feed_byte r b).reader bs))

-- the three cases of a byte
module _ (p : Phase) (n : ℕ) (kept : List ℕ) (b : ℕ) (bs : List ℕ) where
  rest_lf : eqb b 10 ≡ true → rest (at_line p n kept) (b ∷ bs) ≡ (line_step p n kept).said ++ rest (at_line (line_step p n kept).phase (suc n) []) bs
  unfolding feed_byte
  rest_lf e = rest_step (at_line p n kept) b bs ∙ rw e

  rest_long : eqb b 10 ≡ false → leb 2400 (length kept) ≡ true
      → rest (at_line p n kept) (b ∷ bs) ≡ (long_line p n).said ++ rest (at_line (long_line p n).phase n []) bs
  unfolding feed_byte
  rest_long e l = rest_step (at_line p n kept) b bs ∙ rw (e, l)

  rest_more : eqb b 10 ≡ false → leb 2400 (length kept) ≡ false → rest (at_line p n kept) (b ∷ bs) ≡ rest (at_line p n (kept ++ (b ∷ []))) bs
  unfolding feed_byte
  rest_more e l = rest_step (at_line p n kept) b bs ∙ rw (e, l)

over_rest : (bytes : List ℕ) (n : ℕ) (kept : List ℕ) → rest (at_line ended n kept) bytes ≡ []
unfolding said_to reader_after finished ending long_line
over_rest [] n kept = refl
over_rest (b ∷ bs) n kept = go (eqb b 10) (leb 2400 (length kept)) refl refl (over_rest bs)
  where
    go : (t u : Bool) → eqb b 10 ≡ t → leb 2400 (length kept) ≡ u → ((k : ℕ) (ks : List ℕ) → rest (at_line ended k ks) bs ≡ [])
        → rest (at_line ended n kept) (b ∷ bs) ≡ []
    go true u e l r = rest_lf ended n kept b bs e ∙ rw (over_line n kept) (r (suc n) [])
    go false true e l r = rest_long ended n kept b bs e l ∙ r n []
    go false false e l r = rest_more ended n kept b bs e l ∙ r n (kept ++ (b ∷ []))

-- the lines to come, by the next byte
module _ (p : Phase) (n : ℕ) (kept : List ℕ) (f : without 10 kept ≡ true) (b : ℕ) (bs : List ℕ) where
  lines_lf : eqb b 10 ≡ true
      → answers p n (parted 10 (kept ++ (b ∷ bs))) ≡ (line_step p n kept).said ++ answers (line_step p n kept).phase (suc n) (parted 10 bs)
  unfolding answers ahead parted
  lines_lf e = let q = some_parts 10 bs in rw (parted_ahead 10 kept (b ∷ bs) f, e, q.are) (rw (append-nil kept))

  lines_long : eqb b 10 ≡ false → 2400 ≤ length kept → answers p n (parted 10 (kept ++ (b ∷ bs))) ≡ (long_line p n).said
  unfolding ahead parted grow
  lines_long e l =
      let q = some_parts 10 bs in
      rw (parted_ahead 10 kept (b ∷ bs) f, e, q.are)
      (long_first p n (kept ++ (b ∷ q.head)) q.tail (omega (arith, length-append kept (b ∷ q.head))))

-- what a reader will say is what the lines answer that are still to come
reads_lines : (bytes : List ℕ) (p : Phase) (n : ℕ) (kept : List ℕ) → without 10 kept ≡ true → length kept ≤ 2400
    → answers p n (parted 10 (kept ++ bytes)) ≡ rest (at_line p n kept) bytes
unfolding said_to reader_after finished answers ahead parted without
reads_lines [] p n kept f l = rw (parted_ahead 10 kept [] f, append-nil kept)
reads_lines (b ∷ bs) p n kept f l = go (eqb b 10) (leb 2400 (length kept)) refl refl (reads_lines bs)
  where
    go : (t u : Bool) → eqb b 10 ≡ t → leb 2400 (length kept) ≡ u
        → ((p : Phase) (n : ℕ) (kept : List ℕ) → without 10 kept ≡ true → length kept ≤ 2400 → answers p n (parted 10 (kept ++ bs)) ≡ rest (at_line p n kept) bs)
        → answers p n (parted 10 (kept ++ (b ∷ bs))) ≡ rest (at_line p n kept) (b ∷ bs)
    go true u e h r =
        lines_lf p n kept f b bs e
        ∙ ap ((line_step p n kept).said ++◌) (r (line_step p n kept).phase (suc n) [] refl (omega arith))
        ∙ sym (rest_lf p n kept b bs e)
    go false true e h r =
        lines_long p n kept f b bs e (leb-true 2400 (length kept) h)
        ∙ sym (append-nil (long_line p n).said)
        ∙ ap ((long_line p n).said ++◌) (sym (ap (λ q. rest (at_line q n []) bs) (long_over p n) ∙ over_rest bs n []))
        ∙ sym (rest_long p n kept b bs e h)
    go false false e h r =
        ap (λ x. answers p n (parted 10 x)) (sym (append_assoc kept (b ∷ []) bs))
        ∙ r p n (kept ++ (b ∷ [])) (without_more 10 kept b f e) (omega (arith, length-append kept (b ∷ []), leb-false 2400 (length kept) h))
        ∙ sym (rest_more p n kept b bs e h)

-- the session is what a fresh reader says to all bytes and the end call, however the bytes are cut into pieces
pub session_in_pieces : (pieces : List (List ℕ)) → said_to_all fresh pieces ≡ session (flat pieces)
unfolding session fresh without
session_in_pieces pieces = cut_anywhere fresh pieces ∙ sym (reads_lines (flat pieces) first 1 [] refl (omega arith))
