-- The line is written in three parts, of which each is written whole or not at all.
-- Assumes nothing.
use Rattle.std.proofs.Common.{refl}
use Rattle.reply.specs.SaidLaws.{first_full, second_full, third, next_room}
use Rattle.reply.proofs.put_line.Goals as goal

pub returns-in_err-p : goal.returns-in_err-p
returns-in_err-p g c = λ text h. rw c.from_residual.ensures (first_full _ _ text _ (record { are = refl }) _ _ _ c.in_err-p.ensures)

pub part-requires : goal.part-requires
part-requires g c = c.requires.callable _ _ (next_room _ _ _ _ _ c.in_ok-p.ensures)

pub returns-in_err-q : goal.returns-in_err-q
returns-in_err-q g c = λ text h.
    rw c.from_residual-in_err-q.ensures
    (second_full _ _ text _ (record { are = refl }) _ _ _ _ c.in_ok-p.ensures _ (rw c.in_err-q.was at (h _ _ _ _ c.part.ensures)))

pub put_bytes-requires-2 : goal.put_bytes-requires-2
put_bytes-requires-2 g c = next_room _ _ _ _ _ (rw c.in_ok-q.was at (c.requires.puts.1 _ _ _ _ c.part.ensures))

pub returns : goal.returns
returns g c = λ text h.
    third _ _ text _ (record { are = refl }) _ _ _ _ c.in_ok-p.ensures _ _ (rw c.in_ok-q.was at (h _ _ _ _ c.part.ensures)) _ _ c.put_bytes-2.ensures
