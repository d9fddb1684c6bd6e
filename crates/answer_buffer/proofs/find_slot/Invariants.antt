-- The slot among the hashes from hash i on is the slot among all.
use Rattle.std.proofs.Common.{◌≡◌, ◌-◌}
use Rattle.paper.specs.Lists.{hash_at, hashes_from}
use Rattle.answer_buffer.specs.Slots.{slot}
use Rattle.answer_buffer.proofs.find_slot.Given as goal

abbrev pub invariant-loop-i : goal.invariant-loop-i
invariant-loop-i l = slot (hash_at l.hashes l.k) (hashes_from l.out (l.c - l.i) l.i) l.i ≡ slot (hash_at l.hashes l.k) (hashes_from l.out l.c 0) 0
