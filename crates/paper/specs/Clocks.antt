-- Clocks as they are lent: what each operation comes to. Of the m entries that are lent the first n are in use, one for each actor.
-- Assumes nothing.
use Rattle.std.specs.Prelude.{Bool, cond, ◌&&◌, ◌||◌, ℕ, eqb, ltb, leb}
use Rattle.paper.specs.Numbers.{Outcome, done, not_valid, no_actor, no_actor_room}

-- a clock may be lent so: at most 64 entries, and no more in use than lent
unfoldable pub clock_lent : ℕ → ℕ → Bool
clock_lent n m = leb m 64 && leb n m

-- every operation: 1 where a clock is lent otherwise, and else what the operation comes to
unfoldable pub judged_lent : Bool → Outcome → Outcome
judged_lent lent o = cond lent o not_valid

-- include, isolate, whether an op is covered, and an actor taken out, at place a: 5 for a place not below the count
unfoldable pub judged_place : ℕ → ℕ → Outcome
judged_place n a = cond (leb n a) no_actor done

-- whether a range shows an op after or before it: 5 in the same way where the range has a clock there, of n entries
unfoldable pub judged_seen : Bool → ℕ → ℕ → Outcome
judged_seen has n a = cond has (judged_place n a) done

-- whether one clock covers another, of n and of n' entries: 1 where the counts differ
unfoldable pub judged_covers : ℕ → ℕ → Outcome
judged_covers n n' = cond (eqb n n') done not_valid

-- an actor put in at place p: 12 for a place above the count, and where there is no room
unfoldable pub judged_entry : ℕ → ℕ → ℕ → Outcome
judged_entry m n p = cond (ltb n p || leb m n) no_actor_room done
