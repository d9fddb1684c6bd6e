-- The range: a kind beside two op clocks, `before` and `after`.
-- Assumes nothing.
use Rattle.std.specs.Prelude.{ℕ, ◌<◌, List, Bool, true, false, length}
use Rattle.clock.specs.Clock.{op_covers}
use Rattle.clock.specs.declared.Range.{Range}
use Rattle.clock.specs.declared.Range.TheVariants.{Current, CurrentAt, Diff}
use Rattle.clock.specs.declared.Which.{Which}
use Rattle.clock.specs.declared.Which.TheVariants.{After, Neither}

-- the clock that the range ends at
abbrev pub which_after : Range → Which
which_after Current = Neither
which_after CurrentAt = After
which_after Diff = After

-- with no clock every op is visible after; else those that the clock covers
abbrev pub visible_after : Range → List ℕ → ℕ → ℕ → Bool
visible_after Current c a counter = true
visible_after CurrentAt c a counter = op_covers c a counter
visible_after Diff c a counter = op_covers c a counter

-- only a range between two clocks has something before it: the ops that its first clock covers
abbrev pub visible_before : Range → List ℕ → ℕ → ℕ → Bool
visible_before Current c a counter = false
visible_before CurrentAt c a counter = false
visible_before Diff c a counter = op_covers c a counter

-- the clock that is asked has the actor
abbrev pub InAfter : Range → List ℕ → ℕ → Type 0
InAfter Current c a = Unit {0}
InAfter CurrentAt c a = a < length c
InAfter Diff c a = a < length c

abbrev pub InBefore : Range → List ℕ → ℕ → Type 0
InBefore Current c a = Unit {0}
InBefore CurrentAt c a = Unit {0}
InBefore Diff c a = a < length c
