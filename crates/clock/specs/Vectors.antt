-- Worked examples, computed.
-- Assumes nothing.
use Rattle.std.specs.Prelude.{◌≡◌, refl, [], ◌∷◌}
use Rattle.clock.specs.Clock.{joined, insert_at, remove_at, inserted, removed}

shorter : joined (1 ∷ 5 ∷ 2 ∷ []) (3 ∷ 4 ∷ []) ≡ 3 ∷ 5 ∷ 2 ∷ []
unfolding joined
shorter = refl

entered : inserted (7 ∷ 8 ∷ 9 ∷ []) 2 1 ≡ 7 ∷ 0 ∷ 8 ∷ []
unfolding inserted insert_at
entered = refl

gone : removed (7 ∷ 8 ∷ 9 ∷ []) 2 0 ≡ 8 ∷ 0 ∷ 9 ∷ []
unfolding removed remove_at
gone = refl
