-- Entering a hash into an ascending list: how two hashes stand, where the new one goes, and the bytes moved up for it.
-- Assumes nothing.
use Rattle.std.specs.Prelude.{cond, List, [], ◌∷◌, ◌++◌, ℕ, suc, ◌+◌, ◌-◌, take, drop, Some, None, Option}
use Rattle.paper.specs.Lists.{same_list, less_list}
use Rattle.std.specs.declared.cmp.Ordering.{Ordering}
use Rattle.std.specs.declared.cmp.Ordering.TheVariants.{Less, Equal, Greater}

-- how x stands to y
unfoldable pub order_of : List ℕ → List ℕ → Ordering
order_of x y = cond (same_list x y) Equal (cond (less_list x y) Less Greater)

-- where h goes in a list whose first place is i, unless it stands there
unfoldable pub slot : List ℕ → List (List ℕ) → ℕ → Option ℕ
slot h [] i = Some i
slot h (x ∷ xs) i = cond (same_list h x) None (cond (less_list h x) (Some i) (slot h xs (suc i)))

-- the bytes from `from` to `to` stand 32 further up as well
unfoldable pub shifted : List ℕ → ℕ → ℕ → List ℕ
shifted out from to = take (from + 32) out ++ (take (to - from) (drop from out) ++ drop (to + 32) out)
