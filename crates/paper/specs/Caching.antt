-- Which clocks are cached: the caching rule, over the set of nodes whose clocks are cached already.
-- Assumes nothing.
use Rattle.std.specs.Prelude.{Bool, cond, ◌||◌, List, [], ◌∷◌, ℕ, zero, suc, ◌%◌, eqb, leb}
use Rattle.paper.specs.Lists.{pick}
use Rattle.paper.specs.Graph.{Graph, look}

-- nodes 15, 31, 47 and so on get a cached clock when added
unfoldable pub cache_due : ℕ → Bool
cache_due k = eqb (suc k % 16) 0

-- a walk over the nodes below m, the highest first, w those to visit, c those with a cached clock, n the number visited: at a node that is not cached it
-- stops once more than `limit` are visited. What is left to visit then, in ascending order
unfoldable pub left_over : Graph → ℕ → (ℕ → Bool) → ℕ → ℕ → (ℕ → Bool) → List ℕ
left_over g limit c zero n w = []
left_over g limit c (suc m) n w =
    cond (w m)
    (cond (c m) (left_over g limit c m (suc n) w) (cond (leb limit n) (pick (look g m w) m) (left_over g limit c m (suc n) (look g m w))))
    (left_over g limit c m n w)

-- each of the list in turn, by a rule that takes the set on
unfoldable pub in_turn : ((ℕ → Bool) → ℕ → ℕ → Bool) → (ℕ → Bool) → List ℕ → ℕ → Bool
in_turn f c [] = c
in_turn f c (k ∷ ks) = in_turn f (f c k) ks

-- the cached nodes after node k is cached: those that a walk from k with the limit 32 left over, in turn, and then k. A node left over is below k, so `depth`
-- above k is enough
unfoldable pub cached_to : Graph → ℕ → (ℕ → Bool) → ℕ → ℕ → Bool
cached_to g zero c k = c
cached_to g (suc depth) c k = λ j. eqb j k || in_turn (cached_to g depth) c (left_over g 32 c (suc k) 0 (λ i. eqb i k)) j

unfoldable pub cached_after : Graph → (ℕ → Bool) → ℕ → ℕ → Bool
cached_after g c k = cached_to g (suc k) c k
