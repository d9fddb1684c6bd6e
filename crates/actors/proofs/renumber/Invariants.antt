-- The actors of the first k nodes are renumbered, whatever function of numbers f is, and those of the others are the old ones.
use Rattle.std.proofs.Common.{◌≡◌, ℕ, ◌≤◌}
use Rattle.tables.specs.Tables.{actor_at}
use Rattle.actors.specs.Actors.{renumbered}
use Rattle.actors.proofs.renumber.Given as goal

abbrev pub invariant-loop-k : goal.invariant-loop-k
invariant-loop-k g l =
    ((j : ℕ) → l.k ≤ j → actor_at l.nodes j ≡ actor_at l.initial.nodes j)
    × ((h : ℕ → ℕ) → ((a b : ℕ) → goal.F-post g l.f a b → b ≡ h a) → l.nodes ≡ renumbered h l.k l.initial.nodes)
