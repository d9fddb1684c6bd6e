-- Actors: opening an empty graph for a number of them, one more at a place, one less: what each comes to, and the graph afterwards.
-- Assumes nothing.
use Rattle.std.specs.Prelude.{cond, ◌||◌, ℕ, suc, ◌-◌, eqb, ltb, leb}
use Rattle.paper.specs.Numbers.{Outcome, done, no_actor, actor_has_changes, no_actor_room}
use Rattle.paper.specs.Graph.{Graph}
use Rattle.paper.specs.Adding.{Hub, plain, accepts, seq_for_actor}

-- ---- what each comes to; m is the room for actors

-- opening for a actors: 12 for more than there is room
unfoldable pub judged_open : ℕ → ℕ → Outcome
judged_open m a = cond (ltb m a) no_actor_room done

-- one more at place p: 12 for a place above the count, and where there is no room
unfoldable pub judged_insert : ℕ → Hub → ℕ → Outcome
judged_insert m u p = cond (ltb u.actors p || leb m u.actors) no_actor_room done

-- the one at place p away: 5 for a place not below the count, and then 11 where it has changes
unfoldable pub judged_remove : Hub → ℕ → Outcome
judged_remove u p = cond (leb u.actors p) no_actor (cond (eqb (seq_for_actor u.graph p) 0) done actor_has_changes)

-- ---- the graph afterwards

-- numbers p and above move up by one
abbrev pub up_from : ℕ → ℕ → ℕ
up_from p a = cond (ltb a p) a (suc a)

-- numbers above p move down by one
abbrev pub down_from : ℕ → ℕ → ℕ
down_from p a = cond (leb a p) a (a - 1)

-- the first n changes, their actors renumbered by f
unfoldable pub relabelled : (ℕ → ℕ) → ℕ → Graph → Graph
relabelled f n g = record { size = n; hash = g.hash; actor = λ k. f (g.actor k); seq = g.seq; max_op = g.max_op; ops = g.ops; deps = g.deps }

-- the hub with the first n changes, their actors renumbered by f, and a actors counted
unfoldable pub with_actors : (ℕ → ℕ) → ℕ → ℕ → Hub → Hub
with_actors f n a u = record { graph = relabelled f n u.graph; actors = a; change_room = u.change_room; edge_room = u.edge_room }

-- no change and a actors where opening is done, and else as it was
unfoldable pub hub_opened : ℕ → Hub → ℕ → Hub
hub_opened m u a = cond (accepts (plain (judged_open m a))) (with_actors (λ x. x) 0 a u) u

-- one actor more where that is done, and else as it was
unfoldable pub actor_added : ℕ → Hub → ℕ → Hub
actor_added m u p = cond (accepts (plain (judged_insert m u p))) (with_actors (up_from p) u.graph.size (suc u.actors) u) u

-- one actor less where that is done, and else as it was
unfoldable pub actor_dropped : Hub → ℕ → Hub
actor_dropped u p = cond (accepts (plain (judged_remove u p))) (with_actors (down_from p) u.graph.size (u.actors - 1) u) u
