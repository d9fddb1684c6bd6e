-- The tables after a line hold the graph after it, stay valid, and keep their room.
-- Assumes nothing.
use Rattle.std.proofs.Common.{◌∙◌, arith}
use Rattle.paper.specs.Adding.{Hub, Change, accepts, judged, added as paper-added}
use Rattle.paper.specs.Command.{Command, heads, clock, missing, owner, add, bad}
use Rattle.paper.specs.Session.{change_of, after_command}
use Rattle.paper.proofs.Bools.{by_bool}
use Rattle.paper.proofs.Same.{SameHub, same_hub}
use Rattle.tables.specs.Tables.{Tables}
use Rattle.tables.specs.Valid.{Valid}
use Rattle.judge.specs.Hub.{hub}
use Rattle.graph.specs.HubGrown.{added_hub}
use Rattle.graph.specs.Life.{added_valid}
use Rattle.session_line.specs.Step.{tables_after, Bench}

module _ (t : Tables) (v : Valid t) where
  pub after_hub : (x : Command) → SameHub (after_command (hub t) x) (hub (tables_after t x))
  unfolding after_command tables_after
  after_hub heads = same_hub (hub t)
  after_hub (clock hs) = same_hub (hub t)
  after_hub (missing hs) = same_hub (hub t)
  after_hub (owner a c) = same_hub (hub t)
  after_hub (add h a s m k ds) = added_hub t (change_of h a s m k ds) v
  after_hub bad = same_hub (hub t)

  pub after_valid : (x : Command) → Valid (tables_after t x)
  unfolding tables_after
  after_valid heads = v
  after_valid (clock hs) = v
  after_valid (missing hs) = v
  after_valid (owner a c) = v
  after_valid (add h a s m k ds) = added_valid t (change_of h a s m k ds) v
  after_valid bad = v

-- adding keeps the room and the actors
added_bench : (u : Hub) (x : Change) → Bench u → Bench (paper-added u x)
unfolding paper-added
added_bench u x b = by_bool (accepts (judged u x)) (λ y. rw y (record { changes = b.changes; edges = b.edges; low = b.low; high = b.high })) (λ n. rw n b)

pub same_bench : (u w : Hub) → SameHub u w → Bench u → Bench w
same_bench u w e b =
    record {
      changes = e.change_rooms ∙ b.changes;
      edges = e.edge_rooms ∙ b.edges;
      low = let a = e.actors in omega (arith, b.low);
      high = let a = e.actors in omega (arith, b.high);
    }

pub after_bench : (t : Tables) → Valid t → (x : Command) → Bench (hub t) → Bench (hub (tables_after t x))
unfolding after_command
after_bench t v heads b = same_bench (hub t) (hub (tables_after t heads)) (after_hub t v heads) b
after_bench t v (clock hs) b = same_bench (hub t) (hub (tables_after t (clock hs))) (after_hub t v (clock hs)) b
after_bench t v (missing hs) b = same_bench (hub t) (hub (tables_after t (missing hs))) (after_hub t v (missing hs)) b
after_bench t v (owner a c) b = same_bench (hub t) (hub (tables_after t (owner a c))) (after_hub t v (owner a c)) b
after_bench t v (add h a s m k ds) b =
    same_bench (after_command (hub t) (add h a s m k ds)) (hub (tables_after t (add h a s m k ds))) (after_hub t v (add h a s m k ds)) (added_bench (hub t) (change_of h a s m k ds) b)
after_bench t v bad b = same_bench (hub t) (hub (tables_after t bad)) (after_hub t v bad) b
