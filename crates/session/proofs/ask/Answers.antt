-- The zeroed tables hold an empty graph of the bench room.
-- Assumes nothing.
use Rattle.std.proofs.Common.{ℕ, refl}
use Rattle.std.proofs.lemmas.List.{length-replicate}
use Rattle.session.specs.EmptyLaws.{empty_fresh}
use Rattle.session.proofs.ask.Goals as goal

pub lines-requires-clause-fresh : goal.lines-requires-clause-fresh
lines-requires-clause-fresh c =
    empty_fresh _ _
    (record {
      hashes_long = length-replicate {A = ℕ} 8192 0;
      nodes_long = length-replicate {A = ℕ} 1536 0;
      targets_long = length-replicate {A = ℕ} 1024 0;
      nexts_long = length-replicate {A = ℕ} 1024 0;
      clocks_long = length-replicate {A = ℕ} 4096 0;
      counts_long = refl;
      no_changes = refl;
      no_edges = refl;
      actors_are = refl;
    })
    c.requires.le_n.0 c.requires.le_n.1
