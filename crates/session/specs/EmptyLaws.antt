-- Zeroed tables of the bench room hold an empty graph.
-- Assumes nothing.
use Rattle.std.specs.Prelude.{◌≡◌, ℕ, ◌/◌, ◌≤◌, ◌<◌}
use Rattle.std.proofs.Math.Path.{refl, sym}
use Rattle.std.proofs.Common.{ap, ◌∙◌}
use native.Mathlib.Omega.{arith}
use Rattle.paper.specs.Session.{bench}
use Rattle.paper.proofs.Same.{SameHub}
use Rattle.tables.specs.Tables.{Tables, changes, actors, change_room_of, actor_room, width_of}
use Rattle.tables.specs.Valid.{Lengths}
use Rattle.judge.specs.Hub.{hub}
use Rattle.graph.specs.Life.{opened_valid}
use Rattle.session.specs.Ask.{Fresh, Empty}

module _ (t : Tables) (n : ℕ) (r : Empty t n) where
  changes_are : change_room_of t ≡ 256
  changes_are = ap (λ (k : ℕ). k / 32) r.hashes_long

  width_is : actor_room t ≡ 16
  unfolding width_of
  width_is = rw (r.hashes_long, r.clocks_long) refl

  empty_lengths : Lengths t
  empty_lengths =
      record {
        hashes_whole = let c = changes_are in let l = r.hashes_long in omega arith;
        changes_limit = let c = changes_are in omega arith;
        nodes_same = let c = changes_are in let l = r.nodes_long in omega arith;
        edges_limit = let l = r.targets_long in omega arith;
        nexts_same = r.nexts_long ∙ sym r.targets_long;
        actors_limit = let a = width_is in omega arith;
        clocks_whole = rw (changes_are, width_is) r.clocks_long;
        counts_three = r.counts_long;
      }

  same_as_bench : SameHub (hub t) (bench (actors t))
  unfolding bench
  same_as_bench =
      let z = r.no_changes in
      let none : (k : ℕ) → k < changes t → ⊥ = λ k l. omega arith in
      record {
        graphs =
            record {
              extends =
                  record {
                    longer = omega arith;
                    hashes = λ k l. absurd (none k l);
                    max_ops = λ k l. absurd (none k l);
                    op_counts = λ k l. absurd (none k l);
                    actors = λ k l. absurd (none k l);
                    seqs = λ k l. absurd (none k l);
                    depss = λ k l. absurd (none k l);
                  };
              sizes = sym z;
            };
        actors = refl;
        change_rooms = sym changes_are;
        edge_rooms = sym r.targets_long;
      }

  pub empty_fresh : 1 ≤ n → n ≤ 16 → Fresh t
  empty_fresh l h =
      let a = r.actors_are in
      let w = width_is in
      record {
        valid = opened_valid t empty_lengths r.no_changes r.no_edges (omega arith);
        room = record { changes = changes_are; edges = r.targets_long; low = omega arith; high = omega arith };
        same = same_as_bench;
      }
