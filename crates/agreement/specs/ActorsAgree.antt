-- Opening, an actor put in and an actor taken away: the judgement over the tables is the paper's, and so is the graph afterwards.
-- Assumes nothing.
use Rattle.std.specs.Prelude.{◌≡◌, ℕ, ◌+◌, ◌-◌, eqb, ltb, leb}
use Rattle.std.proofs.Math.Path.{refl}
use Rattle.std.proofs.Common.{◌∙◌, arith}
use Rattle.std.proofs.Math.Numerals.{add-one}
use borrow.Author.Tests.{leb-true, leb-false, ltb-true, ltb-false, le-leb, lt-leb, lt-ltb, le-ltb, eqb-true}
use Rattle.paper.specs.Graph.{Graph}
use Rattle.paper.specs.Adding.{accepts, seq_for_actor}
use Rattle.paper.specs.ProofWords.{Relabels}
use Rattle.paper.proofs.Bools.{by_bool}
use Rattle.paper.proofs.Same.{SameGraph, SameHub, same_hub}
use Rattle.paper.specs.Actors.{judged_open, judged_insert, judged_remove, up_from, down_from, relabelled, with_actors, hub_opened, actor_added, actor_dropped}
use Rattle.tables.specs.Tables.{Tables, changes, actors, actor_room, graph}
use Rattle.tables.specs.Valid.{Valid, count_of}
use Rattle.judge.specs.Hub.{hub}
use Rattle.actors.specs.Actors.{actor_outcome, opening, inserting, removing, widen, narrow, lower, actor_inserted, actor_removed, opened, if_actors_done}
use Rattle.actors.specs.Renamed.{new_actors, inserted_relabels, removed_relabels}
use Rattle.clock.specs.Clock.{raised}

-- ---- the judgement

module _ (t : Tables) where
  pub opening_agrees : (a : ℕ) → actor_outcome (opening t a) ≡ judged_open (actor_room t) a
  unfolding opening judged_open
  opening_agrees a =
      by_bool (leb a (actor_room t)) (λ y. rw (y, le-ltb (actor_room t) a (leb-true a (actor_room t) y)))
      (λ n. rw (n, lt-ltb (actor_room t) a (leb-false a (actor_room t) n)))

  pub inserting_agrees : (p : ℕ) → actor_outcome (inserting t p) ≡ judged_insert (actor_room t) (hub t) p
  unfolding inserting judged_insert
  inserting_agrees p =
      by_bool (leb p (actors t))
      (λ y.
      rw (y, le-ltb (actors t) p (leb-true p (actors t) y))
      (by_bool (ltb (actors t) (actor_room t)) (λ z. rw (z, lt-leb (actor_room t) (actors t) (ltb-true (actors t) (actor_room t) z)))
      (λ n. rw (n, le-leb (actor_room t) (actors t) (ltb-false (actors t) (actor_room t) n)))))
      (λ n. rw (n, lt-ltb (actors t) p (leb-false p (actors t) n)))

  pub removing_agrees : (p : ℕ) → actor_outcome (removing t p) ≡ judged_remove (hub t) p
  unfolding removing judged_remove seq_for_actor
  removing_agrees p =
      by_bool (leb (actors t) p) (λ y. rw y)
      (λ n. rw n (by_bool (eqb (count_of t.nodes p (changes t)) 0) (λ y. rw y) (λ n. rw n)))

-- ---- the graph afterwards

-- a graph with other numbers for its actors, and nothing else
relabels_same : (f : ℕ → ℕ) (g g' : Graph) → Relabels f g g' → SameGraph (relabelled f g.size g) g'
unfolding relabelled
relabels_same f g g' r =
    record {
      extends =
          record {
            longer = let n = r.sizes in omega arith;
            hashes = r.hashes;
            max_ops = r.max_ops;
            op_counts = r.op_counts;
            actors = r.actors;
            seqs = r.seqs;
            depss = r.depss;
          };
      sizes = r.sizes;
    }

module _ (t : Tables) where
  -- no change and a actors, or as it was
  pub opened_agrees : (a : ℕ) → SameHub (hub_opened (actor_room t) (hub t) a) (hub (if_actors_done (opening t a) (opened t a) t))
  unfolding hub_opened with_actors relabelled accepts opening
  opened_agrees a =
      rw (← opening_agrees t a)
      (by_bool (leb a (actor_room t))
      (λ y.
      rw y
      (record {
        graphs =
            record {
              extends =
                  record { longer = omega arith; hashes = λ k l. refl; max_ops = λ k l. refl; op_counts = λ k l. refl; actors = λ k l. refl; seqs = λ k l. refl; depss = λ k l. refl };
              sizes = refl;
            };
        actors = refl;
        change_rooms = refl;
        edge_rooms = refl;
      }))
      (λ n. rw n (same_hub (hub t))))

module _ (t : Tables) (v : Valid t) where
  -- one actor more, or as it was
  pub inserted_agrees : (p : ℕ) → SameHub (actor_added (actor_room t) (hub t) p) (hub (if_actors_done (inserting t p) (actor_inserted t p) t))
  unfolding actor_added with_actors accepts inserting
  inserted_agrees p =
      rw (← inserting_agrees t p)
      (by_bool (leb p (actors t))
      (λ y.
      by_bool (ltb (actors t) (actor_room t))
      (λ z.
      rw (y, z)
      (record {
        graphs = relabels_same (up_from p) (graph t) (graph (actor_inserted t p)) (inserted_relabels t p v (leb-true p (actors t) y) (ltb-true (actors t) (actor_room t) z));
        actors = new_actors (raised p) (widen p) (actors t + 1) t v ∙ add-one (actors t);
        change_rooms = refl;
        edge_rooms = refl;
      }))
      (λ n. rw (y, n) (same_hub (hub t))))
      (λ n. rw n (same_hub (hub t))))

  -- one actor less, or as it was
  pub removed_agrees : (p : ℕ) → SameHub (actor_dropped (hub t) p) (hub (if_actors_done (removing t p) (actor_removed t p) t))
  unfolding actor_dropped with_actors accepts removing
  removed_agrees p =
      rw (← removing_agrees t p)
      (by_bool (leb (actors t) p) (λ y. rw y (same_hub (hub t)))
      (λ n.
      by_bool (eqb (count_of t.nodes p (changes t)) 0)
      (λ y.
      rw (n, y)
      (record {
        graphs = relabels_same (down_from p) (graph t) (graph (actor_removed t p)) (removed_relabels t p v (leb-false (actors t) p n) (eqb-true (count_of t.nodes p (changes t)) 0 y));
        actors = new_actors (lower p) (narrow p) (actors t - 1) t v;
        change_rooms = refl;
        edge_rooms = refl;
      }))
      (λ m. rw (n, m) (same_hub (hub t)))))
