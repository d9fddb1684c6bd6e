-- The theorem of loading: where the columns are accepted, the tables then hold exactly what they list.
-- Assumes nothing.
use Rattle.std.specs.Prelude.{◌≡◌, refl, true, Ok}
use Rattle.std.proofs.Common.{sym, ap, ◌∙◌, arith}
use Rattle.std.proofs.Math.Path.{subst}
use Prim.Native.Nat.{ℕ, zero, suc, ◌≤◌, ◌<◌}
use Rattle.paper.specs.Lists.{each_below, hashes_of}
use Rattle.paper.specs.Numbers.{number, done}
use Rattle.paper.specs.Graph.{Graph, heads}
use Rattle.paper.specs.ProofWords.{Extends}
use Rattle.paper.specs.Adding.{Verdict, plain, outcome, accepts, grown, added as paper-added, judged as paper-judged}
use Rattle.paper.specs.Loading.{Columns, listed_changes, column_graph, same_hashes, change_of_columns, changes_of}
use Rattle.paper.proofs.Same.{SameGraph, SameHub, heads_same}
use Rattle.paper.proofs.Loading.{Agreed, agreed}
use Rattle.tables.specs.Tables.{Tables, changes, actors, change_room_of, edge_room_of, actor_room, graph}
use Rattle.tables.specs.Valid.{Lengths, Valid}
use Rattle.judge.specs.Judge.{tables_judged}
use Rattle.judge.specs.JudgeLaws.{is_done}
use Rattle.judge.specs.Hub.{hub}
use Rattle.judge.specs.HubLaws.{judged_agrees}
use Rattle.graph.specs.Place.{added_tables, adds}
use Rattle.graph.specs.HubGrown.{added_hub}
use Rattle.graph.specs.Life.{added_valid}
use Rattle.actors.specs.Actors.{opened}
use Rattle.actors.specs.Lives.{opened_valid}
use Rattle.load.specs.Load.{loading, loaded}
use Rattle.load.specs.LoadLaws.{adds_last}
use Rattle.load.specs.DoneLaws.{Taken, taken, loaded_done}
use Rattle.load.specs.Accepted.{accepted, extended}

-- the tables s have the first k changes of the columns, and the room of t
pub record Upto (c : Columns) (t s : Tables) (k : ℕ) : Type 0 where
  pub size : changes s ≡ k
  pub extends : Extends (graph s) (column_graph c)
  pub counted : actors s ≡ c.actor_count
  pub change_room : change_room_of s ≡ change_room_of t
  pub edge_room : edge_room_of s ≡ edge_room_of t
  pub valid : Valid s

-- an accepted load, s the tables afterwards
pub record Loads (t : Tables) (c : Columns) (s : Tables) : Type 0 where
  -- each change is accepted in its turn
  pub each_done : (k : ℕ) → k < listed_changes c → tables_judged (adds (opened t c.actor_count) (each_below (change_of_columns c) k)) (change_of_columns c k) ≡ Ok tt
  -- the graph has exactly the columns' changes, in order
  pub listed_graph : SameGraph (column_graph c) (graph s)
  -- its heads are the stated ones
  pub heads_right : same_hashes (hashes_of c.heads) (heads (graph s)) ≡ true
  pub counted : actors s ≡ c.actor_count
  pub valid : Valid s

-- what extends a graph extends one that is the same
extends_same : (g h k : Graph) → SameGraph g h → Extends g k → Extends h k
extends_same g h k e x =
    let n = e.sizes in
    let low : (i : ℕ) → i < h.size → i < g.size = λ i b. omega arith in
    record {
      longer = (let b = x.longer in omega arith);
      hashes = λ i b. x.hashes i (low i b) ∙ sym (e.extends.hashes i (low i b));
      max_ops = λ i b. x.max_ops i (low i b) ∙ sym (e.extends.max_ops i (low i b));
      op_counts = λ i b. x.op_counts i (low i b) ∙ sym (e.extends.op_counts i (low i b));
      actors = λ i b. x.actors i (low i b) ∙ sym (e.extends.actors i (low i b));
      seqs = λ i b. x.seqs i (low i b) ∙ sym (e.extends.seqs i (low i b));
      depss = λ i b. x.depss i (low i b) ∙ sym (e.extends.depss i (low i b));
    }

-- where nothing is missing, they are the same
whole_same : (g h : Graph) → Extends g h → g.size ≡ h.size → SameGraph h g
whole_same g h x e =
    let low : (i : ℕ) → i < h.size → i < g.size = λ i b. omega arith in
    record {
      extends =
          record {
            longer = omega arith;
            hashes = λ i b. sym (x.hashes i (low i b));
            max_ops = λ i b. sym (x.max_ops i (low i b));
            op_counts = λ i b. sym (x.op_counts i (low i b));
            actors = λ i b. sym (x.actors i (low i b));
            seqs = λ i b. sym (x.seqs i (low i b));
            depss = λ i b. sym (x.depss i (low i b));
          };
      sizes = e;
    }

module _ (t : Tables) (c : Columns) (l : Lengths t) (w : Taken (change_room_of t) (edge_room_of t) (actor_room t) c) where
  agreeing : Agreed c
  agreeing = agreed c w.agreeing

  -- change k is accepted by tables with those before it
  module _ (s : Tables) (k : ℕ) (u : Upto c t s k) (b : k < listed_changes c) where
    low : changes s < listed_changes c
    low = let e = u.size in omega arith

    paper_done : paper-judged (hub s) (change_of_columns c (changes s)) ≡ plain done
    paper_done =
        let n = u.change_room in
        let m = u.edge_room in
        let i = w.nodes_fit in
        let j = w.edges_fit in
        accepted c agreeing (hub s) u.extends low u.counted (omega arith) (omega arith)

    done_at : tables_judged s (change_of_columns c (changes s)) ≡ Ok tt
    done_at = is_done (tables_judged s (change_of_columns c (changes s))) (ap (λ (v : Verdict). number (outcome v)) (judged_agrees s (change_of_columns c (changes s)) u.valid.sound ∙ paper_done))

    pub done_now : tables_judged s (change_of_columns c k) ≡ Ok tt
    done_now = ap (λ (i : ℕ). tables_judged s (change_of_columns c i)) (sym u.size) ∙ done_at

    grown_hub : SameHub (record { graph = grown (graph s) (change_of_columns c (changes s)); actors = actors s; change_room = change_room_of s; edge_room = edge_room_of s }) (hub (added_tables s (change_of_columns c (changes s))))
    unfolding paper-added accepts
    grown_hub = rw paper_done at (added_hub s (change_of_columns c (changes s)) u.valid)

    next_at : Upto c t (added_tables s (change_of_columns c (changes s))) (suc (changes s))
    unfolding grown
    next_at =
        let h = grown_hub in
        record {
          size = h.graphs.sizes;
          extends = extends_same (grown (graph s) (change_of_columns c (changes s))) (graph (added_tables s (change_of_columns c (changes s)))) (column_graph c) h.graphs (extended c agreeing (hub s) u.extends low);
          counted = h.actors ∙ u.counted;
          change_room = h.change_rooms ∙ u.change_room;
          edge_room = h.edge_rooms ∙ u.edge_room;
          valid = added_valid s (change_of_columns c (changes s)) u.valid;
        }

    upto_next : Upto c t (added_tables s (change_of_columns c k)) (suc k)
    upto_next = subst (λ (i : ℕ). Upto c t (added_tables s (change_of_columns c i)) (suc i)) u.size next_at

  upto : (k : ℕ) → k ≤ listed_changes c → Upto c t (adds (opened t c.actor_count) (each_below (change_of_columns c) k)) k
  unfolding adds each_below
  upto zero b = record {
    size = refl;
    extends =
        record {
          longer = omega arith;
          hashes = λ i h. absurd (omega arith);
          max_ops = λ i h. absurd (omega arith);
          op_counts = λ i h. absurd (omega arith);
          actors = λ i h. absurd (omega arith);
          seqs = λ i h. absurd (omega arith);
          depss = λ i h. absurd (omega arith);
        };
    counted = refl;
    change_room = refl;
    edge_room = refl;
    valid = opened_valid t c.actor_count l w.actors_fit;
  }
  upto (suc k) b =
      subst (λ (s : Tables). Upto c t s (suc k)) (sym (adds_last (opened t c.actor_count) (each_below (change_of_columns c) k) (change_of_columns c k)))
      (upto_next (adds (opened t c.actor_count) (each_below (change_of_columns c) k)) k (upto k (omega arith)) b)

  final : Upto c t (adds (opened t c.actor_count) (changes_of c)) (listed_changes c)
  unfolding changes_of
  final = upto (listed_changes c) (omega arith)

  filled : Loads t c (adds (opened t c.actor_count) (changes_of c))
  filled =
      let same = whole_same (graph (adds (opened t c.actor_count) (changes_of c))) (column_graph c) final.extends final.size in
      record {
        each_done = λ k b. done_now (adds (opened t c.actor_count) (each_below (change_of_columns c) k)) k (upto k (omega arith)) b;
        listed_graph = same;
        heads_right = ap (same_hashes (hashes_of c.heads)) (heads_same (column_graph c) (graph (adds (opened t c.actor_count) (changes_of c))) same) ∙ agreeing.heads_right;
        counted = final.counted;
        valid = final.valid;
      }

-- the theorem
pub loads : (t : Tables) (c : Columns) → Lengths t → number (loading t c) ≡ 0 → Loads t c (loaded t c)
loads t c l e = subst (Loads t c) (sym (loaded_done t c e)) (filled t c l (taken (change_room_of t) (edge_room_of t) (actor_room t) c e))
