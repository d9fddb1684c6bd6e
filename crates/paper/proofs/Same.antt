-- Graphs that agree on their nodes: every judgement and every answer is the same over the one as over the other. (The columns of a graph are
-- functions, and mean nothing at the size and above; so two descriptions of one graph need not be equal.)
-- Assumes nothing.
use mathlib.Core.Path.{◌≡◌, refl, ap, ap₂, ◌∙◌}
use mathlib.Core.Bool.{Bool, true, not, cond}
use mathlib.Core.List.{List, [], ◌∷◌, map}
use Prim.Native.Nat.{ℕ, suc, ◌<◌}
use native.Mathlib.Omega.{arith}
use lib.Dec.{eqb, ltb}
use lib.ListN.{length}
use borrow.Author.Tests.{eq-eqb, ne_eqb}
use Rattle.paper.specs.Lists.{mem, pick, tally, some_below, first_below, sum_below, hashes_of, same_list, ascending}
use Rattle.paper.specs.Graph.{Graph, node, nodes, hist, clock, above, missing, wanted, head_nodes, heads, is_in_range, owns, owner, ValidGraph}
use Rattle.paper.specs.ProofWords.{Extends, Relabels}
use Rattle.paper.specs.Adding.{Hub, Change, seq_for_actor, edges_used, first_unknown_place, accepts, judged, put, grown, added}
use Rattle.paper.proofs.Bools.{by_bool, below_suc, or_left, or_right, pick_mem, pick_ext, tally_ext, some_ext, sum_ext}
use Rattle.paper.proofs.First.{first_ext}
use Rattle.paper.proofs.Relabel.{valid_relabel, hist_relabel, clock_relabel}

-- the same nodes, with the same columns
pub record SameGraph (g g' : Graph) : Type 0 where
  pub extends : Extends g g'
  pub sizes : g'.size ≡ g.size

-- and the same room
pub record SameHub (u u' : Hub) : Type 0 where
  pub graphs : SameGraph u.graph u'.graph
  pub actors : u'.actors ≡ u.actors
  pub change_rooms : u'.change_room ≡ u.change_room
  pub edge_rooms : u'.edge_room ≡ u.edge_room

pub same_graph : (g : Graph) → SameGraph g g
same_graph g = record { extends = record { longer = omega arith; hashes = λ k l. refl; max_ops = λ k l. refl; op_counts = λ k l. refl; actors = λ k l. refl; seqs = λ k l. refl; depss = λ k l. refl }; sizes = refl }

pub same_hub : (u : Hub) → SameHub u u
same_hub u = record { graphs = same_graph u.graph; actors = refl; change_rooms = refl; edge_rooms = refl }

pub graph_trans : {g g' g'' : Graph} → SameGraph g g' → SameGraph g' g'' → SameGraph g g''
graph_trans {g} {g'} {g''} e f =
    let b : (k : ℕ) → k < g.size → k < g'.size = λ k l. (let n = e.sizes in omega arith) in
    record {
      extends =
          record {
            longer = let n = e.sizes in let m = f.sizes in omega arith;
            hashes = λ k l. f.extends.hashes k (b k l) ∙ e.extends.hashes k l;
            max_ops = λ k l. f.extends.max_ops k (b k l) ∙ e.extends.max_ops k l;
            op_counts = λ k l. f.extends.op_counts k (b k l) ∙ e.extends.op_counts k l;
            actors = λ k l. f.extends.actors k (b k l) ∙ e.extends.actors k l;
            seqs = λ k l. f.extends.seqs k (b k l) ∙ e.extends.seqs k l;
            depss = λ k l. f.extends.depss k (b k l) ∙ e.extends.depss k l;
          };
      sizes = f.sizes ∙ e.sizes;
    }

pub hub_trans : {u u' u'' : Hub} → SameHub u u' → SameHub u' u'' → SameHub u u''
hub_trans e f = record { graphs = graph_trans e.graphs f.graphs; actors = f.actors ∙ e.actors; change_rooms = f.change_rooms ∙ e.change_rooms; edge_rooms = f.edge_rooms ∙ e.edge_rooms }

-- ---- adding

module _ (g g' : Graph) (e : SameGraph g g') where
  pub node_same : (h : List ℕ) → node g' h ≡ node g h
  unfolding node
  node_same h =
      ap (first_below (λ k. same_list (g'.hash k) h)) e.sizes
      ∙ first_ext (λ k. same_list (g'.hash k) h) (λ k. same_list (g.hash k) h) g.size (λ k l. ap (λ (x : List ℕ). same_list x h) (e.extends.hashes k l))

  pub nodes_same : (hs : List (List ℕ)) → nodes g' hs ≡ nodes g hs
  unfolding nodes
  nodes_same [] = refl
  nodes_same (h ∷ hs) = ap₂ (λ (k : ℕ) (ks : List ℕ). k ∷ ks) (node_same h) (nodes_same hs)

  pub seq_same : (a : ℕ) → seq_for_actor g' a ≡ seq_for_actor g a
  unfolding seq_for_actor
  seq_same a =
      ap (tally (λ k. eqb (g'.actor k) a)) e.sizes
      ∙ tally_ext (λ k. eqb (g'.actor k) a) (λ k. eqb (g.actor k) a) g.size (λ k l. ap (λ (x : ℕ). eqb x a) (e.extends.actors k l))

  pub edges_same : edges_used g' ≡ edges_used g
  unfolding edges_used
  edges_same =
      ap (sum_below (λ k. length (g'.deps k))) e.sizes
      ∙ sum_ext (λ k. length (g'.deps k)) (λ k. length (g.deps k)) g.size (λ k l. ap length (e.extends.depss k l))

  pub first_unknown_same : (hs : List (List ℕ)) → first_unknown_place g' hs ≡ first_unknown_place g hs
  unfolding first_unknown_place
  first_unknown_same [] = refl
  first_unknown_same (h ∷ hs) = ap₂ (λ (b : Bool) (r : ℕ). cond b (suc r) 0) (ap₂ (λ (k n : ℕ). ltb k n) (node_same h) e.sizes) (first_unknown_same hs)

  put_same {ℓ} : {A : Type ℓ} (v v' : A) (f f' : ℕ → A) → v' ≡ v → ((k : ℕ) → k < g.size → f' k ≡ f k) → (k : ℕ) → k < suc g.size → put g'.size v' f' k ≡ put g.size v f k
  put_same v v' f f' p q k l =
      ap (λ (n : ℕ). put n v' f' k) e.sizes
      ∙ below_suc (λ (j : ℕ). put g.size v' f' j ≡ put g.size v f j) g.size k l (λ b. rw (ne_eqb k g.size (λ y. omega arith)) (q k b)) (rw (eq-eqb g.size g.size refl) p)

  pub grown_same : (x : Change) → SameGraph (grown g x) (grown g' x)
  unfolding grown
  grown_same x =
      let x' = e.extends in
      record {
        extends =
            record {
              longer = let n = e.sizes in omega arith;
              hashes = put_same x.hash x.hash g.hash g'.hash refl x'.hashes;
              max_ops = put_same x.max_op x.max_op g.max_op g'.max_op refl x'.max_ops;
              op_counts = put_same x.ops x.ops g.ops g'.ops refl x'.op_counts;
              actors = put_same x.actor x.actor g.actor g'.actor refl x'.actors;
              seqs = put_same x.seq x.seq g.seq g'.seq refl x'.seqs;
              depss = put_same (nodes g (hashes_of x.deps)) (nodes g' (hashes_of x.deps)) g.deps g'.deps (nodes_same (hashes_of x.deps)) x'.depss;
            };
        sizes = ap suc e.sizes;
      }

pub judged_same : (u u' : Hub) (x : Change) → SameHub u u' → judged u' x ≡ judged u x
unfolding judged
judged_same u u' x e =
    let g = u.graph in
    let g' = u'.graph in
    rw (node_same g g' e.graphs x.hash, first_unknown_same g g' e.graphs (hashes_of x.deps), e.actors, seq_same g g' e.graphs x.actor, e.change_rooms, e.edge_rooms, edges_same g g' e.graphs, e.graphs.sizes)

pub added_same : (u u' : Hub) (x : Change) → SameHub u u' → SameHub (added u x) (added u' x)
unfolding added
added_same u u' x e =
    rw (judged_same u u' x e)
    (by_bool (accepts (judged u x))
    (λ y. rw y (record { graphs = grown_same u.graph u'.graph e.graphs x; actors = e.actors; change_rooms = e.change_rooms; edge_rooms = e.edge_rooms }))
    (λ n. rw n e))

-- ---- answers

module _ (g g' : Graph) (v : ValidGraph g) (e : SameGraph g g') where
  relabels : Relabels (λ a. a) g g'
  relabels =
      record {
        sizes = e.sizes;
        actors = e.extends.actors;
        hashes = e.extends.hashes;
        seqs = e.extends.seqs;
        max_ops = e.extends.max_ops;
        op_counts = e.extends.op_counts;
        depss = e.extends.depss;
        apart = λ j k lj lk q. q;
      }

  pub valid_same : ValidGraph g'
  valid_same = valid_relabel (λ a. a) g g' v relabels

  pub hist_same : (s : List ℕ) (k : ℕ) → hist g' s k ≡ hist g s k
  hist_same = hist_relabel (λ a. a) g g' v relabels

  pub clock_same : (s : List ℕ) (a : ℕ) → clock g' s a ≡ clock g s a
  clock_same s a = clock_relabel (λ a. a) g g' v relabels s a (λ k l q. q)

  pub missing_same : (s : List ℕ) → missing g' s ≡ missing g s
  unfolding missing above
  missing_same s =
      ap (pick (above g' (clock g' s))) e.sizes
      ∙ pick_ext (above g' (clock g' s)) (above g (clock g s)) g.size
      (λ k l. ap₂ (λ (c q : ℕ). ltb c q) (clock_same s (g'.actor k) ∙ ap (clock g s) (e.extends.actors k l)) (e.extends.seqs k l))

module _ (g g' : Graph) (e : SameGraph g g') where
  pub wanted_same : (k : ℕ) → wanted g' k ≡ wanted g k
  unfolding wanted
  wanted_same k =
      ap (some_below (λ m. mem k (g'.deps m))) e.sizes
      ∙ some_ext (λ m. mem k (g'.deps m)) (λ m. mem k (g.deps m)) g.size (λ m l. ap (mem k) (e.extends.depss m l))

  pub head_nodes_same : head_nodes g' ≡ head_nodes g
  unfolding head_nodes
  head_nodes_same = ap (pick (λ k. not (wanted g' k))) e.sizes ∙ pick_ext (λ k. not (wanted g' k)) (λ k. not (wanted g k)) g.size (λ k l. ap not (wanted_same k))

  map_same : (f f' : ℕ → List ℕ) (s : List ℕ) → ((k : ℕ) → mem k s ≡ true → f' k ≡ f k) → map f' s ≡ map f s
  unfolding mem
  map_same f f' [] h = refl
  map_same f f' (k ∷ s) h =
      ap₂ (λ (x : List ℕ) (xs : List (List ℕ)). x ∷ xs) (h k (or_left (eqb k k) (mem k s) (eq-eqb k k refl))) (map_same f f' s (λ j m. h j (or_right (eqb j k) (mem j s) m)))

  pub heads_same : heads g' ≡ heads g
  unfolding heads head_nodes
  heads_same =
      ap (λ (s : List ℕ). ascending (map g'.hash s)) head_nodes_same
      ∙ ap ascending (map_same g.hash g'.hash (head_nodes g) (λ k m. e.extends.hashes k (pick_mem (λ j. not (wanted g j)) g.size k m).0))

  pub owner_same : (a c : ℕ) → owner g' a c ≡ owner g a c
  unfolding owner owns is_in_range
  owner_same a c =
      ap (first_below (owns g' a c)) e.sizes
      ∙ first_ext (owns g' a c) (owns g a c) g.size (λ k l. rw (e.extends.actors k l, e.extends.max_ops k l, e.extends.op_counts k l))
