-- Graphs that agree on their nodes give a session the same answers.
-- Assumes nothing.
use Rattle.std.specs.Prelude.{◌≡◌, true, ℕ, zero, suc, eqb, ltb}
use Rattle.std.proofs.Math.Path.{refl, ap}
use Rattle.std.proofs.Common.{sym, ap₂, ◌∙◌, arith, eq-eqb, ltb-true}
use mathlib.Core.List.{List, [], ◌∷◌, ◌++◌, map}
use Rattle.paper.specs.Lists.{mem, each_below}
use Rattle.paper.specs.Text.{list_text, clock_text, hex_of}
use Rattle.paper.specs.Graph as graph
use Rattle.paper.specs.Graph.{Graph, nodes, above, ValidGraph}
use Rattle.paper.specs.Adding.{Hub}
use Rattle.paper.specs.Command.{Command, heads, clock, missing, owner, add, bad, heads_word, clock_word, missing_word, owner_word, add_word}
use Rattle.paper.specs.Session.{answer_line, verdict_text, owner_text, entries, missed, change_of, answer, after_command}
use Rattle.paper.proofs.Bools.{by_bool, or_left, or_right, pick_mem}
use Rattle.paper.proofs.Same.{SameGraph, SameHub, nodes_same, judged_same, added_same, clock_same, missing_same, heads_same, owner_same}

pub sym_graph : (g g' : Graph) → SameGraph g g' → SameGraph g' g
sym_graph g g' e =
    let n = e.sizes in
    let x = e.extends in
    record {
      extends =
          record {
            longer = omega arith;
            hashes = λ k l. sym (x.hashes k (omega arith));
            max_ops = λ k l. sym (x.max_ops k (omega arith));
            op_counts = λ k l. sym (x.op_counts k (omega arith));
            actors = λ k l. sym (x.actors k (omega arith));
            seqs = λ k l. sym (x.seqs k (omega arith));
            depss = λ k l. sym (x.depss k (omega arith));
          };
      sizes = sym n;
    }

pub sym_hub : (u v : Hub) → SameHub u v → SameHub v u
sym_hub u v e = record { graphs = sym_graph u.graph v.graph e.graphs; actors = sym e.actors; change_rooms = sym e.change_rooms; edge_rooms = sym e.edge_rooms }

-- ---- lists over the nodes

each_same : (f g : ℕ → ℕ) (n : ℕ) → ((k : ℕ) → f k ≡ g k) → each_below f n ≡ each_below g n
unfolding each_below
each_same f g zero h = refl
each_same f g (suc n) h = ap₂ (λ (l : List ℕ) (x : ℕ). l ++ (x ∷ [])) (each_same f g n h) (h n)

map_same : (f g : ℕ → List ℕ) (s : List ℕ) → ((k : ℕ) → mem k s ≡ true → f k ≡ g k) → map f s ≡ map g s
unfolding mem
map_same f g [] h = refl
map_same f g (k ∷ s) h =
    ap₂ (λ (x : List ℕ) (xs : List (List ℕ)). x ∷ xs) (h k (or_left (eqb k k) (mem k s) (eq-eqb k k refl))) (map_same f g s (λ j m. h j (or_right (eqb j k) (mem j s) m)))

-- ---- the answers

module _ (u v : Hub) (e : SameHub u v) (ok : ValidGraph u.graph) where
  entries_same : (hs : List (List ℕ)) → entries v hs ≡ entries u hs
  unfolding entries
  entries_same hs =
      rw (nodes_same u.graph v.graph e.graphs hs, e.actors)
      (each_same (graph.clock v.graph (nodes u.graph hs)) (graph.clock u.graph (nodes u.graph hs)) u.actors
      (clock_same u.graph v.graph ok e.graphs (nodes u.graph hs)))

  missed_same : (hs : List (List ℕ)) → missed v hs ≡ missed u hs
  unfolding missed graph.missing
  missed_same hs =
      ap (λ (s : List ℕ). map v.graph.hash (graph.missing v.graph s)) (nodes_same u.graph v.graph e.graphs hs)
      ∙ ap (map v.graph.hash) (missing_same u.graph v.graph ok e.graphs (nodes u.graph hs))
      ∙ map_same v.graph.hash u.graph.hash (graph.missing u.graph (nodes u.graph hs))
      (λ k m. e.graphs.extends.hashes k (pick_mem (above u.graph (graph.clock u.graph (nodes u.graph hs))) u.graph.size k m).0)

  owner_text_lem : (k : ℕ) → owner_text v.graph k ≡ owner_text u.graph k
  unfolding owner_text
  owner_text_lem k =
      rw e.graphs.sizes
      (by_bool (ltb k u.graph.size)
      (λ t. rw t (ap hex_of (e.graphs.extends.hashes k (ltb-true k u.graph.size t))))
      (λ f. rw f))

  pub answer_same : (x : Command) → answer v x ≡ answer u x
  unfolding answer
  answer_same heads = ap (λ (l : List (List ℕ)). answer_line heads_word (list_text l)) (heads_same u.graph v.graph e.graphs)
  answer_same (clock hs) = ap (λ (l : List ℕ). answer_line clock_word (clock_text l)) (entries_same hs)
  answer_same (missing hs) = ap (λ (l : List (List ℕ)). answer_line missing_word (list_text l)) (missed_same hs)
  answer_same (owner a c) =
      ap (answer_line owner_word) (ap (owner_text v.graph) (owner_same u.graph v.graph e.graphs a c) ∙ owner_text_lem (graph.owner u.graph a c))
  answer_same (add h a s m k ds) = ap (λ y. answer_line add_word (verdict_text (change_of h a s m k ds) y)) (judged_same u v (change_of h a s m k ds) e)
  answer_same bad = refl

pub after_same : (u v : Hub) → SameHub u v → (x : Command) → SameHub (after_command u x) (after_command v x)
unfolding after_command
after_same u v e heads = e
after_same u v e (clock hs) = e
after_same u v e (missing hs) = e
after_same u v e (owner a c) = e
after_same u v e (add h a s m k ds) = added_same u v (change_of h a s m k ds) e
after_same u v e bad = e
