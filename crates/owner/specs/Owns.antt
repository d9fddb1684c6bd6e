-- Owning by the table of nodes, which is the paper's owning on the graph that the tables hold.
-- Assumes nothing.
use Rattle.std.specs.Prelude.{◌≡◌, refl, Bool, false, ◌&&◌, List, ℕ, ◌+◌, ◌≤◌, ◌<◌, eqb, ltb, leb}
use borrow.Author.Tests.{eq-eqb, ne_eqb, le-leb, lt-leb}
use Rattle.paper.specs.Lists.{first_below}
use Rattle.paper.specs.Graph.{is_in_range, owns, owner}
use Rattle.tables.specs.Tables.{Tables, changes, actor_at, max_op_at, ops_at, graph}

-- node k is a change of the actor a whose op range holds the counter c
unfoldable pub owns_at : List ℕ → ℕ → ℕ → ℕ → Bool
owns_at ns a c k = eqb (actor_at ns k) a && (leb c (max_op_at ns k) && ltb (max_op_at ns k) (c + ops_at ns k))

pub owner_is : (t : Tables) (a c : ℕ) → first_below (owns_at t.nodes a c) (changes t) ≡ owner (graph t) a c
unfolding owner owns is_in_range owns_at
owner_is t a c = refl

module _ (ns : List ℕ) (a c k : ℕ) where
  pub not_actor : (actor_at ns k ≡ a → ⊥) → owns_at ns a c k ≡ false
  unfolding owns_at
  not_actor n = rw (ne_eqb (actor_at ns k) a n)

  pub too_high : actor_at ns k ≡ a → max_op_at ns k < c → owns_at ns a c k ≡ false
  unfolding owns_at
  too_high e l = rw (eq-eqb (actor_at ns k) a e, lt-leb c (max_op_at ns k) l)

  pub by_count : actor_at ns k ≡ a → c ≤ max_op_at ns k → owns_at ns a c k ≡ ltb (max_op_at ns k) (c + ops_at ns k)
  unfolding owns_at
  by_count e l = rw (eq-eqb (actor_at ns k) a e, le-leb c (max_op_at ns k) l)
