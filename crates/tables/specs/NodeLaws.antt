-- What a search in the table of hashes finds is the paper's node of the hash.
-- Assumes nothing.
use Rattle.std.specs.Prelude.{◌≡◌, List, ℕ, zero, suc, ◌+◌, ◌≤◌, ◌<◌, ltb, Some, None}
use Rattle.std.proofs.Common.{sym, ◌∙◌, lt-ltb, le-ltb, ltb-true, ltb-false}
use native.Mathlib.Omega.{arith}
use Rattle.paper.specs.Lists.{hash_at, same_list, first_from, first_below}
use Rattle.paper.specs.Graph.{node}
use Rattle.paper.proofs.Bools.{by_bool}
use Rattle.hash.specs.Hash.{same_hash, find_from, find_hash}
use Rattle.tables.specs.Tables.{Tables, changes, graph}
use Rattle.tables.specs.Node.{found_as}
use Rattle.paper.proofs.First.{first_says}

pub found_at : (n k : ℕ) → k < n → found_as n k ≡ Some k
unfolding found_as
found_at n k l = rw (lt-ltb k n l)

pub found_none : (n k : ℕ) → n ≤ k → found_as n k ≡ None
unfolding found_as
found_none n k l = rw (le-ltb k n l)

-- the node of an answer
pub at_node : (n k j : ℕ) → found_as n k ≡ Some j → k ≡ j
unfolding found_as
at_node n k j e = by_bool (ltb k n) (λ t. let q : Some k ≡ Some j = rw t at e in cc) (λ f. let q : None ≡ Some j = rw f at e in let z : ◌≡◌ {A = ℕ} 0 1 = cc in absurd (omega arith))

pub at_low : (n k j : ℕ) → found_as n k ≡ Some j → k < n
unfolding found_as
at_low n k j e = by_bool (ltb k n) (λ t. ltb-true k n t) (λ f. let q : None ≡ Some j = rw f at e in let z : ◌≡◌ {A = ℕ} 0 1 = cc in absurd (omega arith))

pub unknown_high : (n k : ℕ) → found_as n k ≡ None → n ≤ k
unfolding found_as
unknown_high n k e = by_bool (ltb k n) (λ t. let q : Some k ≡ None = rw t at e in let z : ◌≡◌ {A = ℕ} 0 1 = cc in absurd (omega arith)) (λ f. ltb-false k n f)

-- ---- the search for a hash

find_from_lem : (hs h : List ℕ) (n left k : ℕ) → k + left ≡ n → find_from hs h left k ≡ found_as n (first_from (λ j. same_list (hash_at hs j) h) left k)
unfolding find_from first_from same_hash
find_from_lem hs h n zero k e = sym (found_none n k (omega arith))
find_from_lem hs h n (suc left) k e =
    by_bool (same_list (hash_at hs k) h) (λ t. rw t (sym (found_at n k (omega arith)))) (λ f. rw f (find_from_lem hs h n left (suc k) (omega arith)))

module _ (t : Tables) (h : List ℕ) where
  -- the one equation that the others follow from
  pub find_node : find_hash t.hashes (changes t) h ≡ found_as (changes t) (node (graph t) h)
  unfolding find_hash node first_below
  find_node = find_from_lem t.hashes h (changes t) (changes t) 0 (omega arith)

  pub node_at : (k : ℕ) → find_hash t.hashes (changes t) h ≡ Some k → node (graph t) h ≡ k
  node_at k e = at_node (changes t) (node (graph t) h) k (sym find_node ∙ e)

  pub node_low : (k : ℕ) → find_hash t.hashes (changes t) h ≡ Some k → k < changes t
  node_low k e = let a = node_at k e in let b = at_low (changes t) (node (graph t) h) k (sym find_node ∙ e) in omega arith

  pub node_none : find_hash t.hashes (changes t) h ≡ None → node (graph t) h ≡ changes t
  unfolding node
  node_none e =
      let a = unknown_high (changes t) (node (graph t) h) (sym find_node ∙ e) in
      let b = (first_says (λ j. same_list (hash_at t.hashes j) h) (changes t)).within in
      omega arith
