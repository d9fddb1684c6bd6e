-- Where a list of edges begins, from each test.
-- Assumes nothing.
use Rattle.std.specs.Prelude.{◌≡◌, ◌&&◌, List, [], ◌∷◌, ℕ, ◌*◌, ◌≤◌, ◌<◌, eqb, leb, length, Some, None}
use Rattle.std.proofs.Common.{ap, ◌∙◌, arith}
use Rattle.std.proofs.Math.ListN.{get_or}
use borrow.Author.Tests.{eq-eqb, ne_eqb, le-leb, lt-leb}
use Rattle.paper.proofs.Bools.{by_bool}
use Rattle.hash.specs.Hash.{find_hash, find_from}
use Rattle.tables.specs.Tables.{first_at}
use Rattle.deps.specs.Parents.{found_edge, edge_of_hash}

module _ (hs ns us h : List ℕ) where
  pub edge_bad : (length h ≡ 32 → ⊥) → edge_of_hash hs ns us h ≡ 0
  unfolding edge_of_hash
  edge_bad n = rw (ne_eqb (length h) 32 n)

  module _ (one : length h ≡ 32) where
    pub edge_short : length hs < 32 * get_or us 0 0 → edge_of_hash hs ns us h ≡ 0
    unfolding edge_of_hash
    edge_short l = rw (eq-eqb (length h) 32 one, lt-leb (32 * get_or us 0 0) (length hs) l)

    module _ (fits : 32 * get_or us 0 0 ≤ length hs) where
      found : edge_of_hash hs ns us h ≡ found_edge ns (find_hash hs (get_or us 0 0) h)
      unfolding edge_of_hash
      found = rw (eq-eqb (length h) 32 one, le-leb (32 * get_or us 0 0) (length hs) fits)

      pub edge_unknown : find_hash hs (get_or us 0 0) h ≡ None → edge_of_hash hs ns us h ≡ 0
      edge_unknown e = found ∙ ap (found_edge ns) e

      pub edge_found : (k : ℕ) → find_hash hs (get_or us 0 0) h ≡ Some k → edge_of_hash hs ns us h ≡ first_at ns k
      edge_found k e = found ∙ ap (found_edge ns) e

-- nothing is counted
pub edge_uncounted : (hs ns us h : List ℕ) → length us ≡ 0 → edge_of_hash hs ns us h ≡ 0
unfolding edge_of_hash find_hash find_from
edge_uncounted hs ns [] h e = by_bool (eqb (length h) 32 && leb 0 (length hs)) (λ t. rw t) (λ f. rw f)
edge_uncounted hs ns (u ∷ us) h e = absurd (omega arith)
