use Rattle.std.proofs.Common.{ℕ, zero, suc, ◌≡◌, ◌*◌, ◌≤◌, ◌<◌, refl, sym, ap, ◌∙◌, List, [], ◌∷◌, length, get_or, arith}
use Rattle.std.specs.Prelude.{Option, Some, None}
use Rattle.std.specs.List.{slice_get}
use Rattle.std.specs.Option.{unwrap_or}
use Rattle.hash.specs.Hash.{find_hash}
use Rattle.tables.specs.Tables.{tables, first_at}
use Rattle.tables.specs.NodeLaws.{node_low}
use Rattle.deps.specs.Parents.{edge_of_hash}
use Rattle.deps.specs.ParentsLaws.{edge_bad, edge_short, edge_unknown, edge_found}
use Rattle.deps.proofs.first_edge.Goals.{then-hash-ne32-via-then-hash-ne32, then-hash-ne32-via-else-hash-ne32+then-hashes-n}
use Rattle.deps.proofs.first_edge.Goals as goal

-- what a slice has at i, or 0
at_or : (xs : List ℕ) (i : ℕ) → unwrap_or (slice_get xs i) 0 ≡ get_or xs i 0
at_or [] i = refl
at_or (x ∷ xs) zero = refl
at_or (x ∷ xs) (suc i) = at_or xs i

-- the search among the first n hashes, as many as are counted
module _ (hs ns us h : List ℕ) (n : ℕ) (counted : n ≡ get_or us 0 0) (one : length h ≡ 32) where
  too_short : length hs < 32 * n → 0 ≡ edge_of_hash hs ns us h
  too_short l = sym (edge_short hs ns us h one (rw (← counted) l))

  module _ (fits : 32 * n ≤ length hs) where
    unknown : find_hash hs n h ≡ None → 0 ≡ edge_of_hash hs ns us h
    unknown q = sym (edge_unknown hs ns us h one (rw (← counted) fits) (rw (← counted) q))

    begins : (k : ℕ) → find_hash hs n h ≡ Some k → first_at ns k ≡ edge_of_hash hs ns us h
    begins k q = sym (edge_found hs ns us h one (rw (← counted) fits) k (rw (← counted) q))

    low : (k : ℕ) → find_hash hs n h ≡ Some k → k < n
    low k q = node_low (tables hs ns [] [] [] (n ∷ [])) h k q

pub returns-then-hash-ne32 : goal.returns-then-hash-ne32
returns-then-hash-ne32 c =
    let s = c.args in
    let n = c.unwrap_or-n.ensures ∙ ap (λ (o : Option ℕ). unwrap_or o 0) (c.copied.ensures ∙ c.first.ensures.value) ∙ at_or s.counts.now 0 in
    elim c.then-hash-ne32.branch [
      | then-hash-ne32-via-then-hash-ne32 w ↦ sym (edge_bad s.hashes.now s.nodes.now s.counts.now s.hash.now w.if-hash-ne32.true)
      | then-hash-ne32-via-else-hash-ne32+then-hashes-n w ↦ too_short s.hashes.now s.nodes.now s.counts.now s.hash.now _ n w.if-hash-ne32.false w.if-hashes-n.true
    ]

pub returns-in_default : goal.returns-in_default
returns-in_default c =
    let s = c.args in
    let n = c.unwrap_or-n.ensures ∙ ap (λ (o : Option ℕ). unwrap_or o 0) (c.copied.ensures ∙ c.first.ensures.value) ∙ at_or s.counts.now 0 in
    unknown s.hashes.now s.nodes.now s.counts.now s.hash.now _ n c.if-hash-ne32.false c.if-hashes-n.false (sym c.find.ensures ∙ c.in_default.is)

pub overflow_mul-k : goal.overflow_mul-k
overflow_mul-k c =
    let s = c.args in
    let l = node_low (tables s.hashes.now s.nodes.now [] [] [] (c.unwrap_or-n.result ∷ [])) s.hash.now _ (sym c.find.ensures ∙ c.in-Some.is) in
    let f = c.unwrap_or-n.type_inv in
    omega arith

pub overflow_add-k : goal.overflow_add-k
overflow_add-k c =
    let s = c.args in
    let l = node_low (tables s.hashes.now s.nodes.now [] [] [] (c.unwrap_or-n.result ∷ [])) s.hash.now _ (sym c.find.ensures ∙ c.in-Some.is) in
    let f = c.unwrap_or-n.type_inv in
    omega arith

pub returns : goal.returns
returns c =
    let s = c.args in
    let n = c.unwrap_or-n.ensures ∙ ap (λ (o : Option ℕ). unwrap_or o 0) (c.copied.ensures ∙ c.first.ensures.value) ∙ at_or s.counts.now 0 in
    let b = begins s.hashes.now s.nodes.now s.counts.now s.hash.now _ n c.if-hash-ne32.false c.if-hashes-n.false _ (sym c.find.ensures ∙ c.in-Some.is) in
    c.unwrap_or.ensures ∙ ap (λ (o : Option ℕ). unwrap_or o 0) c.copied-2.ensures ∙ c.get.ensures.lookup.4 (omega arith) 0 ∙ b
