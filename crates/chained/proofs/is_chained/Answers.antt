-- Every node is linked, which is the definition on valid tables.
use Rattle.std.proofs.Common.{◌≡◌, ℕ, ◌<◌, get_or, Bool, true, false, length, MatchBool, sym, refl, ◌∙◌, arith, rules}
use Rattle.std.specs.List.{AllWithin, HoldsAt, range_with_len}
use Rattle.std.proofs.lemmas.Iterator.{cases_from_all, serves_from_Range, YieldsList-from_range}
use Rattle.std.proofs.lemmas.List.FromFn.{length-range_with_len, get_or-range_with_len}
use Rattle.paper.specs.Lists.{all_below}
use Rattle.paper.proofs.Bools.{all_of}
use Rattle.paper.proofs.Scans.{all_no}
use Rattle.tables.specs.Lent.{lists}
use Rattle.walk.specs.MarkLaws.{node_chain}
use Rattle.walk.specs.RowLaws.{node_fits}
use Rattle.chained.specs.Chained.{linked}
use Rattle.chained.specs.ChainedLaws.{all_linked}
use Rattle.chained.proofs.is_chained.Goals as goal

-- place k of the numbers below n is k
at_range : (n k : ℕ) → k < n → get_or (range_with_len 0 n) k 0 ≡ k
at_range n k l = get_or-range_with_len 0 n k 0 l ∙ (omega arith)

-- what `all` over the numbers below n answers
all_says : (p : ℕ → Bool) (n : ℕ) (r : Bool) → MatchBool r (AllWithin (λ k. p k ≡ true) (range_with_len 0 n) 0 (length (range_with_len 0 n))) ((k : ℕ) × (k < length (range_with_len 0 n)) × HoldsAt (λ k. p k ≡ false) (range_with_len 0 n) k) → r ≡ all_below p n
all_says p n true h =
    sym (all_of p n (λ k l. rw (at_range n k l) at (h k 0 (omega arith) (rw (length-range_with_len 0 n) l))))
all_says p n false h =
    let l : h.0 < n = rw (length-range_with_len 0 n) at h.1 in
    all_no p n h.0 l (rw (at_range n h.0 l) at (h.2 0))

pub all-requires-clause-callable : goal.all-requires-clause-callable
all-requires-clause-callable c =
    let t = lists c.args.tables.now in
    let s = c.requires.sound in
    serves_from_Range (λ x q r. search rules)
    (λ k b l.
    let chain = node_chain t s k l in
    let fits = node_fits t s k l in
    let same = s.lengths.nexts_same in
    search rules)

pub returns : goal.returns
returns c =
    let t = lists c.args.tables.now in
    let p = linked t.nodes t.targets t.nexts in
    let n = get_or c.args.tables.now.counts.now 0 0 in
    all_says p n _ (cases_from_all _ _ _ (λ k. p k ≡ true) (λ k. p k ≡ false) c.all.ensures.ran (YieldsList-from_range 0 n n refl (omega arith)) (λ k q h. search rules) (λ k q h. search rules))
    ∙ all_linked t c.requires
