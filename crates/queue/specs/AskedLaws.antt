-- Laws of the questions: what a look-up in the table says of the paper's queue.
use Rattle.std.specs.Prelude.{◌≡◌, ℕ, List}
use Rattle.paper.specs.Lists.{same_list, some_below, hash_at}
use Rattle.paper.specs.Queue.{has_hash}
use Rattle.paper.proofs.Bools.{same_bool, by_bool, some_of, of_some}
use Rattle.paper.proofs.Hashes.{same→eq, eq→same}
use Rattle.ready.specs.Tables.{queue_of, known_in}
use Rattle.waiting.specs.ValidLaws.{known_place, known_none}

pub known_has : (hs ns ds : List ℕ) (n : ℕ) (h : List ℕ) → known_in hs n h ≡ has_hash (queue_of hs ns ds n) h
unfolding has_hash
known_has hs ns ds n h =
    same_bool (known_in hs n h) (some_below (λ i. same_list (hash_at hs i) h) n)
    (λ k. let r = known_place hs n h k in some_of (λ i. same_list (hash_at hs i) h) n r.0 r.1 (eq→same (hash_at hs r.0) h r.2))
    (λ s.
    let r = of_some (λ i. same_list (hash_at hs i) h) n s in
    by_bool (known_in hs n h) (λ t. t) (λ f. absurd (known_none hs n h f r.0 r.1 (same→eq (hash_at hs r.0) h r.2))))
