-- Over any calls, every change taken in is waiting, released or dropped, exactly once.
-- Assumes nothing.
use mathlib.Core.Path.{◌≡◌, refl, ap}
use mathlib.Core.Bool.{Bool}
use mathlib.Core.List.{List, [], ◌∷◌, ◌++◌, flatten}
use Prim.Native.Nat.{ℕ, zero, suc, ◌+◌}
use native.Mathlib.Omega.{arith}
use Rattle.paper.specs.Lists.{tally, count}
use Rattle.paper.specs.Queue.{Waiting, Queue, of_list, order, rest, dropped, kept}
use Rattle.paper.proofs.Count.{count-nil, count-append, count_map, count-places}
use Rattle.paper.proofs.Ready.{order_rest}
use Rattle.paper.proofs.Dropped.{dropped_kept}
use Rattle.paper.specs.Books.{Books, fresh, batch_at, with_batch, Call, open_queue, open_batch, push, hand_over, release, drop_branch, changes_at, after_release, after_drop, after, after_all, Balanced}

-- ---- one batch of many

-- batch i is what it was set to
pub batch_same : (i : ℕ) (l : List Waiting) (bs : List (List Waiting)) → batch_at i (with_batch i l bs) ≡ l
unfolding batch_at with_batch
batch_same zero l [] = refl
batch_same zero l (b ∷ bs) = refl
batch_same (suc i) l [] = batch_same i l []
batch_same (suc i) l (b ∷ bs) = batch_same i l bs

-- and every other is as it was
pub batch_other : (i j : ℕ) (l : List Waiting) (bs : List (List Waiting)) → (j ≡ i → ⊥) → batch_at j (with_batch i l bs) ≡ batch_at j bs
unfolding batch_at with_batch
batch_other zero zero l bs n = absurd (n refl)
batch_other zero (suc j) l [] n = refl
batch_other zero (suc j) l (b ∷ bs) n = refl
batch_other (suc i) zero l [] n = refl
batch_other (suc i) zero l (b ∷ bs) n = refl
batch_other (suc i) (suc j) l [] n = batch_other i j l [] (λ e. n (ap suc e))
batch_other (suc i) (suc j) l (b ∷ bs) n = batch_other i j l bs (λ e. n (ap suc e))

-- all batches together change by what batch i changes
count_batches : (p : Waiting → Bool) (i : ℕ) (l : List Waiting) (bs : List (List Waiting))
    → count p (flatten (with_batch i l bs)) + count p (batch_at i bs) ≡ count p (flatten bs) + count p l
unfolding batch_at with_batch flatten
count_batches p zero l [] = omega (arith, count-append p l [], count-nil p)
count_batches p zero l (b ∷ bs) = omega (arith, count-append p l (flatten bs), count-append p b (flatten bs))
count_batches p (suc i) l [] = count_batches p i l []
count_batches p (suc i) l (b ∷ bs) =
    omega (arith, count_batches p i l bs, count-append p b (flatten (with_batch i l bs)), count-append p b (flatten bs))

-- ---- the changes of a list by their positions

count_list : (p : Waiting → Bool) (l : List Waiting) → count p l ≡ tally (λ i. p ((of_list l).at i)) (of_list l).size
unfolding of_list
count_list p l = count-places p l _

count_changes : (p : Waiting → Bool) (q : Queue) (l : List ℕ) → count p (changes_at q l) ≡ count (λ i. p (q.at i)) l
unfolding changes_at
count_changes p q l = count_map p q.at l

-- ---- calls

pub balanced_after : (c : Call) (b : Books) → Balanced b → Balanced (after c b)
unfolding after after_release after_drop Balanced
balanced_after open_queue b h p = omega (arith, h p, count-nil p, count-append p b.gone b.waiting)
balanced_after (open_batch i) b h p =
    omega (arith, h p, count-nil p, count_batches p i [] b.batches, count-append p b.gone (batch_at i b.batches))
balanced_after (push i w) b h p =
    let l = batch_at i b.batches in
    omega (arith, h p, count_batches p i (l ++ (w ∷ [])) b.batches, count-append p l (w ∷ []), count-append p b.taken (w ∷ []))
balanced_after (hand_over i) b h p =
    omega (arith, h p, count-nil p, count_batches p i [] b.batches, count-append p b.waiting (batch_at i b.batches))
balanced_after (release known) b h p =
    let q = of_list b.waiting in
    omega (
      arith,
      h p,
      count_list p b.waiting,
      order_rest known q (λ i. p (q.at i)),
      count_changes p q (rest known q),
      count_changes p q (order known q),
      count-append p b.released (changes_at q (order known q)),
    )
balanced_after (drop_branch key from) b h p =
    let q = of_list b.waiting in
    omega (
      arith,
      h p,
      count_list p b.waiting,
      dropped_kept q key from (λ i. p (q.at i)),
      count_changes p q (kept q key from),
      count_changes p q (dropped q key from),
      count-append p b.gone (changes_at q (dropped q key from)),
    )

-- from balanced books, after any calls
pub balanced_on : (cs : List Call) (b : Books) → Balanced b → Balanced (after_all cs b)
unfolding after_all
balanced_on [] b h = h
balanced_on (c ∷ cs) b h = balanced_on cs (after c b) (balanced_after c b h)

pub balanced_fresh : Balanced fresh
unfolding Balanced flatten
balanced_fresh p = omega (arith, count-nil p)

-- from the beginning, after any calls
pub balanced_always : (cs : List Call) → Balanced (after_all cs fresh)
balanced_always cs = balanced_on cs fresh balanced_fresh
