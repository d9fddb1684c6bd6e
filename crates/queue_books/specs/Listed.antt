-- The queue of the tables and the queue of the list that they hold are alike; what the ready order, the rest and the kept ones list waits.
-- Assumes nothing.
use Rattle.std.specs.Prelude.{◌≡◌, refl, ℕ, zero, suc, ◌<◌, List, [], ◌∷◌, ◌++◌, Bool, not, length, get_or}
use Rattle.std.proofs.Common.{sym, ◌∙◌, subst, ⊎_elim, eq-or-lt_of_le, arith, length-append}
use Rattle.std.proofs.Math.ListN.{get_or-append}
use Rattle.std.proofs.lemmas.List.{get_or_at}
use Rattle.paper.specs.Lists.{mem, each_below}
use Rattle.paper.specs.Queue.{Waiting, Queue, of_list, order, rest, dropped, kept}
use Rattle.paper.proofs.Ready.{listed_low}
use Rattle.ready.specs.Tables.{queue_of, record_at}
use Rattle.queue_books.specs.View.{records_of}
use Rattle.queue_books.specs.Alike.{Alike, Low, low_pick}

each_length : (f : ℕ → Waiting) (n : ℕ) → length (each_below f n) ≡ n
unfolding each_below
each_length f zero = refl
each_length f (suc n) = simp length-append (omega (arith, each_length f n))

each_at : (f : ℕ → Waiting) (n i : ℕ) (d : Waiting) → i < n → get_or (each_below f n) i d ≡ f i
unfolding each_below
each_at f zero i d l = absurd (omega arith)
each_at f (suc n) i d l =
    ⊎_elim (λ e. subst (λ (x : ℕ). get_or (each_below f n ++ (f n ∷ [])) x d ≡ f x) (sym e) (get_or_at (each_below f n) (f n) [] d n (each_length f n)))
    (λ b. get_or-append (each_below f n) (f n ∷ []) d i (omega (arith, each_length f n)) ∙ each_at f n i d b)
    (eq-or-lt_of_le {n = i} {m = n} (omega arith))

pub list_alike : (hs ns ds : List ℕ) (n : ℕ) → Alike (queue_of hs ns ds n) (of_list (records_of hs ns ds n))
unfolding of_list records_of
list_alike hs ns ds n = record { sizes = sym (each_length (record_at hs ns ds) n); same = λ i l. sym (each_at (record_at hs ns ds) n i _ l) }

pub low_order : (known : List ℕ → Bool) (q : Queue) → Low q.size (order known q)
low_order known q = record { low = listed_low known q }

pub low_rest : (known : List ℕ → Bool) (q : Queue) → Low q.size (rest known q)
unfolding rest
low_rest known q = low_pick (λ i. not (mem i (order known q))) q.size

pub low_kept : (q : Queue) (key from : ℕ) → Low q.size (kept q key from)
unfolding kept
low_kept q key from = low_pick (λ i. not (mem i (dropped q key from))) q.size
