-- One call that answers 0, over stores that are valid: they stay valid, and hold what the paper's books say. The answers and what they leave are those of the promises.
-- Assumes nothing.
use Rattle.std.specs.Prelude.{◌≡◌, refl, ◌⊎◌, true, false, cond, ltb, ⊤, Result, Ok, Err}
use Rattle.std.proofs.Common.{sym, ◌∙◌, subst, arith, ltb-false}
use Rattle.std.proofs.Math.Path.{ap}
use Prim.Native.Nat.{ℕ, zero, suc, ◌+◌, ◌-◌, ◌<◌, ◌≤◌}
use mathlib.Core.List.{List, [], ◌∷◌, ◌++◌}
use Rattle.std.proofs.Math.Bool.{Bool, not}
use Rattle.std.proofs.Math.ListN.{length, get_or}
use Rattle.std.proofs.Math.Seq.{get_or-set_same}
use Rattle.paper.specs.Lists.{mem, names, tally, hash_at}
use Rattle.paper.specs.Numbers.{number, done}
use Rattle.paper.specs.Queue.{Waiting, Queue, of_list, order, rest, dropped, kept}
use Rattle.paper.proofs.Count.{count-true}
use Rattle.paper.proofs.Ready.{order_rest}
use Rattle.ready.specs.Tables.{queue_of, record_at, known_in}
use Rattle.waiting.specs.Valid.{Store, GoodStore, room, waiting, StoreLaid, is_roomy, OpenedTo}
use Rattle.waiting.specs.ValidLaws.{roomy_rooms}
use Rattle.waiting.specs.Refused.{queue_number}
use Rattle.waiting.specs.RefusedLaws.{never_done, not_refused}
use Rattle.waiting.specs.declared.QueueRefusal.{QueueRefusal}
use Rattle.waiting.specs.declared.QueueRefusal.TheVariants.{ShortBuffer}
use Rattle.batch.specs.Push.{push_judged, PushedTo}
use Rattle.batch.specs.PushLaws.{done_fine}
use Rattle.queue.specs.Hand.{any_clash, handed_as, HandedTo}
use Rattle.release.specs.Release.{ready_of, rest_of, released_as, GivenOut}
use Rattle.branch.specs.Branch.{kept_of, RemovedTo}
use Rattle.paper.specs.Books.{changes_at}
use Rattle.queue_books.specs.View.{records_of}
use Rattle.queue_books.specs.Alike.{Alike, Low, order_alike, rest_alike, kept_alike, changes_alike}
use Rattle.queue_books.specs.Listed.{list_alike, low_order, low_rest, low_kept}
use Rattle.queue_books.specs.Stays.{waiting_change, open_valid, opened_list, pushed_valid, pushed_list, handed_valid, handed_list, emptied_valid, emptied_list, taken_valid, taken_list, given_list, given_in_order}

-- what waits in the store
abbrev pub waiting_in : Store → List Waiting
waiting_in s = records_of s.hashes s.numbers s.deps (waiting s.count)

-- the store is valid and exactly l waits in it
pub record Holding (s : Store) (l : List Waiting) : Type 0 where
  pub valid : GoodStore s
  pub waits : waiting_in s ≡ l

-- the store with another count
abbrev pub recount : Store → List ℕ → Store
recount s cs = record { hashes = s.hashes; numbers = s.numbers; deps = s.deps; count = cs }

-- ---- opening

pub open_done : {s : Store} {cs' : List ℕ} → StoreLaid s.hashes s.numbers s.deps s.count → OpenedTo (Ok tt) s.count cs' → Holding (recount s cs') []
unfolding OpenedTo
open_done {s} l e = record { valid = open_valid l e; waits = opened_list s.hashes s.numbers s.deps s.count l.one_count e }

-- ---- pushing

pub push_done : (h : List ℕ) (key seq top ops : ℕ) (needs : List ℕ) {b b' : Store} {l : List Waiting} → Holding b l → (a : Result ⊤ QueueRefusal)
    → a ≡ push_judged b.hashes b.numbers b.count h key seq needs → queue_number a ≡ number done
    → PushedTo a b.hashes b.numbers b.deps b.count h key seq top ops needs b'.hashes b'.numbers b'.deps b'.count
    → Holding b' (l ++ (waiting_change h key seq top ops needs ∷ []))
unfolding PushedTo
push_done h key seq top ops needs {b} s (Ok x) e n m =
    let f = done_fine b.hashes b.numbers b.count h key seq needs (sym e) in
    record {
      valid = pushed_valid s.valid f m;
      waits = pushed_list s.valid f m ∙ ap (λ (x : List Waiting). x ++ (waiting_change h key seq top ops needs ∷ [])) s.waits;
    }
push_done h key seq top ops needs s (Err r) e n m = absurd (never_done r n)

-- ---- handing over

-- a batch handed over did not clash, and there was room
over_fine : (hs ns cs bhs bns bcs : List ℕ) → handed_as hs ns cs bhs bns bcs ≡ Ok tt → (any_clash hs ns (waiting cs) bhs bns (waiting bcs) ≡ false) × (waiting cs + waiting bcs ≤ room hs)
unfolding handed_as
over_fine hs ns cs bhs bns bcs e =
    let x = not_refused (any_clash hs ns (waiting cs) bhs bns (waiting bcs)) _ _ e in
    let y = not_refused (ltb (room hs) (waiting cs + waiting bcs)) _ _ x.1 in
    (x.0, ltb-false (room hs) (waiting cs + waiting bcs) y.0)

pub hand_done : {q b q' : Store} {bcs' : List ℕ} {l m : List Waiting} → Holding q l → Holding b m → (a : Result ⊤ QueueRefusal)
    → a ≡ handed_as q.hashes q.numbers q.count b.hashes b.numbers b.count → queue_number a ≡ number done
    → HandedTo a q.hashes q.numbers q.deps q.count b.hashes b.numbers b.deps b.count q'.hashes q'.numbers q'.deps q'.count bcs'
    → Holding q' (l ++ m) × Holding (recount b bcs') []
unfolding HandedTo
hand_done {q} {b} s t (Ok x) e n m =
    let f = over_fine q.hashes q.numbers q.count b.hashes b.numbers b.count (sym e) in (
      record {
        valid = handed_valid s.valid t.valid f.0 f.1 m;
        waits = handed_list s.valid t.valid f.0 f.1 m ∙ (rw (s.waits, t.waits));
      },
      record { valid = emptied_valid s.valid t.valid f.0 f.1 m; waits = emptied_list s.valid t.valid f.0 f.1 m },
    )
hand_done s t (Err r) e n m = absurd (never_done r n)

-- ---- releasing

-- the paper's queue that the tables are
abbrev tabled : Store → Queue
tabled q = queue_of q.hashes q.numbers q.deps (waiting q.count)

-- how many fewer wait afterwards
abbrev pub fewer : Store → Store → ℕ
fewer q q' = waiting q.count - waiting q'.count

-- a list of positions that the changes alone decide: those of the tables are those of the list that they hold
listed_alike : (f : Queue → List ℕ) (q : Store) {l : List Waiting} → Low (waiting q.count) (f (tabled q)) → (Alike (tabled q) (of_list (waiting_in q)) → f (tabled q) ≡ f (of_list (waiting_in q)))
    → waiting_in q ≡ l → changes_at (tabled q) (f (tabled q)) ≡ changes_at (of_list l) (f (of_list l))
listed_alike f q low same e =
    let al = list_alike q.hashes q.numbers q.deps (waiting q.count) in
    subst (λ (x : List Waiting). changes_at (tabled q) (f (tabled q)) ≡ changes_at (of_list x) (f (of_list x))) e
    (changes_alike (tabled q) (of_list (waiting_in q)) al (f (tabled q)) low ∙ ap (changes_at (of_list (waiting_in q))) (same al))

-- a release that answers 0 had room for all
pub all_of : (l th tn td : List ℕ) (a : Result ℕ QueueRefusal) → a ≡ released_as l th tn td → queue_number a ≡ number done → (a ≡ Ok (length l)) × (is_roomy (length th) (length tn) (length td) (length l) ≡ true)
unfolding released_as
all_of l th tn td (Ok m) e z = roomy (is_roomy (length th) (length tn) (length td) (length l)) m (length l) e
  where
    roomy : (b : Bool) (m n : ℕ) → ◌≡◌ {A = Result ℕ QueueRefusal} (Ok m) (cond b (Ok n) (Err ShortBuffer)) → (◌≡◌ {A = Result ℕ QueueRefusal} (Ok m) (Ok n)) × (b ≡ true)
    roomy true m n e = (e, refl)
    roomy false m n e = let z : ◌≡◌ {A = ℕ} 0 1 = cc in absurd (omega arith)
all_of l th tn td (Err r) e z = absurd (never_done r z)

-- the numbers below n are n
tally_whole : (n : ℕ) → tally (λ i. true) n ≡ n
unfolding tally
tally_whole zero = refl
tally_whole (suc n) = omega (arith, tally_whole n)

module _ (gs : List ℕ) (n : ℕ) {q q' : Store} {th tn td th' tn' td' : List ℕ} {l : List Waiting} (s : Holding q l)
    (roomy : is_roomy (length th) (length tn) (length td) (length (ready_of gs n q.hashes q.numbers q.deps q.count)) ≡ true)
    (g : GivenOut gs n q.hashes q.numbers q.deps q.count th tn td q'.hashes q'.numbers q'.deps q'.count th' tn' td') where
  -- the rest waits
  pub release_done : Holding q' (changes_at (of_list l) (rest (known_in gs n) (of_list l)))
  unfolding rest_of rest
  release_done =
      let p : ℕ → Bool = λ i. not (mem i (order (known_in gs n) (tabled q))) in
      record {
        valid = taken_valid s.valid p g.queue;
        waits =
            taken_list s.valid p g.queue
            ∙ listed_alike (rest (known_in gs n)) q (low_rest (known_in gs n) (tabled q)) (λ al. rest_alike (tabled q) (of_list (waiting_in q)) al (known_in gs n)) s.waits;
      }

  -- as many are given out as fewer wait
  pub fewer_ready : fewer q q' ≡ length (ready_of gs n q.hashes q.numbers q.deps q.count)
  unfolding ready_of rest_of
  fewer_ready =
      let known = known_in gs n in
      let left : waiting q'.count ≡ length (rest known (tabled q)) =
      ap (λ (x : List ℕ). get_or x 0 0) g.queue.count ∙ get_or-set_same q.count 0 (length (rest known (tabled q))) 0 (omega (arith, s.valid.sized.laid.one_count))
      in
      omega (arith, tally_whole (waiting q.count), order_rest known (tabled q) (λ i. true), count-true (order known (tabled q)), count-true (rest known (tabled q)))

  -- the answer tables hold, in order, what the paper's call adds to the released ones
  pub release_fills : records_of th' tn' td' (fewer q q') ≡ changes_at (of_list l) (order (known_in gs n) (of_list l))
  unfolding ready_of
  release_fills =
      ap (records_of th' tn' td') fewer_ready
      ∙ (given_list gs n s.valid (roomy_rooms th tn td (length (ready_of gs n q.hashes q.numbers q.deps q.count)) roomy) g.answer
      ∙ listed_alike (order (known_in gs n)) q (low_order (known_in gs n) (tabled q)) (λ al. order_alike (tabled q) (of_list (waiting_in q)) al (known_in gs n)) s.waits)

  -- what a released change depends on is known, or is the hash of one released before it: the rule of adding
  pub release_in_order : (i : ℕ) → i < fewer q q' → (d : List ℕ) → names d (record_at th' tn' td' i).deps ≡ true → (known_in gs n d ≡ true) ⊎ ((e : ℕ) × (e < i) × (hash_at th' e ≡ d))
  release_in_order i low d x =
      given_in_order gs n s.valid (roomy_rooms th tn td (length (ready_of gs n q.hashes q.numbers q.deps q.count)) roomy) g.answer i (omega (arith, fewer_ready)) d x

-- ---- dropping

pub drop_done : (key from : ℕ) {q q' : Store} {l : List Waiting} → Holding q l
    → RemovedTo (Ok tt) q.hashes q.numbers q.deps q.count key from q'.hashes q'.numbers q'.deps q'.count
    → Holding q' (changes_at (of_list l) (kept (of_list l) key from))
unfolding RemovedTo kept_of kept
drop_done key from {q} s m =
    let p : ℕ → Bool = λ i. not (mem i (dropped (tabled q) key from)) in
    record {
      valid = taken_valid s.valid p m;
      waits =
          taken_list s.valid p m
          ∙ listed_alike (λ x. kept x key from) q (low_kept (tabled q) key from) (λ al. kept_alike (tabled q) (of_list (waiting_in q)) al key from) s.waits;
    }
