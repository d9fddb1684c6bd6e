-- Queue and batch: the number of every answer is that of the paper's judgement over the queue that the tables hold.
-- Assumes nothing.
use Rattle.std.specs.Prelude.{◌≡◌, refl, Bool, ◌&&◌, ◌||◌, List, ℕ, ◌+◌, ◌*◌, ◌/◌, ◌%◌, min, ltb, leb, length, get_or}
use Rattle.std.proofs.Math.Path.{ap}
use Rattle.std.proofs.Math.Bool.{not}
use Rattle.std.proofs.Common.{arith, leb-true, leb-false, le-leb, lt-ltb, le-ltb}
use Rattle.std.proofs.Math.Dec.{eqb}
use Rattle.paper.specs.Lists.{some_below, hash_at}
use Rattle.paper.specs.Numbers.{number}
use Rattle.paper.specs.Queue.{Queue, has_hash, has_actor_seq}
use Rattle.paper.proofs.Bools.{by_bool, same_bool, and_both, and_fst, and_snd, some_ext}
use Rattle.paper.specs.Asking.{not_hash, not_hashes, judged_room, judged_question}
use Rattle.paper.specs.Pushing.{waiting_as, judged_push, clash_between, judged_hand_over, judged_release, judged_iter, judged_waits}
use Rattle.judge.specs.Judge.{change}
use Rattle.judge.specs.HubLaws.{hashes_count}
use Rattle.ready.specs.Tables.{queue_of, known_in}
use Rattle.waiting.specs.Valid.{room, waiting, has_actor_seq_in, is_roomy}
use Rattle.waiting.specs.Refused.{queue_number}
use Rattle.batch.specs.Push.{is_malformed, push_judged}
use Rattle.queue.specs.Hand.{clash_at, any_clash, handed_as}
use Rattle.queue.specs.Asked.{asked_hash, listed_as}
use Rattle.queue.specs.AskedLaws.{known_has}
use Rattle.queue_books.specs.Stays.{waiting_change}
use Rattle.release.specs.Release.{ready_of, released_as}

-- ---- an answer of whole records

-- how many changes three answer tables have room for
abbrev pub answer_room : List ℕ → List ℕ → List ℕ → ℕ
answer_room th tn td = min (length th / 32) (min (length tn / 5) (length td / 1024))

roomy_agrees : (th tn td : List ℕ) (r : ℕ) → is_roomy (length th) (length tn) (length td) r ≡ leb r (answer_room th tn td)
unfolding is_roomy
roomy_agrees th tn td r =
    same_bool (leb (32 * r) (length th) && (leb (5 * r) (length tn) && leb (1024 * r) (length td))) (leb r (answer_room th tn td))
    (λ e.
    let a = leb-true (32 * r) (length th) (and_fst (leb (32 * r) (length th)) _ e) in
    let b = leb-true (5 * r) (length tn) (and_fst (leb (5 * r) (length tn)) (leb (1024 * r) (length td)) (and_snd (leb (32 * r) (length th)) _ e)) in
    let c = leb-true (1024 * r) (length td) (and_snd (leb (5 * r) (length tn)) (leb (1024 * r) (length td)) (and_snd (leb (32 * r) (length th)) _ e)) in
    le-leb r (answer_room th tn td) (omega arith))
    (λ e.
    let a = leb-true r (answer_room th tn td) e in
    and_both (leb (32 * r) (length th)) _ (le-leb (32 * r) (length th) (omega arith))
    (and_both (leb (5 * r) (length tn)) (leb (1024 * r) (length td)) (le-leb (5 * r) (length tn) (omega arith)) (le-leb (1024 * r) (length td) (omega arith))))

-- 15 exactly where not all fit
released_room : (l th tn td : List ℕ) → queue_number (released_as l th tn td) ≡ number (judged_room (length l) (answer_room th tn td))
unfolding released_as judged_room
released_room l th tn td =
    rw (roomy_agrees th tn td (length l))
    (by_bool (leb (length l) (answer_room th tn td)) (λ y. rw (y, le-ltb (answer_room th tn td) (length l) (leb-true (length l) (answer_room th tn td) y)))
    (λ n. rw (n, lt-ltb (answer_room th tn td) (length l) (leb-false (length l) (answer_room th tn td) n))))

listed_room : (n : ℕ) (th tn td : List ℕ) → queue_number (listed_as n th tn td) ≡ number (judged_room n (answer_room th tn td))
unfolding listed_as judged_room
listed_room n th tn td =
    rw (roomy_agrees th tn td n)
    (by_bool (leb n (answer_room th tn td)) (λ y. rw (y, le-ltb (answer_room th tn td) n (leb-true n (answer_room th tn td) y)))
    (λ f. rw (f, lt-ltb (answer_room th tn td) n (leb-false n (answer_room th tn td) f))))

-- ---- each operation

-- a change that is pushed waits as the paper says
pub waiting_agrees : (h : List ℕ) (key seq top ops : ℕ) (needs : List ℕ) → waiting_change h key seq top ops needs ≡ waiting_as (change h key seq top ops needs)
unfolding waiting_as
waiting_agrees h key seq top ops needs = refl

module _ (hs ns ds cs : List ℕ) where
  -- the queue that the tables hold
  abbrev q : Queue
  q = queue_of hs ns ds (waiting cs)

  pub push_agrees : (h : List ℕ) (key seq top ops : ℕ) (needs : List ℕ) → queue_number (push_judged hs ns cs h key seq needs) ≡ number (judged_push (room hs) (queue_of hs ns ds (waiting cs)) (change h key seq top ops needs))
  unfolding push_judged is_malformed judged_push not_hash not_hashes has_actor_seq_in has_actor_seq
  push_agrees h key seq top ops needs =
      rw (hashes_count needs, known_has hs ns ds (waiting cs) h)
      (by_bool (not (eqb (length h) 32) || not (eqb (length needs % 32) 0)) (λ y. rw y)
      (λ n.
      rw n
      (by_bool (has_hash q h) (λ y. rw y)
      (λ n.
      rw n
      (by_bool (some_below (λ i. eqb (get_or ns (5 * i) 0) key && eqb (get_or ns (5 * i + 1) 0) seq) (waiting cs)) (λ y. rw y)
      (λ n.
      rw n
      (by_bool (ltb 32 (length needs / 32)) (λ y. rw y)
      (λ n. rw n (by_bool (leb (room hs) (waiting cs)) (λ y. rw y) (λ n. rw n))))))))))

  module _ (bhs bns bds bcs : List ℕ) where
    clash_agrees : any_clash hs ns (waiting cs) bhs bns (waiting bcs) ≡ clash_between q (queue_of bhs bns bds (waiting bcs))
    unfolding any_clash clash_at clash_between has_actor_seq_in has_actor_seq
    clash_agrees =
        some_ext (clash_at hs ns (waiting cs) bhs bns) (λ i. has_hash q (hash_at bhs i) || has_actor_seq q (get_or bns (5 * i) 0) (get_or bns (5 * i + 1) 0)) (waiting bcs)
        (λ i l. ap (λ (b : Bool). b || has_actor_seq q (get_or bns (5 * i) 0) (get_or bns (5 * i + 1) 0)) (known_has hs ns ds (waiting cs) (hash_at bhs i)))

    pub hand_over_agrees : queue_number (handed_as hs ns cs bhs bns bcs) ≡ number (judged_hand_over (room hs) (queue_of hs ns ds (waiting cs)) (queue_of bhs bns bds (waiting bcs)))
    unfolding handed_as judged_hand_over
    hand_over_agrees =
        rw clash_agrees
        (by_bool (clash_between q (queue_of bhs bns bds (waiting bcs))) (λ y. rw y)
        (λ n. rw n (by_bool (ltb (room hs) (waiting cs + waiting bcs)) (λ y. rw y) (λ n. rw n))))

  pub waits_agrees : (h : List ℕ) → queue_number (asked_hash (queue_of hs ns ds (waiting cs)) h) ≡ number (judged_waits h)
  unfolding asked_hash judged_waits judged_question judged_room not_hash
  waits_agrees h =
      by_bool (eqb (length h) 32)
      (λ y. rw y)
      (λ n. rw n)

  -- known are the first k of the hashes gs
  pub release_agrees : (gs : List ℕ) (k : ℕ) (th tn td : List ℕ) → queue_number (released_as (ready_of gs k hs ns ds cs) th tn td) ≡ number (judged_release (known_in gs k) (queue_of hs ns ds (waiting cs)) (answer_room th tn td))
  unfolding judged_release ready_of
  release_agrees gs k th tn td = released_room (ready_of gs k hs ns ds cs) th tn td

  pub iter_agrees : (th tn td : List ℕ) → queue_number (listed_as (waiting cs) th tn td) ≡ number (judged_iter (queue_of hs ns ds (waiting cs)) (answer_room th tn td))
  unfolding judged_iter
  iter_agrees th tn td = listed_room (waiting cs) th tn td
