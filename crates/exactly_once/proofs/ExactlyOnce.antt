-- Over any calls of the C functions, refused ones among them, with any number of batches: every change taken in is waiting, in the queue or a batch, or released, or
-- dropped, exactly once.
-- Assumes nothing.
use Rattle.std.specs.Prelude.{◌≡◌, refl, ◌⊎◌, true, List, [], ◌∷◌, ◌++◌, ℕ, ◌*◌, ◌<◌, ◌≤◌, eqb, leb, length, get_or, Result, Ok}
use Rattle.std.proofs.Common.{sym, ap, ◌∙◌, subst, inl, inr, ⊎_elim, append-nil, append_assoc, arith, eqb-true, leb-true, leb-false}
use Rattle.std.proofs.Math.Decide.{ℕ_discrete}
use Rattle.std.proofs.lemmas.Bool.{eqb-false}
use Rattle.paper.specs.Lists.{names, hash_at}
use Rattle.paper.specs.Numbers.{number, done, not_valid}
use Rattle.paper.specs.Queue.{Waiting, of_list, order, rest, kept}
use Rattle.paper.proofs.Bools.{by_bool}
use Rattle.tables.specs.Tables.{Tables, changes}
use Rattle.ready.specs.Tables.{record_at, known_in}
use Rattle.records.specs.Records.{Filled}
use Rattle.waiting.specs.Valid.{Store, GoodStore, StoreLaid, room, store, is_roomy}
use Rattle.release.specs.Release.{ready_of, GivenOut, ReleasedTo}
use Rattle.waiting.specs.Refused.{queue_number}
use Rattle.waiting.specs.declared.QueueRefusal.{QueueRefusal}
use Rattle.lent_place.specs.Places.{Numbered, told_in}
use Rattle.paper.specs.Books.{Books, fresh, batch_at, with_batch, after_release, after_drop, after, after_all, changes_at, Balanced}
use Rattle.paper.proofs.Books.{batch_same, batch_other, balanced_after, balanced_fresh}
use Rattle.queue_books.specs.View.{records_of}
use Rattle.queue_books.specs.Stays.{waiting_change}
use Rattle.queue_books.specs.Books.{Holding, recount, fewer, open_done, push_done, hand_done, all_of, fewer_ready, release_done, release_fills, release_in_order, drop_done}
use Rattle.hub_batch.specs.Operations.{QueueOpened, BatchPushed}
use Rattle.hub_queue.specs.Operations.{HandedOver, BranchRemoved}
use Rattle.hub_release.specs.Operations.{FreedBy, answer_of, released_count_in}
use Rattle.demands.specs.RefusalLaws.{stable}
use Rattle.demands.specs.WaitingLaws.{queue_open_demand, push_demand, hand_over_demand, branch_demand, release_demand}
use Rattle.exactly_once.specs.Operations.{Stores, AnswerTables, QueueCall, opening_queue, opening_batch, pushing, handing, releasing, dropping, BatchesKept, OthersKept, TablesKept, stock_of, Called, Calls, stop, then, call_of, pushed_by, given_by, calls_of, pushed_in, given_in}
use Rattle.exactly_once.specs.Accounts.{InBooks, Agree, AllHolding, StillValid, Accounted}

-- ---- answers of 0

-- what answers 0 was lent what is valid
done_held : {A : Type 0} {numbered : A → ℕ} {held : Type 0} {good bad : A} {left : A → Type 0} {r : ℕ} → Numbered numbered held good bad left r → r ≡ number done
    → (numbered bad ≡ number done → ⊥) → (held → ⊥) → ⊥
done_held p z b n = b (sym (p.unmet n).0 ∙ z)

holding : {s : Store} {l : List Waiting} → InBooks s l → ((GoodStore s → ⊥) → ⊥) → Holding s l
holding b n = ⊎_elim (λ h. h) (λ x. absurd (n x.0)) b

-- 1 is not 0
not_one : number not_valid ≡ number done → ⊥
not_one e = omega arith

-- numbers that are not different are the same
same_number : (a b : ℕ) → ((a ≡ b → ⊥) → ⊥) → a ≡ b
same_number a b d = by_bool (eqb a b) (eqb-true a b) (λ f. absurd (d (eqb-false a b f)))

-- ---- opening

laid_stable : {hs ns ds cs : List ℕ} → ((StoreLaid hs ns ds cs → ⊥) → ⊥) → StoreLaid hs ns ds cs
laid_stable {hs} {ns} {ds} {cs} n = record {
  one_count = same_number (length cs) 1 (λ x. n (λ l. x l.one_count));
  most = most (room hs) 256 (λ x. n (λ l. x l.most));
  hashes_whole = same_number (length hs) (32 * room hs) (λ x. n (λ l. x l.hashes_whole));
  numbers_agree = same_number (length ns) (5 * room hs) (λ x. n (λ l. x l.numbers_agree));
  deps_agree = same_number (length ds) (1024 * room hs) (λ x. n (λ l. x l.deps_agree));
}
  where
    most : (a b : ℕ) → ((a ≤ b → ⊥) → ⊥) → a ≤ b
    most a b d = by_bool (leb a b) (leb-true a b) (λ f. let l = leb-false a b f in absurd (d (λ x. omega arith)))

-- a store that was opened, whatever lay in it, is valid and nothing waits in it
pub opened_holding : (s : Store) (r : ℕ) (cs' : List ℕ) → QueueOpened s r cs' → r ≡ number done → Holding (recount s cs') []
opened_holding s r cs' p z = let l = laid_stable (done_held p z not_one) in open_done {s = s} l (p.met l).1

-- ---- pushing, handing over, dropping

push_step : (h : List ℕ) (key seq top ops : ℕ) (needs : List ℕ) {b b' : Store} {r : ℕ} {l : List Waiting} → InBooks b l → BatchPushed b h key seq top ops needs r b' → r ≡ number done
    → Holding b' (l ++ (waiting_change h key seq top ops needs ∷ []))
push_step h key seq top ops needs i p z =
    let g = holding i (done_held p z not_one) in
    let m = p.met g.valid in
    push_done h key seq top ops needs g _ refl (sym m.0 ∙ z) m.1

hand_step : {q b q' : Store} {bcs' : List ℕ} {r : ℕ} {l m : List Waiting} → InBooks q l → InBooks b m → HandedOver q b r q' bcs' → r ≡ number done → Holding q' (l ++ m) × Holding (recount b bcs') []
hand_step i j p z =
    let n = done_held p z not_one in
    let h = holding i (λ x. n (λ v. x v.0)) in
    let g = holding j (λ x. n (λ v. x v.1)) in
    let m = p.met (h.valid, g.valid) in
    hand_done h g _ refl (sym m.0 ∙ z) m.1

drop_step : (key from : ℕ) {q q' : Store} {r : ℕ} {l : List Waiting} → InBooks q l → BranchRemoved q key from r q' → r ≡ number done → Holding q' (changes_at (of_list l) (kept (of_list l) key from))
drop_step key from i p z =
    let h = holding i (done_held p z not_one) in
    drop_done key from h (p.met h.valid).1

-- ---- releasing: whether the graph is valid is told by the number alone

filled_stable : {hs ns ds : List ℕ} {f : ℕ → ℕ} {at m : ℕ} {th tn td th' tn' td' : List ℕ} → ((Filled hs ns ds f at m th tn td th' tn' td' → ⊥) → ⊥) → Filled hs ns ds f at m th tn td th' tn' td'
filled_stable n = record { hashes = stable _ _ (λ x. n (λ f. x f.hashes)); numbers = stable _ _ (λ x. n (λ f. x f.numbers)); deps = stable _ _ (λ x. n (λ f. x f.deps)) }

given_stable : {gs : List ℕ} {k : ℕ} {hs ns ds cs th tn td hs' ns' ds' cs' th' tn' td' : List ℕ} → ((GivenOut gs k hs ns ds cs th tn td hs' ns' ds' cs' th' tn' td' → ⊥) → ⊥)
    → GivenOut gs k hs ns ds cs th tn td hs' ns' ds' cs' th' tn' td'
given_stable n = record {
  answer = filled_stable (λ x. n (λ g. x g.answer));
  queue = record { moved = filled_stable (λ x. n (λ g. x g.queue.moved)); count = stable _ _ (λ x. n (λ g. x g.queue.count)) };
}

given_all : {gs : List ℕ} {k : ℕ} {hs ns ds cs th tn td hs' ns' ds' cs' th' tn' td' : List ℕ} (a : Result ℕ QueueRefusal) (m : ℕ) → a ≡ Ok m
    → ReleasedTo a gs k hs ns ds cs th tn td hs' ns' ds' cs' th' tn' td' → GivenOut gs k hs ns ds cs th tn td hs' ns' ds' cs' th' tn' td'
unfolding ReleasedTo
given_all {gs} {k} {hs} {ns} {ds} {cs} {th} {tn} {td} {hs'} {ns'} {ds'} {cs'} {th'} {tn'} {td'} a m e x =
    subst (λ (b : Result ℕ QueueRefusal). ReleasedTo b gs k hs ns ds cs th tn td hs' ns' ds' cs' th' tn' td') e x

-- the positions of the ready ones
abbrev ready_in : Tables → Store → List ℕ
ready_in t q = ready_of t.hashes (changes t) q.hashes q.numbers q.deps q.count

module _ (t : Tables) (a a' : AnswerTables) (q q' : Store) {r : ℕ} {l : List Waiting} (i : InBooks q l) (p : FreedBy (stock_of q a) r (stock_of q' a') t) (z : r ≡ number done) where
  was_held : Holding q l
  was_held = holding i (λ x. done_held p z not_one (λ v. x v.1))

  all_given : (answer_of t.hashes (changes t) (stock_of q a) ≡ Ok (length (ready_in t q))) × (is_roomy (length a.hashes) (length a.numbers) (length a.deps) (length (ready_in t q)) ≡ true)
  all_given =
      all_of (ready_in t q) a.hashes a.numbers a.deps (answer_of t.hashes (changes t) (stock_of q a)) refl
      (same_number (queue_number (answer_of t.hashes (changes t) (stock_of q a))) (number done) (λ d. done_held p z not_one (λ v. d (sym (p.met v).0 ∙ z))))

  given_out : GivenOut t.hashes (changes t) q.hashes q.numbers q.deps q.count a.hashes a.numbers a.deps q'.hashes q'.numbers q'.deps q'.count a'.hashes a'.numbers a'.deps
  given_out = given_stable (λ d. done_held p z not_one (λ v. d (given_all (answer_of t.hashes (changes t) (stock_of q a)) (length (ready_in t q)) all_given.0 (p.met v).1.0)))

  release_step : Holding q' (changes_at (of_list l) (rest (known_in t.hashes (changes t)) (of_list l)))
  release_step = release_done t.hashes (changes t) was_held all_given.1 given_out

  release_got : records_of a'.hashes a'.numbers a'.deps (fewer q q') ≡ changes_at (of_list l) (order (known_in t.hashes (changes t)) (of_list l))
  release_got = release_fills t.hashes (changes t) was_held all_given.1 given_out

  -- C gets them in an order that adding takes: what one depends on is known, or is the hash of one that stands before it
  pub release_ordered : (j : ℕ) → j < fewer q q' → (d : List ℕ) → names d (record_at a'.hashes a'.numbers a'.deps j).deps ≡ true
      → (known_in t.hashes (changes t) d ≡ true) ⊎ ((e : ℕ) × (e < j) × (hash_at a'.hashes e ≡ d))
  release_ordered j low d x = release_in_order t.hashes (changes t) was_held all_given.1 given_out j low d x

  -- where a place is lent, it tells how many C got
  pub release_told : a'.told ≡ told_in (fewer q q') a.told
  release_told =
      stable _ _
      (λ d. done_held p z not_one
      (λ v. d ((p.met v).1.1 ∙ (ap (λ (x : Result ℕ QueueRefusal). released_count_in x a.told) all_given.0 ∙ ap (λ (n : ℕ). told_in n a.told) (sym (fewer_ready t.hashes (changes t) was_held all_given.1 given_out))))))

-- ---- one call that answers 0

-- after a call the queue and the batches hold these, and what was valid is valid
record Leaves (s s' : Stores) (w : List Waiting) (bs : List (List Waiting)) : Type 0 where
  queue : InBooks s'.queue w
  batches : (i : ℕ) → InBooks (s'.batch i) (batch_at i bs)
  still : StillValid s s'

module _ {s s' : Stores} {k : Books} (m : Agree s k) where
  -- the queue alone changes
  queue_left : {w : List Waiting} → Holding s'.queue w → BatchesKept s s' → Leaves s s' w k.batches
  queue_left h o = record {
    queue = inl h;
    batches = λ j. subst (λ (x : Store). InBooks x (batch_at j k.batches)) (sym (o j)) (m.batches j);
    still = record { queue = λ v. h.valid; batches = λ j v. subst GoodStore (sym (o j)) v };
  }

  -- batch i and perhaps the queue
  batch_left : (i : ℕ) {w l : List Waiting} → InBooks s'.queue w → (GoodStore s.queue → GoodStore s'.queue) → Holding (s'.batch i) l → OthersKept i s s' → Leaves s s' w (with_batch i l k.batches)
  batch_left i {l = l} q v h o = record { queue = q; batches = each; still = record { queue = v; batches = each_valid } }
    where
      each : (j : ℕ) → InBooks (s'.batch j) (batch_at j (with_batch i l k.batches))
      each j = elim (ℕ_discrete j i) [
        | yes e ↦ subst (λ (x : ℕ). InBooks (s'.batch x) (batch_at x (with_batch i l k.batches))) (sym e) (inl (rw (batch_same i l k.batches) h))
        | no n ↦ rw (o j n, batch_other i j l k.batches n) (m.batches j)
      ]

      each_valid : (j : ℕ) → GoodStore (s.batch j) → GoodStore (s'.batch j)
      each_valid j v = elim (ℕ_discrete j i) [
        | yes e ↦ subst (λ (x : ℕ). GoodStore (s'.batch x)) (sym e) h.valid
        | no n ↦ subst GoodStore (sym (o j n)) v
      ]

  -- batch i alone
  only_batch : (i : ℕ) {l : List Waiting} → s'.queue ≡ s.queue → Holding (s'.batch i) l → OthersKept i s s' → Leaves s s' k.waiting (with_batch i l k.batches)
  only_batch i e h o = batch_left i (subst (λ (x : Store). InBooks x k.waiting) (sym e) m.queue) (λ v. subst GoodStore (sym e) v) h o

-- a store whose count alone changed
recounted : (b b' : Store) {l : List Waiting} → TablesKept b b' → Holding (recount b b'.count) l → Holding b' l
recounted b b' {l} e h = subst (λ (x : Store). Holding x l) (sym e) h

-- a call that answers 0 leaves what the paper's call does
done_left : (c : QueueCall) (s s' : Stores) (r : ℕ) (k : Books) → Agree s k → Called c s r s' → r ≡ number done → Leaves s s' (after (call_of c) k).waiting (after (call_of c) k).batches
unfolding after after_release after_drop
done_left opening_queue s s' r k m p z = queue_left m (recounted s.queue s'.queue p.1 (opened_holding s.queue r s'.queue.count p.0 z)) p.2
done_left (opening_batch i) s s' r k m p z = only_batch m i p.2 (recounted (s.batch i) (s'.batch i) p.1 (opened_holding (s.batch i) r (s'.batch i).count p.0 z)) p.3
done_left (pushing i h key seq top ops needs) s s' r k m p z = only_batch m i p.1 (push_step h key seq top ops needs (m.batches i) p.0 z) p.2
done_left (handing i) s s' r k m p z =
    let g = hand_step m.queue (m.batches i) p.0 z in
    batch_left m i (inl g.0) (λ v. g.0.valid) (recounted (s.batch i) (s'.batch i) p.1 g.1) p.2
done_left (releasing t a a') s s' r k m p z = queue_left m (release_step t a a' s.queue s'.queue m.queue p.0 z) p.1
done_left (dropping key from) s s' r k m p z = queue_left m (drop_step key from m.queue p.0 z) p.1

-- takes in what C pushed
done_taken : (c : QueueCall) (k : Books) → (after (call_of c) k).taken ≡ k.taken ++ pushed_by c
unfolding after after_release after_drop
done_taken opening_queue k = sym (append-nil k.taken)
done_taken (opening_batch i) k = sym (append-nil k.taken)
done_taken (pushing i h key seq top ops needs) k = refl
done_taken (handing i) k = sym (append-nil k.taken)
done_taken (releasing t a a') k = sym (append-nil k.taken)
done_taken (dropping key from) k = sym (append-nil k.taken)

-- and releases what C got
done_released : (c : QueueCall) (s s' : Stores) (r : ℕ) (k : Books) → Agree s k → Called c s r s' → r ≡ number done → (after (call_of c) k).released ≡ k.released ++ given_by c s s'
unfolding after after_release after_drop
done_released opening_queue s s' r k m p z = sym (append-nil k.released)
done_released (opening_batch i) s s' r k m p z = sym (append-nil k.released)
done_released (pushing i h key seq top ops needs) s s' r k m p z = sym (append-nil k.released)
done_released (handing i) s s' r k m p z = sym (append-nil k.released)
done_released (releasing t a a') s s' r k m p z = ap (λ (l : List Waiting). k.released ++ l) (sym (release_got t a a' s.queue s'.queue m.queue p.0 z))
done_released (dropping key from) s s' r k m p z = sym (append-nil k.released)

-- ---- one call that is refused

-- where lists of lists are equal, so are those at a place
at_place : (i : ℕ) {m m' : List (List ℕ)} → m' ≡ m → get_or m' i [] ≡ get_or m i []
at_place i e = ap (λ (l : List (List ℕ)). get_or l i []) e

same_store : {s s' : Store} → s'.hashes ≡ s.hashes → s'.numbers ≡ s.numbers → s'.deps ≡ s.deps → s'.count ≡ s.count → s' ≡ s
same_store {s} {s'} = whole
  where
    whole : s'.hashes ≡ s.hashes → s'.numbers ≡ s.numbers → s'.deps ≡ s.deps → s'.count ≡ s.count
        → store s'.hashes s'.numbers s'.deps s'.count ≡ store s.hashes s.numbers s.deps s.count
    whole a b c d = rw (a, b, c, d)

same_batch : (i : ℕ) (s s' : Stores) → s'.batch i ≡ s.batch i → OthersKept i s s' → BatchesKept s s'
same_batch i s s' e o j = elim (ℕ_discrete j i) [
  | yes x ↦ subst (λ (n : ℕ). s'.batch n ≡ s.batch n) (sym x) e
  | no n ↦ o j n
]

-- another number than 0 changes nothing
refused_same : (c : QueueCall) (s s' : Stores) (r : ℕ) → Called c s r s' → (r ≡ number done → ⊥) → (s'.queue ≡ s.queue) × BatchesKept s s'
refused_same opening_queue s s' r p n = (p.1 ∙ ap (recount s.queue) (at_place 0 ((queue_open_demand s.queue s'.queue.count r p.0).keeps n)), p.2)
refused_same (opening_batch i) s s' r p n = (p.2, same_batch i s s' (p.1 ∙ ap (recount (s.batch i)) (at_place 0 ((queue_open_demand (s.batch i) (s'.batch i).count r p.0).keeps n))) p.3)
refused_same (pushing i h key seq top ops needs) s s' r p n =
    let k = (push_demand (s.batch i) h key seq top ops needs (s'.batch i) r p.0).keeps n in
    (p.1, same_batch i s s' (same_store (at_place 0 k) (at_place 1 k) (at_place 2 k) (at_place 3 k)) p.2)
refused_same (handing i) s s' r p n =
    let k = (hand_over_demand s.queue (s.batch i) s'.queue (s'.batch i).count r p.0).keeps n in
    (same_store (at_place 1 k) (at_place 2 k) (at_place 3 k) (at_place 4 k), same_batch i s s' (p.1 ∙ ap (recount (s.batch i)) (at_place 0 k)) p.2)
refused_same (releasing t a a') s s' r p n =
    let k = (release_demand (stock_of s.queue a) (stock_of s'.queue a') r t p.0).keeps n in
    (same_store (at_place 0 k) (at_place 1 k) (at_place 2 k) (at_place 3 k), p.1)
refused_same (dropping key from) s s' r p n =
    let k = (branch_demand s.queue key from s'.queue r p.0).keeps n in
    (same_store (at_place 0 k) (at_place 1 k) (at_place 2 k) (at_place 3 k), p.1)

refused_left : (c : QueueCall) (s s' : Stores) (r : ℕ) (k : Books) → Agree s k → Called c s r s' → (r ≡ number done → ⊥) → Leaves s s' k.waiting k.batches
refused_left c s s' r k m p n =
    let u = refused_same c s s' r p n in
    record {
      queue = subst (λ (x : Store). InBooks x k.waiting) (sym u.0) m.queue;
      batches = λ j. subst (λ (x : Store). InBooks x (batch_at j k.batches)) (sym (u.1 j)) (m.batches j);
      still = record { queue = λ v. subst GoodStore (sym u.0) v; batches = λ j v. subst GoodStore (sym (u.1 j)) v };
    }

-- ---- any calls

then_still : {s s₁ s' : Stores} → StillValid s s₁ → StillValid s₁ s' → StillValid s s'
then_still a b = record { queue = λ v. b.queue (a.queue v); batches = λ i v. b.batches i (a.batches i v) }

joins : {l₁ : List Waiting} (l x y : List Waiting) → l₁ ≡ l ++ x → l₁ ++ y ≡ l ++ (x ++ y)
joins l x y e = ap (λ (a : List Waiting). a ++ y) e ∙ append_assoc l x y

-- from any books that are balanced and say what the stores hold
pub accounted_on : {s s' : Stores} (cs : Calls s s') (k : Books) → Agree s k → Balanced k → Accounted cs k (after_all (calls_of cs) k)
unfolding after_all calls_of pushed_in given_in
accounted_on (stop s) k m b = record {
  agree = m;
  still = record { queue = λ v. v; batches = λ i v. v };
  taken = sym (append-nil k.taken);
  released = sym (append-nil k.released);
  balanced = b;
}
accounted_on (then s s₁ s' c r p more) k m b =
    by_bool (eqb r (number done))
    (λ t.
    let z = eqb-true r (number done) t in
    let x = done_left c s s₁ r k m p z in
    let a = accounted_on more (after (call_of c) k) (record { queue = x.queue; batches = x.batches }) (balanced_after (call_of c) k b) in
    record {
      agree = rw t a.agree;
      still = then_still x.still a.still;
      taken = rw t (a.taken ∙ joins k.taken (pushed_by c) (pushed_in more) (done_taken c k));
      released = rw t (a.released ∙ joins k.released (given_by c s s₁) (given_in more) (done_released c s s₁ r k m p z));
      balanced = rw t a.balanced;
    })
    (λ f.
    let x = refused_left c s s₁ r k m p (eqb-false r (number done) f) in
    let a = accounted_on more k (record { queue = x.queue; batches = x.batches }) b in
    record { agree = rw f a.agree; still = then_still x.still a.still; taken = rw f a.taken; released = rw f a.released; balanced = rw f a.balanced })

-- from stores in which nothing waits: each was opened, or is not valid
pub exactly_once : {s s' : Stores} (cs : Calls s s') → Agree s fresh → Accounted cs fresh (after_all (calls_of cs) fresh)
exactly_once cs m = accounted_on cs fresh m balanced_fresh

-- where all are valid, as opening leaves them, all stay valid, and hold exactly what the books say
pub always_holding : {s s' : Stores} (cs : Calls s s') (k : Books) → AllHolding s k → Balanced k → AllHolding s' (after_all (calls_of cs) k)
always_holding cs k m b =
    let a = accounted_on cs k (record { queue = inl m.queue; batches = λ i. inl (m.batches i) }) b in
    record {
      queue = holding a.agree.queue (λ n. n (a.still.queue m.queue.valid));
      batches = λ i. holding (a.agree.batches i) (λ n. n (a.still.batches i (m.batches i).valid));
    }

-- a number that no batch has: no tables are no valid store
pub no_batch : InBooks (store [] [] [] []) []
no_batch = inr (λ v. omega (arith, v.sized.laid.one_count), refl)

-- stores that were opened
pub opened_all : (s : Stores) → Holding s.queue [] → ((i : ℕ) → Holding (s.batch i) []) → AllHolding s fresh
unfolding batch_at
opened_all s q b = record { queue = q; batches = b }
