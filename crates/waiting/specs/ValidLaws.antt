-- Laws of validity: what the scans have found where they stand.
use Rattle.std.specs.Prelude.{◌≡◌, ◌↔◌, ℕ, zero, suc, ◌+◌, ◌*◌, ◌<◌, ◌≤◌, List, take, Bool, true, false, not, ◌&&◌, eqb, leb, length, get_or, Result, Ok, Err, Some, None, Option}
use Rattle.std.proofs.Math.Path.{refl}
use Rattle.std.specs.List.{list_any, list_all, range_with_len}
use Rattle.std.proofs.lemmas.List.{take_all}
use Rattle.std.proofs.lemmas.List.Folds.{list_any_more, list_all_more}
use Rattle.std.proofs.lemmas.List.FromFn.{length-range_with_len, get_or-range_with_len}
use Rattle.std.proofs.Common.{below_more, sym, ap, ◌∙◌, zero-add, ⊎_elim, arith, eq-or-lt_of_le, add-one}
use Rattle.std.proofs.lemmas.Bool.{false≢true}
use borrow.Author.Tests.{eqb-true, eq-eqb, leb-true, le-leb, not-true, not-false}
use Rattle.list_laws.specs.Iff.{failed}
use Rattle.paper.specs.Lists.{some_below, all_below}
use Rattle.paper.specs.Queue.{Distinct}
use Rattle.paper.proofs.Bools.{not-both, and_both, and_fst, and_snd, some_of, of_some, of_all, all_of, below_or_not}
use Rattle.paper.specs.Lists.{hash_at}
use Rattle.hash.specs.Hash.{find_hash}
use Rattle.hash.specs.HashLaws.{FoundIs, find_is}
use Rattle.ready.specs.Tables.{queue_of, is_at, known_in, dep_count}
use Rattle.records.specs.Records.{Few, Rooms}
use Rattle.records.specs.RecordLaws.{rooms_less}
use Rattle.waiting.specs.Valid.{room, waiting, Sized, StoreValid, Apart, has_actor_seq_in, is_roomy, HeldOrNot}
use Rattle.waiting.specs.declared.QueueRefusal.{QueueRefusal}

-- ---- a test of each number below n

any_front : (p : ℕ → Bool) (n i : ℕ) → i ≤ n → list_any p (take i (range_with_len 0 n)) ≡ some_below p i
unfolding some_below
any_front p n zero l = refl
any_front p n (suc i) l =
    let e : suc i ≡ i + 1 = omega arith in
    rw (e, list_any_more p (range_with_len 0 n) i 0 (omega (arith, length-range_with_len 0 n)), get_or-range_with_len 0 n i 0 l, zero-add, any_front p n i (omega arith))

pub any_below : (p : ℕ → Bool) (n : ℕ) → list_any p (range_with_len 0 n) ≡ some_below p n
any_below p n = ap (list_any p) (sym (take_all n (range_with_len 0 n) (omega (arith, length-range_with_len 0 n)))) ∙ any_front p n n (omega arith)

all_front : (p : ℕ → Bool) (n i : ℕ) → i ≤ n → list_all p (take i (range_with_len 0 n)) ≡ all_below p i
unfolding all_below
all_front p n zero l = refl
all_front p n (suc i) l =
    let e : suc i ≡ i + 1 = omega arith in
    rw (e, list_all_more p (range_with_len 0 n) i 0 (omega (arith, length-range_with_len 0 n)), get_or-range_with_len 0 n i 0 l, zero-add, all_front p n i (omega arith))

pub every_below : (p : ℕ → Bool) (n : ℕ) → list_all p (range_with_len 0 n) ≡ all_below p n
every_below p n = ap (list_all p) (sym (take_all n (range_with_len 0 n) (omega (arith, length-range_with_len 0 n)))) ∙ all_front p n n (omega arith)

-- ---- few

pub few_next : {ns : List ℕ} {i : ℕ} → Few ns i → dep_count ns i ≤ 32 → Few ns (i + 1)
few_next {ns} {i} f here = record { each = below_more (λ k. dep_count ns k ≤ 32) i f.each here }

pub few_is : (ns : List ℕ) (n : ℕ) → (all_below (λ i. leb (dep_count ns i) 32) n ≡ true) ↔ Few ns n
few_is ns n = (
  (λ e. record { each = λ i l. leb-true (dep_count ns i) 32 (of_all (λ k. leb (dep_count ns k) 32) n e i l) }),
  (λ f. all_of (λ k. leb (dep_count ns k) 32) n (λ k l. le-leb (dep_count ns k) 32 (f.each k l))),
)

-- ---- known

found_at : (gs : List ℕ) (n : ℕ) (h : List ℕ) (f : Option ℕ) → FoundIs gs n h f → is_at f ≡ true → (k : ℕ) × (k < n) × (hash_at gs k ≡ h)
unfolding FoundIs
found_at gs n h (Some k) r e = (k, r.0, r.1)
found_at gs n h None r e = absurd (false≢true e)

found_none : (gs : List ℕ) (n : ℕ) (h : List ℕ) (f : Option ℕ) → FoundIs gs n h f → is_at f ≡ false → (i : ℕ) → i < n → hash_at gs i ≡ h → ⊥
unfolding FoundIs
found_none gs n h (Some k) r e = absurd (false≢true (sym e))
found_none gs n h None r e = r

pub known_place : (gs : List ℕ) (n : ℕ) (h : List ℕ) → known_in gs n h ≡ true → (k : ℕ) × (k < n) × (hash_at gs k ≡ h)
unfolding known_in
known_place gs n h e = found_at gs n h (find_hash gs n h) (find_is gs n h) e

pub known_none : (gs : List ℕ) (n : ℕ) (h : List ℕ) → known_in gs n h ≡ false → (i : ℕ) → i < n → hash_at gs i ≡ h → ⊥
unfolding known_in
known_none gs n h e = found_none gs n h (find_hash gs n h) (find_is gs n h) e

-- ---- actor and sequence

module _ (ns : List ℕ) (key seq : ℕ) where
  abbrev is : ℕ → Bool
  is i = eqb (get_or ns (5 * i) 0) key && eqb (get_or ns (5 * i + 1) 0) seq

  pub actor_hit : (n i : ℕ) → i < n → get_or ns (5 * i) 0 ≡ key → get_or ns (5 * i + 1) 0 ≡ seq → has_actor_seq_in ns n key seq ≡ true
  unfolding has_actor_seq_in
  actor_hit n i l a b = some_of is n i l (and_both (eqb (get_or ns (5 * i) 0) key) (eqb (get_or ns (5 * i + 1) 0) seq) (eq-eqb (get_or ns (5 * i) 0) key a) (eq-eqb (get_or ns (5 * i + 1) 0) seq b))

  pub actor_place : (n : ℕ) → has_actor_seq_in ns n key seq ≡ true → (i : ℕ) × (i < n) × (get_or ns (5 * i) 0 ≡ key) × (get_or ns (5 * i + 1) 0 ≡ seq)
  unfolding has_actor_seq_in
  actor_place n e =
      let r = of_some is n e in
      let i = r.0 in (
        i,
        r.1,
        eqb-true (get_or ns (5 * i) 0) key (and_fst (eqb (get_or ns (5 * i) 0) key) (eqb (get_or ns (5 * i + 1) 0) seq) r.2),
        eqb-true (get_or ns (5 * i + 1) 0) seq (and_snd (eqb (get_or ns (5 * i) 0) key) (eqb (get_or ns (5 * i + 1) 0) seq) r.2),
      )

-- ---- apart

pub apart_start : (hs ns : List ℕ) → Apart hs ns 0
apart_start hs ns = record { hashes = λ i j a b. absurd (omega arith); actors = λ i j a b. absurd (omega arith) }

module _ {hs ns : List ℕ} {i : ℕ} where
  pub apart_next : Apart hs ns i → known_in hs i (hash_at hs i) ≡ false → has_actor_seq_in ns i (get_or ns (5 * i) 0) (get_or ns (5 * i + 1) 0) ≡ false → Apart hs ns (i + 1)
  apart_next old no-hash no_actor =
      record {
        hashes = λ j k a b e.
            ⊎_elim (λ same. known_none hs i (hash_at hs i) no-hash j (omega arith) (e ∙ ap (hash_at hs) same)) (λ l. old.hashes j k a l e)
            (eq-or-lt_of_le {n = k} {m = i} (omega arith));
        actors = λ j k a b e f.
            ⊎_elim
            (λ same.
            not-both (actor_hit ns (get_or ns (5 * i) 0) (get_or ns (5 * i + 1) 0) i j (omega arith) (e ∙ ap (λ (x : ℕ). get_or ns (5 * x) 0) same) (f ∙ ap (λ (x : ℕ). get_or ns (5 * x + 1) 0) same)) no_actor)
            (λ l. old.actors j k a l e f)
            (eq-or-lt_of_le {n = k} {m = i} (omega arith));
      }

  pub apart_no_hash : {n : ℕ} → i < n → known_in hs i (hash_at hs i) ≡ true → Apart hs ns n → ⊥
  apart_no_hash l e all = let r = known_place hs i (hash_at hs i) e in all.hashes r.0 i r.1 l r.2

  pub apart_no_actor : {n : ℕ} → i < n → has_actor_seq_in ns i (get_or ns (5 * i) 0) (get_or ns (5 * i + 1) 0) ≡ true → Apart hs ns n → ⊥
  apart_no_actor l e all =
      let r = actor_place ns (get_or ns (5 * i) 0) (get_or ns (5 * i + 1) 0) i e in all.actors r.0 i r.1 l r.2 r.3

-- it is the paper's distinct
pub apart_distinct : (hs ns ds : List ℕ) (n : ℕ) → Apart hs ns n ↔ Distinct (queue_of hs ns ds n)
apart_distinct hs ns ds n = (
  (λ a.
      record {
        hashes = λ i j l m e. three i j (λ b. a.hashes i j b m e) (λ b. a.hashes j i b l (sym e));
        actors = λ i j l m e f. three i j (λ b. a.actors i j b m e f) (λ b. a.actors j i b l (sym e) (sym f));
      }),
  (λ d.
      record {
        hashes = λ i j l m e. let q = d.hashes i j (omega arith) m e in omega arith;
        actors = λ i j l m e f. let q = d.actors i j (omega arith) m e f in omega arith;
      }),
)
  where
    three : (i j : ℕ) → (i < j → ⊥) → (j < i → ⊥) → i ≡ j
    three i j f g = ⊎_elim (λ l. absurd (f l)) (λ l. ⊎_elim (λ e. sym e) (λ m. absurd (g m)) (eq-or-lt_of_le {n = j} {m = i} l)) (below_or_not i j)

-- ---- room

pub sized_rooms : {hs ns ds cs : List ℕ} → Sized hs ns ds cs → Rooms hs ns ds (room hs)
sized_rooms s = record { hashes = omega (arith, s.laid.hashes_whole); numbers = omega (arith, s.laid.numbers_agree); deps = omega (arith, s.laid.deps_agree) }

pub valid_rooms : {hs ns ds cs : List ℕ} → StoreValid hs ns ds cs → Rooms hs ns ds (waiting cs)
valid_rooms {cs = cs} v = rooms_less (waiting cs) (sized_rooms v.sized) v.sized.within

pub valid_small : {hs ns ds cs : List ℕ} → StoreValid hs ns ds cs → waiting cs ≤ 256
valid_small v = omega (arith, v.sized.within, v.sized.laid.most)

pub roomy_rooms : (th tn td : List ℕ) (r : ℕ) → is_roomy (length th) (length tn) (length td) r ≡ true → Rooms th tn td r
unfolding is_roomy
roomy_rooms th tn td r e =
    let a = and_fst (leb (32 * r) (length th)) (leb (5 * r) (length tn) && leb (1024 * r) (length td)) e in
    let b = and_snd (leb (32 * r) (length th)) (leb (5 * r) (length tn) && leb (1024 * r) (length td)) e in
    record {
      hashes = leb-true (32 * r) (length th) a;
      numbers = leb-true (5 * r) (length tn) (and_fst (leb (5 * r) (length tn)) (leb (1024 * r) (length td)) b);
      deps = leb-true (1024 * r) (length td) (and_snd (leb (5 * r) (length tn)) (leb (1024 * r) (length td)) b);
    }

-- ---- what a check said

-- it refused nothing: what is lent is valid
pub held : {A H : Type 0} {a : A} {e : QueueRefusal} {r : Result A QueueRefusal} → HeldOrNot H (r ≡ Ok a) (r ≡ Err e) → r ≡ Ok a → H
held {A} {H} {a} {e} {r} o w =
    ⊎_elim (λ (h : H × (r ≡ Ok a)). h.0) (λ (n : (H → ⊥) × (r ≡ Err e)). let z : ◌≡◌ {A = ℕ} 0 1 = err_ok (sym n.1 ∙ w) in absurd (omega arith)) o
  where
    err_ok : Err e ≡ Ok a → ◌≡◌ {A = ℕ} 0 1
    err_ok x = cc

-- ---- laws that no proof needs any more

pub few_start : (ns : List ℕ) → Few ns 0
few_start ns = record { each = λ i l. absurd (omega arith) }

pub few_not : {ns : List ℕ} {n : ℕ} (i : ℕ) → i < n → 32 < dep_count ns i → Few ns n → ⊥
few_not i l b f = omega (arith, f.each i l)

module _ (ns : List ℕ) (key seq : ℕ) where
  pub actor_start : has_actor_seq_in ns 0 key seq ≡ false
  unfolding has_actor_seq_in some_below
  actor_start = refl

  pub actor_next : (i : ℕ) → has_actor_seq_in ns i key seq ≡ false → (eqb (get_or ns (5 * i) 0) key && eqb (get_or ns (5 * i + 1) 0) seq) ≡ false → has_actor_seq_in ns (i + 1) key seq ≡ false
  unfolding has_actor_seq_in some_below
  actor_next i old here = rw (add-one, old, here)

  pub actor_hit_both : (n i : ℕ) → i < n → (eqb (get_or ns (5 * i) 0) key && eqb (get_or ns (5 * i + 1) 0) seq) ≡ true → has_actor_seq_in ns n key seq ≡ true
  unfolding has_actor_seq_in
  actor_hit_both n i l e = some_of (is ns key seq) n i l e

-- what a check said, that was passed or not
pub passed : {b : Bool} {P : Type 0} → (b ≡ true) ↔ P → not b ≡ false → P
passed {b} i e = i.0 (not-false b e)

pub refused : {b : Bool} {P : Type 0} → (b ≡ true) ↔ P → not b ≡ true → P → ⊥
refused {b} i e = failed i (not-true b e)
