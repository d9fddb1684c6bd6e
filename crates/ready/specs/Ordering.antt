-- How far the ready order is: the invariant of the loop over the listed changes, and its laws.
use Rattle.std.specs.Prelude.{◌≡◌, ℕ, zero, suc, ◌+◌, ◌-◌, ◌*◌, ◌<◌, ◌≤◌, Bool, ◌&&◌, length, get_or}
use Rattle.std.proofs.Math.Path.{refl, sym, ap}
use Rattle.std.proofs.Common.{◌∙◌, add-one, arith, length-append, length-take-le, get_or-take, eq-eqb, ne_eqb, eqb-true}
use Rattle.std.proofs.Math.Nat.{sub-zero}
use mathlib.Core.List.{List, [], ◌++◌, append-nil}
use Rattle.std.proofs.Math.Bool.{true, false, not}
use Rattle.std.proofs.Math.Dec.{eqb}
use Rattle.std.proofs.Math.ListN.{take}
use Rattle.std.proofs.lemmas.List.{take-append-le}
use Rattle.std.proofs.lemmas.Bool.{eqb-false}
use Rattle.paper.specs.Lists.{same_list, pick, tally, count}
use Rattle.paper.specs.Queue.{Queue, Distinct, met, first, freed, order_from, order}
use Rattle.paper.proofs.Bools.{by_bool, pick_ext, mem_get_d}
use Rattle.paper.proofs.Count.{pick_length}
use Rattle.paper.proofs.Ready.{Listed, listed_start, listed_most, listed_in, listed_new, listed_next, order_turn, order_stop}
use Rattle.paper.specs.Lists.{hash_at, hashes_from}
use Rattle.ready.specs.Tables.{dep_count, queue_of, known_in, none_of, DepsHeld}
use Rattle.ready.specs.Open.{unmet, unknown_of, hits_of, last_hit, freed_by, Begun, Passed, Freeable}
use Rattle.ready.specs.OpenLaws.{met_unmet, unmet_start, unmet_known, unmet_hit}

pick_none : (p : ℕ → Bool) (m : ℕ) → ((i : ℕ) → p i ≡ false) → pick p m ≡ []
unfolding pick
pick_none p zero h = refl
pick_none p (suc m) h = rw (h m) (pick_none p m h)

-- the last is hit where something was unmet before, and nothing is after
last_is : (u v hit : ℕ) → u ≡ v + hit → last_hit u hit ≡ (eqb v 0 && not (eqb u 0))
last_is u v hit e =
    by_bool (eqb v 0)
    (λ t. let z = eqb-true v 0 t in rw (t, eq-eqb u hit (omega arith)) (and_true (not (eqb u 0))))
    (λ f. let n = eqb-false v 0 f in rw (f, ne_eqb u hit (λ w. n (omega arith))) (and_false (not (eqb u 0))))
  where
    and_true : (b : Bool) → (b && true) ≡ b
    and_true true = refl
    and_true false = refl

    and_false : (b : Bool) → (b && false) ≡ false
    and_false true = refl
    and_false false = refl

module _ (known : List ℕ → Bool) (q : Queue) where
  -- the first c of the r listed positions are looked at, and `left` says what each waiting change still waits for
  pub record Ordering (c : ℕ) (left : List ℕ) (r : ℕ) (list : List ℕ) : Type 0 where
    pub listed : Listed known q c (take r list)
    pub leads : order_from known q (q.size - c) c (take r list) ≡ order known q
    pub lefts : (i : ℕ) → i < q.size → get_or left i 0 ≡ unmet known q (take c (take r list)) i
    pub placed : c ≤ r
    pub fits : r ≤ length list

  -- ---- the start

  pub ordering_start : (f : ℕ → ℕ) → ((i : ℕ) → f i ≡ unmet known q [] i) → {left₀ list₀ left : List ℕ} {r : ℕ} {list : List ℕ}
      → Begun f q.size left₀ list₀ left r list → q.size ≤ length list₀ → Ordering 0 left r list
  unfolding order first
  ordering_start f same {left₀} {list₀} {left} {r} {list} at room =
      let begins : take r list ≡ first known q = at.list ∙ first_is in
      record {
        listed = rw begins (listed_start known q);
        leads = rw (begins, sub-zero);
        lefts = λ i l. at.lefts i l ∙ same i;
        placed = omega arith;
        fits = omega (arith, at.most, at.order_length);
      }
    where
      first_is : pick (λ i. eqb (f i) 0) q.size ≡ first known q
      first_is = pick_ext (λ i. eqb (f i) 0) (met known q []) q.size (λ k l. ap (λ (x : ℕ). eqb x 0) (same k) ∙ sym (met_unmet known q [] k))

  module _ {c : ℕ} {left : List ℕ} {r : ℕ} {list : List ℕ} (at : Ordering c left r list) where
    pub listed_length : length (take r list) ≡ r
    listed_length = length-take-le r list at.fits

    -- all are looked at
    pub ordering_end : r ≤ c → take r list ≡ order known q
    ordering_end b = sym (order_stop known q (q.size - c) c (take r list) (rw listed_length b)) ∙ at.leads

    pub ordering_most : r ≤ q.size
    ordering_most = omega (arith, listed_most known q c (take r list) at.listed, listed_length)

    module _ (b : c < r) where
      in_list : c < length (take r list)
      in_list = rw listed_length b

      here : get_or (take r list) c 0 ≡ get_or list c 0
      here = get_or-take r list c 0 b

      -- the position at place c is one of the queue's
      pub ordering_in : get_or list c 0 < q.size
      ordering_in = rw (← here) (listed_in known q c (take r list) at.listed (get_or (take r list) c 0) (mem_get_d (take r list) c in_list))

      low : c < q.size
      low = omega (arith, ordering_most)

      -- the next turn's list, and where it leads
      next_leads : {l : List ℕ} → l ≡ take r list ++ freed known q (take r list) c → order_from known q (q.size - (c + 1)) (c + 1) l ≡ order known q
      next_leads e = rw e (sym (order_turn known q c (take r list) low in_list) ∙ at.leads)

      next_listed : {l : List ℕ} → l ≡ take r list ++ freed known q (take r list) c → Listed known q (c + 1) l
      next_listed e = rw (e, add-one) (listed_next known q c (take r list) at.listed in_list)

      -- ---- its hash is known already: nobody is freed

      module _ (k : known (q.at (get_or list c 0)).hash ≡ true) where
        same_unmet : (i : ℕ) → unmet known q (take (suc c) (take r list)) i ≡ unmet known q (take c (take r list)) i
        same_unmet = unmet_known known q (take r list) c in_list (rw here k)

        none_freed : freed known q (take r list) c ≡ []
        unfolding freed
        none_freed = pick_none (λ i. met known q (take (suc c) (take r list)) i && not (met known q (take c (take r list)) i)) q.size never
          where
            contradict : (x : Bool) → (x && not x) ≡ false
            contradict true = refl
            contradict false = refl

            never : (i : ℕ) → (met known q (take (suc c) (take r list)) i && not (met known q (take c (take r list)) i)) ≡ false
            never i =
                rw (met_unmet known q (take (suc c) (take r list)) i, met_unmet known q (take c (take r list)) i, same_unmet i)
                (contradict (eqb (unmet known q (take c (take r list)) i) 0))

        stays : take r list ≡ take r list ++ freed known q (take r list) c
        stays = rw none_freed (sym (append-nil (take r list)))

        pub ordering_known : Ordering (c + 1) left r list
        ordering_known =
            record {
              listed = next_listed stays;
              leads = next_leads stays;
              lefts = λ i l. rw add-one (at.lefts i l ∙ sym (same_unmet i));
              placed = omega arith;
              fits = at.fits;
            }

      -- ---- it is new: those that waited for nothing else are freed

      module _ (d : Distinct q) (k : known (q.at (get_or list c 0)).hash ≡ false) (hit : ℕ → ℕ)
          (is-hit : (i : ℕ) → hit i ≡ count (same_list (q.at (get_or list c 0)).hash) (q.at i).deps) where
        less : (i : ℕ) → unmet known q (take c (take r list)) i ≡ unmet known q (take (suc c) (take r list)) i + hit i
        less i =
            rw (is-hit i, ← here)
            (unmet_hit known q (take r list) c in_list (rw here k) (listed_new known q c (take r list) at.listed d c in_list) i)

        pub ordering_hits : (i : ℕ) → i < q.size → hit i ≤ get_or left i 0
        ordering_hits i l = omega (arith, less i, at.lefts i l)

        freed_is : pick (freed_by left hit) q.size ≡ freed known q (take r list) c
        unfolding freed
        freed_is = pick_ext (freed_by left hit) (λ i. met known q (take (suc c) (take r list)) i && not (met known q (take c (take r list)) i)) q.size same
          where
            same : (i : ℕ) → i < q.size → freed_by left hit i ≡ (met known q (take (suc c) (take r list)) i && not (met known q (take c (take r list)) i))
            same i l =
                rw (met_unmet known q (take (suc c) (take r list)) i, met_unmet known q (take c (take r list)) i, at.lefts i l)
                (last_is (unmet known q (take c (take r list)) i) (unmet known q (take (suc c) (take r list)) i) (hit i) (less i))

        grown : length (take r list ++ freed known q (take r list) c) ≤ q.size
        grown = listed_most known q (c + 1) (take r list ++ freed known q (take r list) c) (next_listed refl)

        -- there is room for them
        pub ordering_room : q.size ≤ length list → r + tally (freed_by left hit) q.size ≤ length list
        ordering_room room =
            omega (
              arith,
              grown,
              length-append (take r list) (freed known q (take r list) c),
              listed_length,
              ap length freed_is,
              pick_length (freed_by left hit) q.size,
            )

        pub ordering_passed : q.size ≤ length list → {left' : List ℕ} {r' : ℕ} {list' : List ℕ} → Passed hit q.size left r list left' r' list' → Ordering (c + 1) left' r' list'
        ordering_passed room {left'} {r'} {list'} done =
            let e : take r' list' ≡ take r list ++ freed known q (take r list) c = done.list ∙ ap (λ (l : List ℕ). take r list ++ l) freed_is in
            record {
              listed = next_listed e;
              leads = next_leads e;
              lefts = λ i l.
                  rw (e, add-one, take-append-le (suc c) (take r list) (freed known q (take r list) c) in_list)
                  (done.lefts i l ∙ omega (arith, less i, at.lefts i l));
              placed = omega (arith, done.listed);
              fits = omega (arith, done.listed, ordering_room room, done.order_length);
            }

unknown_is : (gs : List ℕ) (n : ℕ) (hs ns ds : List ℕ) (m i : ℕ) → unknown_of gs n ns ds i ≡ unmet (known_in gs n) (queue_of hs ns ds m) [] i
unfolding unknown_of none_of
unknown_is gs n hs ns ds m i = sym (unmet_start (known_in gs n) (queue_of hs ns ds m) i)

-- ---- contracts

-- what the ready order asks for: room, and distinct hashes
pub record Askable (gs : List ℕ) (n : ℕ) (hs ns ds : List ℕ) (m : ℕ) : Type 0 where
  pub graph_fits : 32 * n ≤ length gs
  pub hashes_fit : 32 * m ≤ length hs
  pub held : DepsHeld ns ds m
  pub small : m ≤ 256
  pub distinct : Distinct (queue_of hs ns ds m)

-- what a turn leaves
pub record Turned (gs : List ℕ) (n : ℕ) (hs ns ds : List ℕ) (m c : ℕ) (left₀ list₀ left : List ℕ) (r : ℕ) (list : List ℕ) : Type 0 where
  pub state : Ordering (known_in gs n) (queue_of hs ns ds m) c left r list
  pub left_length : length left ≡ length left₀
  pub list_length : length list ≡ length list₀

-- what a turn asks for
pub record Turnable (gs : List ℕ) (n : ℕ) (hs ns ds : List ℕ) (m c : ℕ) (left : List ℕ) (r : ℕ) (list : List ℕ) : Type 0 where
  pub asked : Askable gs n hs ns ds m
  pub more : c < r
  pub left_room : m ≤ length left
  pub list_room : m ≤ length list
  pub state : Ordering (known_in gs n) (queue_of hs ns ds m) c left r list

-- the first r positions are the ready order
pub record Ordered (gs : List ℕ) (n : ℕ) (hs ns ds : List ℕ) (m : ℕ) (list₀ : List ℕ) (r : ℕ) (list : List ℕ) : Type 0 where
  pub ordered : take r list ≡ order (known_in gs n) (queue_of hs ns ds m)
  pub counted : r ≡ length (order (known_in gs n) (queue_of hs ns ds m))
  pub list_length : length list ≡ length list₀

-- ---- the turn's laws, over the tables

module _ {gs : List ℕ} {n : ℕ} {hs ns ds : List ℕ} {m c : ℕ} {left : List ℕ} {r : ℕ} {list : List ℕ} (at : Turnable gs n hs ns ds m c left r list) where
  pub turn_in : get_or list c 0 < m
  turn_in = ordering_in (known_in gs n) (queue_of hs ns ds m) at.state at.more

  pub turn_hash_in : 32 * get_or list c 0 + 32 ≤ length hs
  turn_hash_in = omega (arith, turn_in, at.asked.hashes_fit)

  pub turn_known : known_in gs n (hash_at hs (get_or list c 0)) ≡ true → Turned gs n hs ns ds m (c + 1) left list left r list
  turn_known k =
      record { state = ordering_known (known_in gs n) (queue_of hs ns ds m) at.state at.more k; left_length = refl; list_length = refl }

  module _ (k : known_in gs n (hash_at hs (get_or list c 0)) ≡ false) where
    hits_are : (i : ℕ) → hits_of hs ns ds (get_or list c 0) i ≡ count (same_list (hash_at hs (get_or list c 0))) (hashes_from ds (dep_count ns i) (32 * i))
    unfolding hits_of
    hits_are i = refl

    pub turn_freeable : Freeable hs ns ds m (get_or list c 0) left r list
    turn_freeable =
        record {
          hash_in = turn_hash_in;
          held = at.asked.held;
          small = at.asked.small;
          left_room = at.left_room;
          enough = ordering_hits (known_in gs n) (queue_of hs ns ds m) at.state at.more at.asked.distinct k (hits_of hs ns ds (get_or list c 0)) hits_are;
          room = ordering_room (known_in gs n) (queue_of hs ns ds m) at.state at.more at.asked.distinct k (hits_of hs ns ds (get_or list c 0)) hits_are at.list_room;
        }

    pub turn_passed : {left' : List ℕ} {r' : ℕ} {list' : List ℕ} → Passed (hits_of hs ns ds (get_or list c 0)) m left r list left' r' list'
        → Turned gs n hs ns ds m (c + 1) left list left' r' list'
    turn_passed done =
        record {
          state = ordering_passed (known_in gs n) (queue_of hs ns ds m) at.state at.more at.asked.distinct k (hits_of hs ns ds (get_or list c 0)) hits_are at.list_room done;
          left_length = done.left_length;
          list_length = done.order_length;
        }

-- the first pass is the start
pub turns_start : {gs : List ℕ} {n : ℕ} {hs ns ds : List ℕ} {m : ℕ} {left₀ list₀ left : List ℕ} {r : ℕ} {list : List ℕ}
    → Begun (unknown_of gs n ns ds) m left₀ list₀ left r list → m ≤ length list₀ → Turned gs n hs ns ds m 0 left₀ list₀ left r list
turns_start {gs} {n} {hs} {ns} {ds} {m} begun room =
    record {
      state = ordering_start (known_in gs n) (queue_of hs ns ds m) (unknown_of gs n ns ds) same begun room;
      left_length = begun.left_length;
      list_length = begun.order_length;
    }
  where
    same : (i : ℕ) → unknown_of gs n ns ds i ≡ unmet (known_in gs n) (queue_of hs ns ds m) [] i
    same i = unknown_is gs n hs ns ds m i

-- the last turn is the end
pub turns_end : {gs : List ℕ} {n : ℕ} {hs ns ds : List ℕ} {m c : ℕ} {left₀ list₀ left : List ℕ} {r : ℕ} {list : List ℕ}
    → Turned gs n hs ns ds m c left₀ list₀ left r list → r ≤ c → Ordered gs n hs ns ds m list₀ r list
turns_end {gs} {n} {hs} {ns} {ds} {m} {c} at end =
    let e = ordering_end (known_in gs n) (queue_of hs ns ds m) at.state end in
    record { ordered = e; counted = sym (listed_length (known_in gs n) (queue_of hs ns ds m) at.state) ∙ ap length e; list_length = at.list_length }

pub turned_most : {gs : List ℕ} {n : ℕ} {hs ns ds : List ℕ} {m c : ℕ} {left₀ list₀ left : List ℕ} {r : ℕ} {list : List ℕ}
    → Turned gs n hs ns ds m c left₀ list₀ left r list → r ≤ m
turned_most {gs} {n} {hs} {ns} {ds} {m} at = ordering_most (known_in gs n) (queue_of hs ns ds m) at.state
