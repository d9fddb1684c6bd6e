-- Laws of dropping a branch.
use Rattle.std.specs.Prelude.{◌≡◌, refl, List, [], ◌∷◌, ◌++◌, Bool, true, false, not, cond, ◌||◌, length, take, get_or}
use Rattle.std.proofs.Common.{sym, ap, ◌∙◌, subst, add-zero, add-one, append-nil, append_assoc, length-append, length-take-le, take-take, get_or-take}
use Prim.Native.Nat.{ℕ, zero, suc, ◌+◌, ◌-◌, ◌<◌, ◌≤◌}
use Rattle.std.specs.List.{list_any, range_with_len}
use Rattle.std.proofs.Math.Nat.{sub-zero}
use native.Mathlib.Omega.{arith}
use Rattle.std.proofs.lemmas.List.{take-append-le}
use Rattle.paper.specs.Lists.{same_list, mem, names, pick, tally}
use Rattle.paper.specs.Queue.{branch, children, dropped, kept}
use Rattle.paper.proofs.Bools.{mem_get_d}
use Rattle.paper.proofs.Count.{pick_more, pick_length, tally_more, tally_most, tally_wider}
use Rattle.paper.proofs.Dropped.{spread_start, spread_most, spread_next, drop_turn, drop_stop, dropped_low}
use Rattle.paper.specs.Lists.{hash_at, hashes_from}
use Rattle.ready.specs.Tables.{queue_of}
use Rattle.branch.specs.Branch.{PutAfter, on_branch, depends_on, new_child, Spreading, DropList, Droppable, kept_of}
use Rattle.records.specs.Records.{unlisted}
use Rattle.waiting.specs.Valid.{waiting, StoreValid}
use Rattle.waiting.specs.ValidLaws.{valid_rooms, valid_small}
use Rattle.waiting.specs.Taken.{TakenOut}

-- ---- the scan of a list of hashes

names_any : (h ds : List ℕ) (first a m : ℕ) → list_any (λ j. same_list (hash_at ds (first + j)) h) (range_with_len a m) ≡ names h (hashes_from ds m (first + a))
unfolding names hashes_from
names_any h ds first a zero = refl
names_any h ds first a (suc m) =
    let e : suc (first + a) ≡ first + (a + 1) = omega arith in
    rw (e, names_any h ds first (a + 1) m)

pub names_in : (h ds : List ℕ) (first m : ℕ) → list_any (λ j. same_list (hash_at ds (first + j)) h) (range_with_len 0 m) ≡ names h (hashes_from ds m first)
names_in h ds first m = names_any h ds first 0 m ∙ ap (λ (x : ℕ). names h (hashes_from ds m x)) (add-zero first)

-- ---- putting after

pub after_start : (p : ℕ → Bool) (r : ℕ) (list : List ℕ) → PutAfter p 0 r list r list
unfolding pick tally
after_start p r list = record { listed = sym (append-nil (take r list)); counted = omega arith; list_length = refl }

module _ {p : ℕ → Bool} {i r₀ : ℕ} {list₀ : List ℕ} {r : ℕ} {list : List ℕ} (at : PutAfter p i r₀ list₀ r list) where
  pub after_room : (m : ℕ) → i < m → r₀ + tally p m ≤ length list₀ → r + cond (p i) 1 0 ≤ length list
  after_room m l room =
      let e : suc i + (m - suc i) ≡ m = omega arith in
      let w : tally p (suc i) ≤ tally p m = subst (λ (x : ℕ). tally p (suc i) ≤ tally p x) e (tally_wider p (suc i) (m - suc i)) in
      omega (arith, tally_more p i, at.counted, at.list_length)

  pub after_next : {r' : ℕ} {list' : List ℕ} {b : Bool} → b ≡ p i → r' ≡ r + cond b 1 0 → length list' ≡ length list → take r' list' ≡ take r list ++ cond b (i ∷ []) []
      → PutAfter p (i + 1) r₀ list₀ r' list'
  after_next {r'} {list'} {b} eb er el et =
      record {
        listed = rw add-one (et ∙ (rw (eb, at.listed, append_assoc) (ap (λ (l : List ℕ). take r₀ list₀ ++ l) (pick_more p i))));
        counted = rw add-one (omega (arith, at.counted, tally_more p i, er ∙ ap (λ (x : Bool). r + cond x 1 0) eb));
        list_length = el ∙ at.list_length;
      }

  -- the first ones stay
  pub after_front : r₀ ≤ length list₀ → r ≤ length list → take r₀ list ≡ take r₀ list₀
  after_front a b =
      sym (take-take r₀ r list (omega (arith, at.counted)))
      ∙ (rw at.listed (take-append-le r₀ (take r₀ list₀) (pick p i) (omega (arith, length-take-le r₀ list₀ a)) ∙ take-take r₀ r₀ list₀ (omega arith)))

  pub after_stays : (m : ℕ) → i < m → r₀ + tally p m ≤ length list₀ → take r₀ list ≡ take r₀ list₀
  after_stays m l room =
      let e : i + (m - i) ≡ m = omega arith in
      let w : tally p i ≤ tally p m = subst (λ (x : ℕ). tally p i ≤ tally p x) e (tally_wider p i (m - i)) in
      after_front (omega arith) (omega (arith, at.counted, at.list_length))

-- ---- the listing of the dropped ones

module _ {hs ns ds : List ℕ} {n key from : ℕ} {list₀ : List ℕ} where
  pub spreading_start : {r : ℕ} {list : List ℕ} → PutAfter (on_branch ns key from) n 0 list₀ r list → n ≤ length list₀ → Spreading hs ns ds n key from 0 list₀ r list
  unfolding dropped branch
  spreading_start {r} {list} at room =
      record {
        spread = rw at.listed (spread_start (queue_of hs ns ds n) key from);
        leads = rw (at.listed, sub-zero);
        placed = omega arith;
        fits = omega (arith, at.counted, tally_most (on_branch ns key from) n, at.list_length);
        list_length = at.list_length;
      }

  module _ {c r : ℕ} {list : List ℕ} (at : Spreading hs ns ds n key from c list₀ r list) where
    listed_length : length (take r list) ≡ r
    listed_length = length-take-le r list at.fits

    pub spreading_most : r ≤ n
    spreading_most = omega (arith, spread_most (queue_of hs ns ds n) key from c (take r list) at.spread, listed_length)

    pub spreading_end : r ≤ c → DropList hs ns ds n key from list₀ r list
    spreading_end l =
        record {
          listed = sym (drop_stop (queue_of hs ns ds n) key from (n - c) c (take r list) (rw listed_length l)) ∙ at.leads;
          fits = at.fits;
          list_length = at.list_length;
        }

    module _ (b : c < r) where
      here : get_or (take r list) c 0 ≡ get_or list c 0
      here = get_or-take r list c 0 b

      pub spreading_in : get_or list c 0 < n
      spreading_in =
          rw (← here) (dropped_low (queue_of hs ns ds n) key from (at.spread.sound (get_or (take r list) c 0) (mem_get_d (take r list) c (rw listed_length b))))

      children_are : pick (new_child hs ns ds (get_or list c 0) (take r list)) n ≡ children (queue_of hs ns ds n) (take r list) c
      unfolding children depends_on
      children_are = rw here

      grown : length (take r list ++ children (queue_of hs ns ds n) (take r list) c) ≤ n
      grown =
          spread_most (queue_of hs ns ds n) key from (suc c) (take r list ++ children (queue_of hs ns ds n) (take r list) c)
          (spread_next (queue_of hs ns ds n) key from c (take r list) at.spread (rw listed_length b))

      pub spreading_room : n ≤ length list → r + tally (new_child hs ns ds (get_or list c 0) (take r list)) n ≤ length list
      spreading_room room =
          omega (
            arith,
            grown,
            length-append (take r list) (children (queue_of hs ns ds n) (take r list) c),
            listed_length,
            ap length children_are,
            pick_length (new_child hs ns ds (get_or list c 0) (take r list)) n,
          )

      pub spreading_next : {r' : ℕ} {list' : List ℕ} → n ≤ length list → PutAfter (new_child hs ns ds (get_or list c 0) (take r list)) n r list r' list'
          → Spreading hs ns ds n key from (c + 1) list₀ r' list'
      spreading_next {r'} {list'} room done =
          let e : take r' list' ≡ take r list ++ children (queue_of hs ns ds n) (take r list) c = done.listed ∙ ap (λ (l : List ℕ). take r list ++ l) children_are in
          record {
            spread = rw (e, add-one) (spread_next (queue_of hs ns ds n) key from c (take r list) at.spread (rw listed_length b));
            leads = rw e (sym (drop_turn (queue_of hs ns ds n) key from c (take r list) (omega (arith, spreading_most)) (rw listed_length b)) ∙ at.leads);
            placed = omega (arith, done.counted);
            fits = omega (arith, done.counted, spreading_room room, done.list_length);
            list_length = done.list_length ∙ at.list_length;
          }

-- what is not dropped is kept
pub dropped_out : {hs ns ds : List ℕ} (cs : List ℕ) {key from : ℕ} {list₀ : List ℕ} {r : ℕ} {list : List ℕ} {hs' ns' ds' cs' : List ℕ}
    → DropList hs ns ds (waiting cs) key from list₀ r list → TakenOut hs ns ds cs (pick (unlisted list r) (waiting cs)) hs' ns' ds' cs'
    → TakenOut hs ns ds cs (kept_of hs ns ds cs key from) hs' ns' ds' cs'
unfolding kept_of kept
dropped_out {hs} {ns} {ds} cs {hs' = hs'} {ns' = ns'} {ds' = ds'} {cs' = cs'} d t =
    subst (λ (l : List ℕ). TakenOut hs ns ds cs (pick (λ i. not (mem i l)) (waiting cs)) hs' ns' ds' cs') d.listed t

pub valid_droppable : {hs ns ds : List ℕ} (cs : List ℕ) (list : List ℕ) → StoreValid hs ns ds cs → 256 ≤ length list → Droppable hs ns ds (waiting cs) list
valid_droppable cs list v l =
    let r = valid_rooms v in
    record {
      hashes_fit = r.hashes;
      held = record { in_numbers = r.numbers; in_deps = r.deps; few = v.few.each };
      small = valid_small v;
      room = omega (arith, valid_small v);
    }

-- ---- laws that no proof needs any more

module _ (h ds : List ℕ) (first m : ℕ) where
  pub names_start : names h (hashes_from ds (m - 0) (first + 0)) ≡ names h (hashes_from ds m first)
  names_start = rw (sub-zero, add-zero first)

  module _ (j : ℕ) where
    step : j < m → names h (hashes_from ds (m - j) (first + j)) ≡ (same_list (hash_at ds (first + j)) h || names h (hashes_from ds (m - (j + 1)) (first + (j + 1))))
    unfolding names hashes_from
    step l =
        let s : m - j ≡ suc (m - (j + 1)) = omega arith in
        let e : suc (first + j) ≡ first + (j + 1) = omega arith in
        rw (s, ← e)

    pub names_hit : j < m → same_list (hash_at ds (first + j)) h ≡ true → names h (hashes_from ds (m - j) (first + j)) ≡ true
    names_hit l t = step l ∙ rw t

    pub names_next : j < m → same_list (hash_at ds (first + j)) h ≡ false → names h (hashes_from ds (m - j) (first + j)) ≡ names h (hashes_from ds (m - (j + 1)) (first + (j + 1)))
    names_next l f = step l ∙ rw f

    pub names_end : m ≤ j → names h (hashes_from ds (m - j) (first + j)) ≡ false
    unfolding names hashes_from
    names_end l = let z : m - j ≡ 0 = omega arith in rw z
