-- Laws of a release.
use Rattle.std.specs.Prelude.{◌≡◌, ℕ, ◌*◌, ◌<◌, ◌≤◌, true, false, length, take, get_or, Ok, Err}
use Rattle.std.proofs.Common.{sym, ◌∙◌, subst, arith, get_or-take}
use Rattle.std.proofs.Math.Path.{ap}
use mathlib.Core.List.{List}
use Rattle.std.proofs.Math.Bool.{not}
use Rattle.paper.specs.Lists.{mem, pick}
use Rattle.paper.specs.Queue.{rest}
use Rattle.paper.proofs.Bools.{mem_get_d}
use Rattle.paper.proofs.Ready.{listed_low, order_most}
use Rattle.ready.specs.Tables.{queue_of, known_in}
use Rattle.ready.specs.Ordering.{Askable, Ordered}
use Rattle.records.specs.Records.{Listable, Filled, place_of, unlisted}
use Rattle.records.specs.RecordLaws.{filled_same}
use Rattle.waiting.specs.Valid.{waiting, StoreValid, is_roomy}
use Rattle.waiting.specs.ValidLaws.{valid_rooms, valid_small}
use Rattle.waiting.specs.Taken.{TakenOut}
use Rattle.release.specs.Release.{ready_of, rest_of, released_as, GivenOut}
use Rattle.waiting.specs.declared.QueueRefusal.TheVariants.{ShortBuffer}

-- what the test of room says of the answer
module _ (l th tn td : List ℕ) (r : ℕ) (e : r ≡ length l) where
  pub released_all : is_roomy (length th) (length tn) (length td) r ≡ true → Ok r ≡ released_as l th tn td
  unfolding released_as
  released_all t = rw (← e, t)

  pub released_short : is_roomy (length th) (length tn) (length td) r ≡ false → Err ShortBuffer ≡ released_as l th tn td
  unfolding released_as
  released_short f = rw (← e, f)

pub valid_askable : {hs ns ds cs : List ℕ} (gs : List ℕ) (k : ℕ) → 32 * k ≤ length gs → StoreValid hs ns ds cs → Askable gs k hs ns ds (waiting cs)
valid_askable gs k g v =
    let r = valid_rooms v in
    record {
      graph_fits = g;
      hashes_fit = r.hashes;
      held = record { in_numbers = r.numbers; in_deps = r.deps; few = v.few.each };
      small = valid_small v;
      distinct = v.distinct;
    }

module _ {gs : List ℕ} {k : ℕ} {hs ns ds list₀ : List ℕ} {r : ℕ} {list : List ℕ} (cs : List ℕ) (at : Ordered gs k hs ns ds (waiting cs) list₀ r list) where
  ordered : take r list ≡ ready_of gs k hs ns ds cs
  unfolding ready_of
  ordered = at.ordered

  pub ready_count : r ≡ length (ready_of gs k hs ns ds cs)
  unfolding ready_of
  ready_count = at.counted

  same_place : (p : ℕ) → p < r → place_of list p ≡ place_of (ready_of gs k hs ns ds cs) p
  same_place p l = sym (get_or-take r list p 0 l) ∙ ap (λ (x : List ℕ). get_or x p 0) ordered

  pub ready_most : r ≤ waiting cs
  ready_most = omega (arith, at.counted, order_most (known_in gs k) (queue_of hs ns ds (waiting cs)))

  low : (p : ℕ) → p < length (ready_of gs k hs ns ds cs) → place_of (ready_of gs k hs ns ds cs) p < waiting cs
  unfolding ready_of
  low p l = listed_low (known_in gs k) (queue_of hs ns ds (waiting cs)) (place_of (ready_of gs k hs ns ds cs) p) (mem_get_d (ready_of gs k hs ns ds cs) p l)

  pub ready_listable : StoreValid hs ns ds cs → waiting cs ≤ length list → Listable hs ns ds (waiting cs) list r
  ready_listable v room =
      record {
        rooms = valid_rooms v;
        few = v.few;
        fits = omega (arith, ready_most);
        low = λ p l. rw (same_place p l) (low p (omega (arith, ready_count)));
      }

  rest_same : pick (unlisted list r) (waiting cs) ≡ rest_of gs k hs ns ds cs
  unfolding rest_of rest
  rest_same = ap (λ (l : List ℕ). pick (λ i. not (mem i l)) (waiting cs)) at.ordered

  pub given_out : {th tn td hs' ns' ds' cs' th' tn' td' : List ℕ} → Filled hs ns ds (place_of list) 0 r th tn td th' tn' td'
      → TakenOut hs ns ds cs (pick (unlisted list r) (waiting cs)) hs' ns' ds' cs' → GivenOut gs k hs ns ds cs th tn td hs' ns' ds' cs' th' tn' td'
  given_out {th} {tn} {td} {hs'} {ns'} {ds'} {cs'} {th'} {tn'} {td'} a b =
      record {
        answer =
            subst (λ (x : ℕ). Filled hs ns ds (place_of (ready_of gs k hs ns ds cs)) 0 x th tn td th' tn' td') ready_count
            (filled_same (place_of list) (place_of (ready_of gs k hs ns ds cs)) same_place a);
        queue = subst (λ (l : List ℕ). TakenOut hs ns ds cs l hs' ns' ds' cs') rest_same b;
      }
