-- Laws of pushing.
use Rattle.std.specs.Prelude.{◌≡◌, refl, ℕ, ◌+◌, ◌/◌, ◌%◌, ◌<◌, ◌≤◌, List, false, eqb, ltb, leb, length, Ok}
use Rattle.std.proofs.Common.{sym, arith, eqb-true, ltb-false, leb-false}
use Rattle.std.proofs.Math.Seq.{take-length}
use Rattle.list_laws.specs.Over.{part}
use Rattle.paper.proofs.Bools.{by_bool, not-both}
use Rattle.ready.specs.Tables.{known_in}
use Rattle.records.specs.RecordLaws.{rooms_less}
use Rattle.waiting.specs.Valid.{room, waiting, has_actor_seq_in, StoreValid}
use Rattle.waiting.specs.ValidLaws.{sized_rooms}
use Rattle.waiting.specs.RefusedLaws.{not_refused}
use Rattle.batch.specs.Push.{is_malformed, push_judged, Counted, Placeable}

-- the whole of a list is a part of it
pub whole_part : (h : List ℕ) (n : ℕ) → length h ≡ n → part h 0 n ≡ h
unfolding part
whole_part h n e = rw (← e) (take-length h)

pub valid_counted : {hs ns ds cs : List ℕ} → StoreValid hs ns ds cs → Counted hs ns cs
valid_counted v =
    let s = v.sized in
    record { one_count = s.laid.one_count; in_hashes = omega (arith, s.laid.hashes_whole, s.within); in_numbers = omega (arith, s.laid.numbers_agree, s.within) }

-- ---- a push that is judged good

-- what holds then
pub record Fine (hs ns cs h : List ℕ) (key seq : ℕ) (needs : List ℕ) : Type 0 where
  pub hash_whole : length h ≡ 32
  pub list_whole : length needs % 32 ≡ 0
  pub new_hash : known_in hs (waiting cs) h ≡ false
  pub new_actor : has_actor_seq_in ns (waiting cs) key seq ≡ false
  pub few : length needs / 32 ≤ 32
  pub space : waiting cs < room hs

pub whole : (h needs : List ℕ) → is_malformed h needs ≡ false → (length h ≡ 32) × (length needs % 32 ≡ 0)
unfolding is_malformed
whole h needs e =
    by_bool (eqb (length h) 32)
    (λ t. by_bool (eqb (length needs % 32) 0) (λ u. (eqb-true (length h) 32 t, eqb-true (length needs % 32) 0 u)) (λ u. not-both (sym (rw (t, u) at e)) refl))
    (λ f. not-both (sym (rw f at e)) refl)

pub done_fine : (hs ns cs h : List ℕ) (key seq : ℕ) (needs : List ℕ) → push_judged hs ns cs h key seq needs ≡ Ok tt → Fine hs ns cs h key seq needs
unfolding push_judged
done_fine hs ns cs h key seq needs e =
    let a = not_refused (is_malformed h needs) _ _ e in
    let b = not_refused (known_in hs (waiting cs) h) _ _ a.1 in
    let c = not_refused (has_actor_seq_in ns (waiting cs) key seq) _ _ b.1 in
    let d = not_refused (ltb 32 (length needs / 32)) _ _ c.1 in
    let f = not_refused (leb (room hs) (waiting cs)) _ _ d.1 in
    let w = whole h needs a.0 in
    record {
      hash_whole = w.0;
      list_whole = w.1;
      new_hash = b.0;
      new_actor = c.0;
      few = ltb-false 32 (length needs / 32) d.0;
      space = leb-false (room hs) (waiting cs) f.0;
    }

pub fine_placeable : {hs ns ds cs h : List ℕ} {key seq : ℕ} {needs : List ℕ} → StoreValid hs ns ds cs → Fine hs ns cs h key seq needs → Placeable hs ns ds cs h needs
fine_placeable {hs} {ns} {ds} {cs} v f =
    record {
      one_count = v.sized.laid.one_count;
      rooms = rooms_less (waiting cs + 1) (sized_rooms v.sized) (omega (arith, f.space));
      small = omega (arith, f.space, v.sized.laid.most);
      hash_whole = f.hash_whole;
      few = omega (arith, f.few, f.list_whole);
    }
