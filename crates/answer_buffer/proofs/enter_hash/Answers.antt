use Rattle.std.proofs.Common.{ℕ, ◌≡◌, ◌+◌, ◌*◌, ◌≤◌, List, length, sym, ap, ◌∙◌, arith}
use Rattle.std.specs.Prelude.{Some}
use Rattle.paper.specs.Lists.{hash_at, hashes_from, enter}
use Rattle.paper.proofs.Ascending.{enter_grows}
use Rattle.hash.specs.HashLaws.{hash_length}
use Rattle.list_laws.specs.Over.{over}
use Rattle.answer_buffer.specs.Slots.{slot}
use Rattle.answer_buffer.specs.SlotLaws.{entered_long, entered_bytes, there_bytes, there_long, before_entered, hashes_long}
use Rattle.answer_buffer.proofs.enter_hash.Goals as goal

-- the slot is among the hashes, and there is room for one more
record Open (out : List ℕ) (c i : ℕ) : Type 0 where
  low : i ≤ c
  room : 32 * c + 32 ≤ length out

open_at : (h out : List ℕ) (c i : ℕ) → slot h (hashes_from out c 0) 0 ≡ Some i → 32 * length (enter h (hashes_from out c 0)) ≤ length out → Open out c i
open_at h out c i e fits =
    let v = before_entered out c h i e in
    let l = v.low in
    let n = hashes_long out c 0 in
    let m = entered_long out c h i v in
    record { low = omega arith; room = omega arith }

pub find_slot-requires : goal.find_slot-requires
find_slot-requires c =
    let g = enter_grows (hash_at c.args.hashes.now c.args.k) (hashes_from c.args.out.now c.args.c 0) in
    let n = hashes_long c.args.out.now c.args.c 0 in
    (c.requires.0, omega (arith, c.requires.1))

pub returns-in_default : goal.returns-in_default
returns-in_default c = let e = sym c.find_slot.ensures ∙ c.in_default.is in record { value = there_long _ _ _ e; out_after = there_bytes _ _ _ e }

pub overflow_mul-i : goal.overflow_mul-i
overflow_mul-i c = let o = open_at _ _ _ _ (sym c.find_slot.ensures ∙ c.in-Some.is) c.requires.1 in omega arith

pub overflow_mul-c : goal.overflow_mul-c
overflow_mul-c c = let o = open_at _ _ _ _ (sym c.find_slot.ensures ∙ c.in-Some.is) c.requires.1 in omega arith

pub make_room-requires : goal.make_room-requires
make_room-requires c = let o = open_at _ _ _ _ (sym c.find_slot.ensures ∙ c.in-Some.is) c.requires.1 in (omega arith, o.room)

pub overflow_mul-i-2 : goal.overflow_mul-i-2
overflow_mul-i-2 c = let o = open_at _ _ _ _ (sym c.find_slot.ensures ∙ c.in-Some.is) c.requires.1 in omega arith

pub put_hash-requires : goal.put_hash-requires
put_hash-requires c = let o = open_at _ _ _ _ (sym c.find_slot.ensures ∙ c.in-Some.is) c.requires.1 in (omega (arith, c.make_room.auto.out), c.requires.0)

pub overflow_add-result : goal.overflow_add-result
overflow_add-result c = let o = open_at _ _ _ _ (sym c.find_slot.ensures ∙ c.in-Some.is) c.requires.1 in omega arith

pub returns : goal.returns
returns c =
    let e = sym c.find_slot.ensures ∙ c.in-Some.is in
    let o = open_at _ _ _ _ e c.requires.1 in
    let v = before_entered _ _ _ _ e in
    record {
      value = sym (entered_long _ _ _ _ v);
      out_after =
          c.put_hash.ensures
          ∙ ap (λ (d : List ℕ). over d (32 * c.in-Some.i) (hash_at c.args.hashes.now c.args.k)) c.make_room.ensures
          ∙ entered_bytes _ _ _ _ v (hash_length _ _ c.requires.0) o.room;
    }
