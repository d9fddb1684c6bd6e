use Rattle.std.proofs.Common.{ℕ, List, Bool, ◌≡◌, ◌≤◌, ◌*◌, ◌/◌, length, sym, ◌∙◌, arith}
use Rattle.paper.specs.Lists.{tally}
use Rattle.answer_buffer.specs.AnswerLaws.{listed_short, filled_short}
use Rattle.ancestors.specs.Ancestors.{hash_stays, first_kept, kept_bytes}
use Rattle.ancestors.specs.KeptLaws.{kept_start, kept_room, enter_room, enter_next, enter_skip}
use Rattle.ancestors.specs.AncestorLaws.{kept_bytes_long, entered_told, entered_whole}
use Rattle.ancestors.proofs.kept_into.Goals.{then-is_kept, else-is_kept}
use Rattle.ancestors.proofs.kept_into.Goals as goal

-- the buffer has room for all that are kept
fits : (hs : List ℕ) (n : ℕ) (marks list : List ℕ) {count r : ℕ} → count ≡ tally (first_kept hs n marks list) (length list / 32) → count ≤ r / 32 → 32 * tally (first_kept hs n marks list) (length list / 32) ≤ r
fits hs n marks list e l = omega arith

pub returns-then-out-count : goal.returns-then-out-count
returns-then-out-count c =
    let s = c.args in
    let b = kept_bytes s.hashes.now s.n s.marks.now s.list.now in
    let n = c.count_kept-count.ensures in
    let h = kept_bytes_long s.hashes.now s.n s.marks.now s.list.now in
    let l = c.if-out-count.true in
    record {
      value = sym (listed_short b _ (omega arith));
      out_after = sym (filled_short b _ (omega arith));
    }

pub loop-i-init : goal.loop-i-init
loop-i-init c = kept_start _ _ _

pub enter_hash-c-requires : goal.enter_hash-c-requires
enter_hash-c-requires c =
    let s = c.args in
    let l = c.loop-i-test.true in
    let room = fits s.hashes.now s.n s.marks.now s.list.now c.count_kept-count.ensures c.if-out-count.false in
    (omega arith, enter_room (hash_stays s.hashes.now s.n s.marks.now) s.list.now (length s.list.now / 32) (omega arith) c.loop-i.invariant room l (sym c.is_kept.ensures ∙ c.if-is_kept.true))

pub loop-i-preserved : goal.loop-i-preserved
loop-i-preserved c =
    let s = c.args in
    let l = c.loop-i-test.true in
    let stays : List ℕ → Bool = hash_stays s.hashes.now s.n s.marks.now in
    let room = fits s.hashes.now s.n s.marks.now s.list.now c.count_kept-count.ensures c.if-out-count.false in
    elim c.if-is_kept.branch [
      | then-is_kept w ↦
          rw (w.out-is, w.c-is)
          (enter_next stays s.list.now (length s.list.now / 32) (omega arith) c.loop-i.invariant room l (sym c.is_kept.ensures ∙ w.if-is_kept.true) _ _ w.enter_hash-c.ensures.value w.enter_hash-c.ensures.out_after)
      | else-is_kept w ↦
          rw (w.out-is, w.c-is) (enter_skip stays s.list.now (length s.list.now / 32) (omega arith) c.loop-i.invariant room l (sym c.is_kept.ensures ∙ w.if-is_kept.false))
    ]

pub overflow_mul-result : goal.overflow_mul-result
overflow_mul-result c =
    let s = c.args in
    let room = fits s.hashes.now s.n s.marks.now s.list.now c.count_kept-count.ensures c.if-out-count.false in
    let b = kept_room (hash_stays s.hashes.now s.n s.marks.now) s.list.now (length s.list.now / 32) (omega arith) c.loop-i.invariant room (omega arith) in
    omega arith

pub returns : goal.returns
returns c =
    let s = c.args in
    let l = c.loop-i in
    let z : l.i ≡ length s.list.now / 32 = omega arith in
    let room = fits s.hashes.now s.n s.marks.now s.list.now c.count_kept-count.ensures c.if-out-count.false in
    record {
      value = entered_told s.hashes.now s.n s.marks.now s.list.now l.invariant room z;
      out_after = entered_whole s.hashes.now s.n s.marks.now s.list.now l.invariant room z;
    }
